-- `listing::put_entry`: three pieces are the line.
use Prim.Native.Nat.{◌+◌, ◌≤◌}
use native.Mathlib.Omega.{arith}
use lib.ListN.{length}
use Rattle.listing.specs.Listing.{entry_line}
use Rattle.listing.specs.Text.{hex_text}
use Rattle.listing.proofs.TextLaws.{put_three}
use Rattle.listing.proofs.ListingLaws.{length_entry}
use Rattle.listing.proofs.put_entry.Goals as goal
use Rattle.listing.proofs.put_entry.Goals.{Start}

-- the buffer has room for the pieces of the line
room : (c : Start) → c.args.at + (15) ≤ length c.args.buffer.now
room c = omega (arith, length_entry c.args.entry, c.requires)

pub put-a-requires : goal.put-a-requires
put-a-requires c = omega (arith, room (goal.at.put-a-requires c).Start)

pub put_hex-b-requires : goal.put_hex-b-requires
put_hex-b-requires c = omega (arith, room (goal.at.put_hex-b-requires c).Start)

pub put-requires : goal.put-requires
put-requires c = omega (arith, room (goal.at.put-requires c).Start)

pub returns : goal.returns
unfolding entry_line hex_text
returns c =
    put_three c.args.buffer.now c.args.at _ _ _ c.put-a.new.buffer c.put_hex-b.new.buffer c.put.new.buffer _ _ _ c.requires c.put-a.ensures c.put_hex-b.ensures c.put.ensures
