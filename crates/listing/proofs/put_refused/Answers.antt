-- `listing::put_refused`: five pieces are the line.
use Prim.Native.Nat.{◌+◌, ◌≤◌}
use native.Mathlib.Omega.{arith}
use lib.ListN.{length}
use Rattle.listing.specs.Listing.{refused_line}
use Rattle.listing.specs.Text.{decimal_text}
use Rattle.listing.proofs.TextLaws.{put_five}
use Rattle.listing.proofs.ListingLaws.{length_refused}
use Rattle.listing.proofs.put_refused.Goals as goal
use Rattle.listing.proofs.put_refused.Goals.{Start}

-- the buffer has room for the pieces of the line
room : (c : Start) → c.args.at + (13 + length (decimal_text c.args.number) + length (decimal_text c.args.place)) ≤ length c.args.buffer.now
room c = omega (arith, length_refused c.args.number c.args.place, c.requires)

pub put-a-requires : goal.put-a-requires
put-a-requires c = omega (arith, room (goal.at.put-a-requires c).Start)

pub put_decimal-b-requires : goal.put_decimal-b-requires
put_decimal-b-requires c = omega (arith, room (goal.at.put_decimal-b-requires c).Start)

pub put-c-requires : goal.put-c-requires
put-c-requires c = omega (arith, room (goal.at.put-c-requires c).Start)

pub put_decimal-d-requires : goal.put_decimal-d-requires
put_decimal-d-requires c = omega (arith, room (goal.at.put_decimal-d-requires c).Start)

pub put-requires : goal.put-requires
put-requires c = omega (arith, room (goal.at.put-requires c).Start)

pub returns : goal.returns
unfolding refused_line
returns c =
    put_five c.args.buffer.now c.args.at _ _ _ _ _ c.put-a.new.buffer c.put_decimal-b.new.buffer c.put-c.new.buffer c.put_decimal-d.new.buffer c.put.new.buffer _ _ _ _ _ c.requires c.put-a.ensures c.put_decimal-b.ensures c.put-c.ensures c.put_decimal-d.ensures c.put.ensures
