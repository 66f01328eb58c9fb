-- `listing::put`: the part that was lent is back with the bytes at its front.
use mathlib.Core.Path.{refl}
use native.Mathlib.Omega.{arith}
use Rattle.words.proofs.RunLaws.{lent_back}
use Rattle.listing.proofs.put.Goals as goal

pub returns : goal.returns
returns c =
    record {
      value = refl;
      buffer_after = lent_back c.args.buffer.now c.args.bytes.now c.copy.new.part c.args.at (omega arith) c.copy.ensures;
    }
