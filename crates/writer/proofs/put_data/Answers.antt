-- `writer::put_data`: one word, or a cleared last word and the data over it.
use Prim.Native.Nat.{ℕ, ◌+◌}
use mathlib.Core.Path.{ap}
use native.Mathlib.Omega.{arith}
use Rattle.words.proofs.RunLaws.{lent_back}
use Rattle.writer.proofs.SectionLaws.{cleared_data}
use Rattle.writer.proofs.put_data.Goals as goal

pub returns : goal.returns
returns c =
    let is = ap (λ (n : ℕ). c.args.at + n) c.padded.ensures in (
      is,
      cleared_data _ _ _ _ (omega arith) is (omega (arith, c.requires, is)) c.put_four.ensures
          (lent_back c.put_four.new.output _ c.copy.new.part c.args.at (omega (arith, c.requires)) c.copy.ensures),
    )
