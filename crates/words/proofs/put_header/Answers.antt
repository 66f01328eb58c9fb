-- `words::put_header`: the bytes of the word from the highest to the lowest, or the other way round.
use Prim.Native.Nat.{ℕ}
use mathlib.Core.Path.{ap, ◌∙◌}
use mathlib.Core.List.{List}
use Rattle.words.specs.Run.{over}
use Rattle.words.proofs.HeaderLaws.{high_bytes, low_bytes}
use Rattle.words.proofs.put_header.Goals as goal

pub returns-in-HighFirst : goal.returns-in-HighFirst
returns-in-HighFirst c =
    rw c.in-HighFirst.is (c.put_four.ensures
    ∙ ap (λ (xs : List ℕ). over c.args.output.now c.args.at xs) (c.to_be_bytes.ensures ∙ high_bytes c.args.word))

pub returns-in-LowFirst : goal.returns-in-LowFirst
returns-in-LowFirst c =
    rw c.in-LowFirst.is (c.put_four-in-LowFirst.ensures
    ∙ ap (λ (xs : List ℕ). over c.args.output.now c.args.at xs) (c.to_le_bytes.ensures ∙ low_bytes c.args.word))
