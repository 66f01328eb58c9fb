-- `rescue::write_rescued`: the zero word right behind the front is one run with it.
use mathlib.Core.Path.{sym, ap, ◌∙◌}
use mathlib.Core.List.{List}
use native.Mathlib.Omega.{arith}
use Prim.Native.Nat.{ℕ}
use lib.ListN.{length}
use Rattle.words.specs.Header.{header_bytes}
use Rattle.words.specs.Run.{over}
use Rattle.words.proofs.RunLaws.{over_front, over_over}
use Rattle.rescue.proofs.write_rescued.Goals as goal

pub returns : goal.returns
returns c =
    let front = c.args.front.now in
    let d = c.args.output.now in
    let zero = header_bytes c.args.order 0 in
    c.put_header.ensures
    ∙ ap (λ (x : List ℕ). over x (length front) zero) (c.copy.ensures ∙ sym (over_front d front))
    ∙ over_over d 0 front (omega (arith, c.requires)) zero (length front) (omega arith)
