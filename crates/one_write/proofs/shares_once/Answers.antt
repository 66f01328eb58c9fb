-- `one_write::shares_once`: the two sections share the addresses from the higher start up to the lower end.
use native.Mathlib.Omega.{arith}
use Rattle.one_write.proofs.WalkLaws.{meets_none, once_test}
use Rattle.one_write.proofs.shares_once.Goals as goal

pub returns-then-to-from : goal.returns-then-to-from
returns-then-to-from c = meets_none _ _ _ (λ x l u. absurd (omega arith))

pub returns : goal.returns
returns c =
    rw (← c.max-from.ensures, ← c.min-to.ensures)
    (once_test _ c.max-from.result c.min-to.result _ c.once_from.ensures (omega arith) (omega (arith, c.args.span.within)))
