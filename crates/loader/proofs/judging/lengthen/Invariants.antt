-- `loader::judging::lengthen`: each turn takes what is permitted and clear from the stretch's end on.
use Prim.Native.Nat.{ℕ, ◌-◌, ◌≤◌}
use mathlib.Core.Path.{◌≡◌}
use mathlib.Core.List.{List}
use Rattle.loader.specs.declared.judging.Stretch.{Stretch}
use Rattle.loader.specs.Judging.{Open}
use Rattle.loader.proofs.judging.lengthen.Given as goal

-- r is the stretch s made longer
pub record Longer (m : List ℕ) (s r : Stretch) : Type 0 where
  pub is : Open m r
  pub from : r.from ≡ s.from
  pub far : s.until ≤ r.until

abbrev pub invariant-loop-longer : goal.invariant-loop-longer
invariant-loop-longer l = Longer l.map l.initial.longer l.longer

abbrev pub decreases-loop-longer : goal.decreases-loop-longer
decreases-loop-longer l = l.end - l.longer.until
