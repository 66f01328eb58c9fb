-- `rescue::whole_run`: the sections that were passed and those that are read on come to the run of the table.
use Prim.Native.Nat.{ℕ, ◌≤◌, ◌-◌}
use mathlib.Core.Path.{◌≡◌}
use mathlib.Core.List.{List}
use lib.ListN.{length}
use Rattle.words.specs.declared.ByteOrder.{ByteOrder}
use Rattle.boot_table.specs.Table.{read_on}
use Rattle.rescue.specs.WholeRun.{run_on, whole_run}
use Rattle.rescue.proofs.whole_run.Given as goal

-- k sections stand before at, and what is read on decides the run
pub record Passed (o : ByteOrder) (t : List ℕ) (at k : ℕ) : Type 0 where
  pub within : at ≤ length t
  pub few : k ≤ at
  pub run : whole_run o t ≡ run_on o k at (read_on o t at)

abbrev pub invariant-loop-section : goal.invariant-loop-section
invariant-loop-section l = Passed l.order l.table l.at l.sections

abbrev pub decreases-loop-section : goal.decreases-loop-section
decreases-loop-section l = length l.table - l.at
