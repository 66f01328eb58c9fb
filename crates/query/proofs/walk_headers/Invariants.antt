-- `query::walk_headers`: the hit and the bytes read so far, and what reading on finds, come to the walk over the table.
use Prim.Native.Nat.{ℕ, ◌≤◌, ◌-◌}
use mathlib.Core.Path.{◌≡◌}
use mathlib.Core.List.{List}
use lib.ListN.{length}
use Rattle.std.specs.Prelude.{Option}
use Rattle.words.specs.declared.ByteOrder.{ByteOrder}
use Rattle.boot_table.specs.Table.{read_on}
use Rattle.query.specs.declared.Hit.{Hit}
use Rattle.query.specs.Find.{walked}
use Rattle.query.proofs.WalkLaws.{resume}
use Rattle.query.proofs.walk_headers.Given as goal

-- no more bytes were read than stand before at, and what is read on decides what the walk comes to
pub record Passed (o : ByteOrder) (t : List ℕ) (a at : ℕ) (hit : Option Hit) (read : ℕ) : Type 0 where
  pub within : at ≤ length t
  pub few : read ≤ at
  pub is : walked o t a ≡ resume a hit read at (read_on o t at)

abbrev pub invariant-loop-section : goal.invariant-loop-section
invariant-loop-section l = Passed l.order l.table l.address l.at l.hit l.read

abbrev pub decreases-loop-section : goal.decreases-loop-section
decreases-loop-section l = length l.table - l.at
