-- `boot_table::form_of`: what was passed and what reading on finds come to the form of the table.
use Prim.Native.Nat.{ℕ, ◌≤◌, ◌-◌}
use mathlib.Core.Path.{◌≡◌}
use mathlib.Core.List.{List}
use lib.ListN.{length}
use Rattle.words.specs.declared.ByteOrder.{ByteOrder}
use Rattle.boot_table.specs.Table.{read_on}
use Rattle.boot_table.specs.Form.{form_of}
use Rattle.boot_table.specs.Walk.{tally}
use Rattle.boot_table.proofs.form_of.Given as goal

-- k sections with b data bytes stand before at, and what is read on decides the form
pub record Passed (o : ByteOrder) (t : List ℕ) (at k b : ℕ) : Type 0 where
  pub within : at ≤ length t
  pub few : k ≤ at
  pub small : b ≤ at
  pub form : form_of o t ≡ tally k b (read_on o t at)

abbrev pub invariant-loop-section : goal.invariant-loop-section
invariant-loop-section l = Passed l.order l.table l.at l.sections l.bytes

abbrev pub decreases-loop-section : goal.decreases-loop-section
decreases-loop-section l = length l.table - l.at
