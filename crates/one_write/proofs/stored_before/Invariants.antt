-- `one_write::stored_before`: of the range, the sections that are left say the same as all the first ones.
use Prim.Native.Nat.{ℕ, ◌-◌, ◌≤◌, ◌<◌}
use mathlib.Core.Path.{◌≡◌}
use mathlib.Core.List.{List}
use lib.ListN.{take}
use Rattle.words.specs.declared.ByteOrder.{ByteOrder}
use Rattle.boot_table.specs.Table.{reading, read_on}
use Rattle.one_write.specs.Once.{written}
use Rattle.one_write.proofs.stored_before.Given as goal

-- the table is whole from the offset on, and of the range its sections there say the same as the first k of all
pub record Left (o : ByteOrder) (m t : List ℕ) (k first end at left : ℕ) : Type 0 where
  pub whole : (read_on o t at).fault ≡ 0
  pub rest : (x : ℕ) → first ≤ x → x < end → written m (take k (reading o t).sections) x ≡ written m (take left (read_on o t at).sections) x

abbrev pub invariant-loop : goal.invariant-loop
invariant-loop l = Left l.order l.map l.table l.sections l.span.first l.span.end l.offset (l.sections - l.counter)
