-- `joiner::copy_sections`: the sections before the offset are copied as one run, and the table is whole from there on.
use Prim.Native.Nat.{ℕ, ◌≤◌, ◌+◌, ◌-◌}
use mathlib.Core.Path.{◌≡◌}
use mathlib.Core.List.{List}
use lib.ListN.{length, take, drop}
use Rattle.words.specs.declared.ByteOrder.{ByteOrder}
use Rattle.words.specs.Run.{over}
use Rattle.boot_table.specs.Table.{read_on}
use Rattle.joiner.proofs.copy_sections.Given as goal

-- the table is whole from at on, and its sections before at are copied into the output, where they end at offset to
pub record Copied (o : ByteOrder) (t d : List ℕ) (from : ℕ) (out : List ℕ) (at to : ℕ) : Type 0 where
  pub low : 4 ≤ at
  pub whole : (read_on o t at).fault ≡ 0
  pub room : at + 4 ≤ length t
  pub place : to + 4 ≡ from + at
  pub same : length out ≡ length d
  pub is : out ≡ over d from (take (at - 4) (drop 4 t))

abbrev pub invariant-loop-section : goal.invariant-loop-section
invariant-loop-section l = Copied l.order l.table l.initial.output l.from l.output l.at l.to

abbrev pub decreases-loop-section : goal.decreases-loop-section
decreases-loop-section l = length l.table - l.at
