-- `listing::put_sections`: the lines before the offset are written, and writing those from it on comes to writing all.
use Prim.Native.Nat.{ℕ, ◌+◌, ◌-◌}
use mathlib.Core.Path.{◌≡◌}
use mathlib.Core.List.{List}
use lib.ListN.{length}
use Rattle.words.specs.declared.ByteOrder.{ByteOrder}
use Rattle.words.specs.Run.{over}
use Rattle.boot_table.specs.Table.{reading, read_on}
use Rattle.listing.specs.Listing.{section_lines}
use Rattle.listing.proofs.put_sections.Given as goal

-- the table is whole from at on, and the lines before at are written up to offset to
pub record Listed (o : ByteOrder) (t d : List ℕ) (from : ℕ) (out : List ℕ) (at to : ℕ) : Type 0 where
  pub whole : (read_on o t at).fault ≡ 0
  pub same : length out ≡ length d
  pub place : from + length (section_lines (reading o t).sections) ≡ to + length (section_lines (read_on o t at).sections)
  pub rest : over d from (section_lines (reading o t).sections) ≡ over out to (section_lines (read_on o t at).sections)

abbrev pub invariant-loop-section : goal.invariant-loop-section
invariant-loop-section l = Listed l.order l.table l.initial.buffer l.from l.buffer l.at l.to

abbrev pub decreases-loop-section : goal.decreases-loop-section
decreases-loop-section l = length l.table - l.at
