-- For the contracts below the published one: the whole sections from a table's start by their number and their end.
use Rattle.std.specs.Prelude.{ℕ, ◌+◌, List, Bool, length}
use Rattle.words.specs.declared.ByteOrder.{ByteOrder}
use Rattle.words.specs.Choice.{if}
use Rattle.boot_table.specs.Table.{Reading, chunks, reading}
use Rattle.rescue.specs.declared.Run.{Run}
use Rattle.rescue.specs.Rescue.{has_zero}

-- the run of so many sections before offset at, and those of a reading from there on
unfoldable pub run_on : ByteOrder → ℕ → ℕ → Reading → Run
run_on o k at r = record { sections = k + length r.sections; end = at + length (chunks o r.sections); zero = has_zero r }

-- the run of a table
unfoldable pub whole_run : ByteOrder → List ℕ → Run
whole_run o t = run_on o 0 4 (reading o t)

-- how many bytes are used of a table whose whole sections end at an offset, where a zero word stands or not
unfoldable pub used_to : ℕ → Bool → ℕ
used_to end zero = if zero (end + 4) end
