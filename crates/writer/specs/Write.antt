-- Writing a table from a list of sections: what is answered, and what the output holds.
-- xs is the list, d the data that its starts point into, o the byte order of the table.
use Rattle.std.specs.Prelude.{ℕ, suc, ◌+◌, ◌^◌, ◌≡◌, List, [], ◌∷◌, ◌++◌, length, take, drop, replicate, ltb, eqb}
use Rattle.std.specs.Prelude.{Result, Ok, Err}
use Rattle.words.specs.declared.ByteOrder.{ByteOrder}
use Rattle.words.specs.Choice.{if}
use Rattle.words.specs.Word.{pad_count}
use Rattle.words.specs.Refusal.{past_top_number, result_long_number, output_short_number, past_data_number, size_zero_number, number_of, place_of}
use Rattle.words.specs.declared.refusal.Refusal.{Refusal}
use Rattle.boot_table.specs.Table.{Sect, table_of}
use Rattle.boot_table.specs.Form.{table_limit}
use Rattle.writer.specs.declared.Section.{Section}
use Rattle.writer.specs.declared.Written.{Written}

-- ---- the table of a list

-- the data of a section of the list: as many bytes as its size says, from its start on
unfoldable pub data_of : List ℕ → Section → List ℕ
data_of d x = take x.size (drop x.start d)

-- a section of the list as a section of a table: its address, its data, and zero pads
unfoldable pub sect_of : List ℕ → Section → Sect
sect_of d x = record { address = x.address; body = data_of d x; pads = replicate (pad_count x.size) 0 }

-- the sections of a table, one for each of the list, in the list's order
unfoldable pub sects_of : List Section → List ℕ → List Sect
sects_of [] d = []
sects_of (x ∷ xs) d = sect_of d x ∷ sects_of xs d

-- the table that is written: entry word, sections, zero word
unfoldable pub written_table : ByteOrder → ℕ → List Section → List ℕ → List ℕ
written_table o entry xs d = table_of o entry (sects_of xs d)

-- ---- the first bad section

-- the number of a section's first fault over n bytes of data, in the order 21, 20, 8; 0 where it has none
unfoldable pub fault_of : Section → ℕ → ℕ
fault_of x n =
    if (eqb x.size 0) size_zero_number
    (if (ltb n (x.start + x.size)) past_data_number
    (if (ltb (2 ^ 32) (x.address + x.size)) past_top_number 0))

-- no section of the list has a fault
pub data Faultless (n : ℕ) : List Section → Type 0 where
  none : Faultless n []
  also : {x : Section} {xs : List Section} → fault_of x n ≡ 0 → Faultless n xs → Faultless n (x ∷ xs)

-- what writing answers: number 0 with the table's length and sections, or a refusal's number and place
pub record WriteAnswer : Type 0 where
  pub number : ℕ
  pub place : ℕ
  pub length : ℕ
  pub sections : ℕ

-- a refusal: its number and place, all else zero
abbrev pub write_refused : ℕ → ℕ → WriteAnswer
write_refused number place = record { number = number; place = place; length = 0; sections = 0 }

-- the first bad section of a list over n bytes of data, whose first section has index i, is refused; else the answer is `fine`
unfoldable pub list_rule : ℕ → WriteAnswer → ℕ → List Section → WriteAnswer
list_rule n fine i [] = fine
list_rule n fine i (x ∷ xs) = if (eqb (fault_of x n) 0) (list_rule n fine (suc i) xs) (write_refused (fault_of x n) i)

-- ---- the answer and the output

-- the answer for a table of so many bytes and sections, and an output with room for so many bytes: the limit, and then the output
unfoldable pub room_rule : ℕ → ℕ → ℕ → WriteAnswer
room_rule bytes count room =
    if (ltb table_limit bytes) (write_refused result_long_number 0)
    (if (ltb room bytes) (write_refused output_short_number 0)
    (record { number = 0; place = 0; length = bytes; sections = count }))

-- what writing answers, of an output with room for so many bytes: the first bad section, the limit, and then the output
unfoldable pub write_answer : ByteOrder → ℕ → List Section → List ℕ → ℕ → WriteAnswer
write_answer o entry xs d room = list_rule (length d) (room_rule (length (written_table o entry xs d)) (length xs) room) 0 xs

-- what writing leaves in the output: the table and the bytes past it, or what was lent
unfoldable pub write_output : ByteOrder → ℕ → List Section → List ℕ → List ℕ → List ℕ
write_output o entry xs d out =
    if (eqb (write_answer o entry xs d (length out)).number 0)
    (written_table o entry xs d ++ drop (length (written_table o entry xs d)) out)
    out

-- the answer that the code gives
abbrev pub answer_of : Result Written Refusal → WriteAnswer
answer_of (Ok w) = record { number = 0; place = 0; length = w.length; sections = w.sections }
answer_of (Err refusal) = write_refused (number_of refusal) (place_of refusal)
