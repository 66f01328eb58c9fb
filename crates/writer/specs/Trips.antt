-- Written tables and read ones, both ways: what a list must be for its table to be written, what is read back, and the list and the data of a table's own sections.
use Rattle.std.specs.Prelude.{ℕ, ◌+◌, ◌^◌, ◌≤◌, ◌<◌, ◌≡◌, List, [], ◌∷◌, ◌++◌, length, take, drop, replicate}
use Rattle.words.specs.declared.ByteOrder.{ByteOrder}
use Rattle.words.specs.Word.{Bytes}
use Rattle.boot_table.specs.Table.{Sect, entry_of, reading}
use Rattle.boot_table.specs.Form.{table_limit, WellFormed}
use Rattle.boot_table.specs.Valid.{All}
use Rattle.writer.specs.declared.Section.{Section}
use Rattle.writer.specs.Write.{sects_of, written_table, Faultless, write_answer, write_output}

-- ---- written, then read

-- a table can be written: no section of the list has a fault, the table is within the limit, and the output has room for it
pub record Writable (o : ByteOrder) (entry : ℕ) (xs : List Section) (d : List ℕ) (room : ℕ) : Type 0 where
  pub faultless : Faultless (length d) xs
  pub short : length (written_table o entry xs d) ≤ table_limit
  pub fits : length (written_table o entry xs d) ≤ room

-- the output's first bytes, as many as the answer reports
unfoldable pub written_in : ByteOrder → ℕ → List Section → List ℕ → List ℕ → List ℕ
written_in o entry xs d out = take (write_answer o entry xs d (length out)).length (write_output o entry xs d out)

-- t reads back as what it was written from: a well-formed table with the entry, and for each section of the list, in its order,
-- a section with its address, its data and zero pads
pub record ReadsBack (o : ByteOrder) (entry : ℕ) (xs : List Section) (d t : List ℕ) : Type 0 where
  pub well : WellFormed o t
  pub begins : entry_of o t ≡ entry
  pub sections : (reading o t).sections ≡ sects_of xs d
  pub count : length (reading o t).sections ≡ length xs

-- Reading a written table back gives what it was written from: in every byte order, wherever the table can be written, with room in the output.
abbrev pub WrittenReads : Type 0
WrittenReads = (o : ByteOrder) (entry : ℕ) (xs : List Section) (d out : List ℕ)
    → entry < 2 ^ 32 → Writable o entry xs d (length out) → ReadsBack o entry xs d (written_in o entry xs d out)

-- ---- read, then written

-- the data of sections, one after the other
unfoldable pub own_data : List Sect → List ℕ
own_data [] = []
own_data (s ∷ ss) = s.body ++ own_data ss

-- the list of sections whose data stands so, from a start on
unfoldable pub own_list : ℕ → List Sect → List Section
own_list start [] = []
own_list start (s ∷ ss) =
    record { address = s.address; start = start; size = length s.body } ∷ own_list (start + length s.body) ss

-- the numbers of each section fit the words of a list that is lent
pub data Words : List Section → Type 0 where
  none : Words []
  also : {x : Section} {xs : List Section} → x.address < 2 ^ 32 → x.start < 2 ^ 32 → x.size < 2 ^ 32 → Words xs → Words (x ∷ xs)

-- the pads of a section are zero
unfoldable pub ZeroPads : Sect → Type 0
ZeroPads s = s.pads ≡ replicate (length s.pads) 0

-- a table's entry, and the list and the data of its own sections, can be lent, and t is what the writer makes from them
pub record Rewritten (o : ByteOrder) (t out : List ℕ) : Type 0 where
  pub entry : entry_of o t < 2 ^ 32
  pub words : Words (own_list 0 (reading o t).sections)
  pub bytes : Bytes (own_data (reading o t).sections)
  pub answer : write_answer o (entry_of o t) (own_list 0 (reading o t).sections) (own_data (reading o t).sections) (length out)
      ≡ record { number = 0; place = 0; length = length t; sections = length (reading o t).sections }
  pub output : write_output o (entry_of o t) (own_list 0 (reading o t).sections) (own_data (reading o t).sections) out ≡ t ++ drop (length t) out

-- Every well-formed table whose pads are zero is what the writer makes from its own sections: in every byte order, and for every output with room.
abbrev pub TablesRewritten : Type 0
TablesRewritten = (o : ByteOrder) (t out : List ℕ)
    → Bytes t → WellFormed o t → All ZeroPads (reading o t).sections → length t ≤ length out → Rewritten o t out
