-- For the contracts below the published one: what judging a list comes to, and the data of a section with its pads.
-- A length over the limit is not counted further, so that no sum is too large.
use Rattle.std.specs.Prelude.{ℕ, suc, ◌+◌, ◌^◌, List, [], ◌∷◌, ◌++◌, length, replicate, ltb, eqb}
use Rattle.std.specs.Prelude.{Result, Ok, Err, ⊤}
use Rattle.words.specs.Choice.{if}
use Rattle.words.specs.Word.{pad_count}
use Rattle.words.specs.declared.refusal.Refusal.{Refusal}
use Rattle.words.specs.declared.refusal.Refusal.TheVariants.{SizeZero, PastData, PastTop}
use Rattle.boot_table.specs.Table.{next_of}
use Rattle.boot_table.specs.Form.{table_limit}
use Rattle.writer.specs.declared.Section.{Section}

-- so many bytes of a table and a section more
unfoldable pub longer : ℕ → ℕ → ℕ
longer bytes size = if (ltb table_limit bytes) bytes (next_of bytes size)

-- the section x of index i over n bytes of data: its first fault, if it has one
unfoldable pub judge_one : Section → ℕ → ℕ → Result ⊤ Refusal
judge_one x i n =
    if (eqb x.size 0) (Err (SizeZero i))
    (if (ltb n (x.start + x.size)) (Err (PastData i))
    (if (ltb (2 ^ 32) (x.address + x.size)) (Err (PastTop i)) (Ok tt)))

-- a fault, or else what follows
abbrev pub or_fault : Result ⊤ Refusal → Result ℕ Refusal → Result ℕ Refusal
or_fault (Ok u) later = later
or_fault (Err refusal) later = Err refusal

-- the sections of a list, whose first has index i, behind so many bytes of a table: the first fault, or the length of the table
unfoldable pub judge_from : List Section → ℕ → ℕ → ℕ → Result ℕ Refusal
judge_from [] i n bytes = Ok bytes
judge_from (x ∷ xs) i n bytes = or_fault (judge_one x i n) (judge_from xs (suc i) n (longer bytes x.size))

-- data and its zero pads
unfoldable pub padded_data : List ℕ → List ℕ
padded_data body = body ++ replicate (pad_count (length body)) 0
