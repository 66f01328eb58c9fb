-- The form of a table: its first fault, or how many sections and data bytes it has. t is a table, o its byte order.
use Rattle.std.specs.Prelude.{ℕ, ◌+◌, ◌≤◌, ◌≡◌, List, [], ◌∷◌, length, ltb, eqb}
use Rattle.std.specs.Prelude.{Result, Ok, Err}
use Rattle.words.specs.declared.ByteOrder.{ByteOrder}
use Rattle.words.specs.Choice.{if}
use Rattle.words.specs.Refusal.{table_long_number, number_of, place_of}
use Rattle.words.specs.declared.refusal.Refusal.{Refusal}
use Rattle.boot_table.specs.declared.Counts.{Counts}
use Rattle.boot_table.specs.Table.{Sect, Reading, reading}

-- how many bytes a table has at most
abbrev pub table_limit : ℕ
table_limit = 16777216

-- how many data bytes sections have together
unfoldable pub total : List Sect → ℕ
total [] = 0
total (s ∷ ss) = length s.body + total ss

-- the form of a table: number 0 with its sections and data bytes, or its first fault
pub record Form : Type 0 where
  pub number : ℕ
  pub place : ℕ
  pub sections : ℕ
  pub bytes : ℕ

abbrev pub misformed : ℕ → ℕ → Form
misformed number place = record { number = number; place = place; sections = 0; bytes = 0 }

abbrev pub formed : ℕ → ℕ → Form
formed sections bytes = record { number = 0; place = 0; sections = sections; bytes = bytes }

-- the form that a reading comes to
unfoldable pub read_form : Reading → Form
read_form r = if (eqb r.fault 0) (formed (length r.sections) (total r.sections)) (misformed r.fault r.place)

-- the form of a table: its limit, and then its first fault in table order
unfoldable pub form_of : ByteOrder → List ℕ → Form
form_of o t = if (ltb table_limit (length t)) (misformed table_long_number 0) (read_form (reading o t))

-- the form that the code answers
abbrev pub answer_of : Result Counts Refusal → Form
answer_of (Ok counts) = formed counts.sections counts.bytes
answer_of (Err refusal) = misformed (number_of refusal) (place_of refusal)

-- a table is well-formed: within the limit, and read to its end without a fault
pub record WellFormed (o : ByteOrder) (t : List ℕ) : Type 0 where
  pub short : length t ≤ table_limit
  pub whole : (reading o t).fault ≡ 0
