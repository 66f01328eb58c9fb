-- Rescuing a cut table: what is answered, and what the output holds. t is a table, o its byte order.
use Rattle.std.specs.Prelude.{ℕ, ◌-◌, List, ◌++◌, Bool, false, not, ◌||◌, length, drop, ltb, eqb}
use Rattle.std.specs.Prelude.{Result, Ok, Err}
use Rattle.words.specs.declared.ByteOrder.{ByteOrder}
use Rattle.words.specs.Choice.{if}
use Rattle.words.specs.Refusal.{table_long_number, table_cut_number, bytes_after_number, result_long_number, output_short_number, number_of, place_of}
use Rattle.words.specs.declared.refusal.Refusal.{Refusal}
use Rattle.boot_table.specs.Table.{Sect, Reading, entry_of, table_of, reading}
use Rattle.boot_table.specs.Form.{table_limit}
use Rattle.rescue.specs.declared.Rescued.{Rescued}

-- the sections kept: the whole ones from the start, up to the end or the first fault
abbrev pub kept : ByteOrder → List ℕ → List Sect
kept o t = (reading o t).sections

-- the rescued table: the entry, the sections kept, a zero word
unfoldable pub rescued : ByteOrder → List ℕ → List ℕ
rescued o t = table_of o (entry_of o t) (kept o t)

-- a reading ends at a zero word: it has no fault, or its fault is that bytes stand after that word
unfoldable pub has_zero : Reading → Bool
has_zero r = eqb r.fault 0 || eqb r.fault bytes_after_number

-- whether the zero word has to be added
abbrev pub zero_added : ByteOrder → List ℕ → Bool
zero_added o t = not (has_zero (reading o t))

-- how many bytes of the input are used: those of the rescued table, but for a zero word that is added
unfoldable pub used_bytes : ByteOrder → List ℕ → ℕ
used_bytes o t = length (rescued o t) - if (zero_added o t) 4 0

-- what rescuing answers, in numbers: number 0, the result's length, how many sections are kept, how many bytes of the input are not used, and whether the zero word is added; or a refusal
pub record RescueAnswer : Type 0 where
  pub number : ℕ
  pub place : ℕ
  pub length : ℕ
  pub sections : ℕ
  pub unused : ℕ
  pub added : Bool

-- a refusal: its number, all else zero
abbrev pub rescue_refused : ℕ → RescueAnswer
rescue_refused number = record { number = number; place = 0; length = 0; sections = 0; unused = 0; added = false }

-- the answer for a table that is rescued
abbrev pub done_answer : ByteOrder → List ℕ → RescueAnswer
done_answer o t = record {
  number = 0;
  place = 0;
  length = length (rescued o t);
  sections = length (kept o t);
  unused = length t - used_bytes o t;
  added = zero_added o t;
}

-- what rescuing answers, of an output with room for so many bytes: the input's limit, its entry word, the result's limit, and then the output
unfoldable pub rescue_answer : ByteOrder → List ℕ → ℕ → RescueAnswer
rescue_answer o t room =
    if (ltb table_limit (length t)) (rescue_refused table_long_number)
    (if (ltb (length t) 4) (rescue_refused table_cut_number)
    (if (ltb table_limit (length (rescued o t))) (rescue_refused result_long_number)
    (if (ltb room (length (rescued o t))) (rescue_refused output_short_number)
    (done_answer o t))))

-- what the answer of the code stands for
abbrev pub answer_of : Result Rescued Refusal → RescueAnswer
answer_of (Ok r) = record { number = 0; place = 0; length = r.length; sections = r.sections; unused = r.unused; added = r.added }
answer_of (Err refusal) =
    record { number = number_of refusal; place = place_of refusal; length = 0; sections = 0; unused = 0; added = false }

-- what rescuing leaves in the output: the rescued table and the bytes past it, or what was lent
unfoldable pub rescue_output : ByteOrder → List ℕ → List ℕ → List ℕ
rescue_output o t out = if (eqb (rescue_answer o t (length out)).number 0) (rescued o t ++ drop (length (rescued o t)) out) out
