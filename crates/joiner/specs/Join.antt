-- Joining two tables: what is answered, and what the output holds. a is the first table, b the second, o the byte order of both and of the join.
use Rattle.std.specs.Prelude.{ℕ, ◌+◌, ◌-◌, List, ◌++◌, not, length, take, drop, ltb, eqb}
use Rattle.std.specs.Prelude.{Result, Ok, Err}
use Rattle.words.specs.declared.ByteOrder.{ByteOrder}
use Rattle.words.specs.Choice.{if}
use Rattle.words.specs.Refusal.{result_long_number, output_short_number, number_of, place_of}
use Rattle.boot_table.specs.Table.{entry_of, table_of, reading}
use Rattle.boot_table.specs.Form.{table_limit, form_of}
use Rattle.joiner.specs.declared.Joined.{Joined}
use Rattle.joiner.specs.declared.JoinRefusal.{JoinRefusal}
use Rattle.joiner.specs.declared.JoinRefusal.TheVariants.{First, Second, Join}

-- the join: the second's entry, the first's sections, the second's sections, zero word
unfoldable pub joined : ByteOrder → List ℕ → List ℕ → List ℕ
joined o a b = table_of o (entry_of o b) ((reading o a).sections ++ (reading o b).sections)

-- its length: the two lengths summed, less 8
unfoldable pub joined_length : List ℕ → List ℕ → ℕ
joined_length a b = length a + length b - 8

-- the bytes of a table between its entry word and its zero word
abbrev pub section_bytes : List ℕ → List ℕ
section_bytes t = take (length t - 8) (drop 4 t)

-- the join at the front of an output, whose bytes past it stay
abbrev pub joined_over : ByteOrder → List ℕ → List ℕ → List ℕ → List ℕ
joined_over o a b out = joined o a b ++ drop (joined_length a b) out

-- what joining answers: number 0 with the join's length and sections, or a refusal's number and place and the table that it speaks of,
-- 1 or 2, or 0 for the join itself
pub record JoinAnswer : Type 0 where
  pub number : ℕ
  pub place : ℕ
  pub which : ℕ
  pub length : ℕ
  pub sections : ℕ

-- a refusal: its number and place, and which table it speaks of, all else zero
abbrev pub join_refused : ℕ → ℕ → ℕ → JoinAnswer
join_refused number place which = record { number = number; place = place; which = which; length = 0; sections = 0 }

-- what joining answers, of an output with room for so many bytes: the first table, the second, the limit, and then the output
unfoldable pub join_answer : ByteOrder → List ℕ → List ℕ → ℕ → JoinAnswer
join_answer o a b room =
    if (not (eqb (form_of o a).number 0)) (join_refused (form_of o a).number (form_of o a).place 1)
    (if (not (eqb (form_of o b).number 0)) (join_refused (form_of o b).number (form_of o b).place 2)
    (if (ltb table_limit (joined_length a b)) (join_refused result_long_number 0 0)
    (if (ltb room (joined_length a b)) (join_refused output_short_number 0 0)
    (record { number = 0; place = 0; which = 0; length = joined_length a b; sections = (form_of o a).sections + (form_of o b).sections }))))

-- what joining leaves in the output: the join and the bytes past it, or what was lent
unfoldable pub join_output : ByteOrder → List ℕ → List ℕ → List ℕ → List ℕ
join_output o a b out = if (eqb (join_answer o a b (length out)).number 0) (joined_over o a b out) out

-- the answer that the code gives
abbrev pub answer_of : Result Joined JoinRefusal → JoinAnswer
answer_of (Ok j) = record { number = 0; place = 0; which = 0; length = j.length; sections = j.sections }
answer_of (Err (First refusal)) = join_refused (number_of refusal) (place_of refusal) 1
answer_of (Err (Second refusal)) = join_refused (number_of refusal) (place_of refusal) 2
answer_of (Err (Join refusal)) = join_refused (number_of refusal) (place_of refusal) 0
