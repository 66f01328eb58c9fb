-- What judging and loading answer, and what loading leaves in memory. m is a map, t a table, o its byte order, mem memory.
use Rattle.std.specs.Prelude.{ℕ, List, [], ◌∷◌, ◌≡◌, Bool, true, false, not, length, eqb, Option, Some, None, Result, Ok, Err}
use Rattle.std.proofs.Math.Option.{Option as Maybe, none, some}
use Rattle.words.specs.declared.refusal.Refusal.{Refusal}
use Rattle.words.specs.declared.ByteOrder.{ByteOrder}
use Rattle.words.specs.Choice.{if}
use Rattle.words.specs.Refusal.{memory_length_number, not_open_number, stored_twice_number, number_of, place_of, address_of}
use Rattle.region_map.specs.Map.{SoundMap, map_answer, memory_size, is_open, closed_from}
use Rattle.boot_table.specs.Table.{entry_of, Sect, next_of, reading}
use Rattle.boot_table.specs.Form.{form_of, total, WellFormed}
use Rattle.boot_table.specs.Meaning.{covers}
use Rattle.boot_table.specs.Valid.{All}
use Rattle.one_write.specs.Once.{first_repeat, StoresOnce}
use Rattle.loader.specs.declared.Summary.{Summary}
use Rattle.loader.specs.Store.{store_all}

-- what judging and loading answer: number 0 for an accepted table, which has no place and no address; a refusal has its
-- number and place, and where an address is not open the lowest such address, and all else is zero
pub record Answer : Type 0 where
  pub number : ℕ
  pub place : ℕ
  pub address : ℕ
  pub entry : ℕ
  pub entry_open : Bool
  pub sections : ℕ
  pub bytes : ℕ

-- the numbers of what the code answers
abbrev pub answer_of : Result Summary Refusal → Answer
answer_of (Ok s) = record {
  number = 0;
  place = 0;
  address = 0;
  entry = s.entry;
  entry_open = s.entry_open;
  sections = s.sections;
  bytes = s.bytes;
}
answer_of (Err refusal) = record {
  number = number_of refusal;
  place = place_of refusal;
  address = address_of refusal;
  entry = 0;
  entry_open = false;
  sections = 0;
  bytes = 0;
}

-- a refusal: its number and place, all else zero
abbrev pub refused : ℕ → ℕ → Answer
refused number place =
    record { number = number; place = place; address = 0; entry = 0; entry_open = false; sections = 0; bytes = 0 }

-- the refusal of a section at an offset for its lowest address that is not open
abbrev pub not_open : ℕ → ℕ → Answer
not_open place address =
    record { number = not_open_number; place = place; address = address; entry = 0; entry_open = false; sections = 0; bytes = 0 }

-- the answer for an accepted table
unfoldable pub accepted : ByteOrder → List ℕ → List ℕ → Answer
accepted o m t = record {
  number = 0;
  place = 0;
  address = 0;
  entry = entry_of o t;
  entry_open = is_open m (entry_of o t);
  sections = length (reading o t).sections;
  bytes = total (reading o t).sections;
}

-- a section at offset at, by its lowest address that is not open: refused, or as the later ones are
abbrev pub on_closed : ℕ → Answer → Maybe ℕ → Answer
on_closed at later none = later
on_closed at later (some a) = not_open at a

-- the map rule, that every address of every section is open, for sections from offset at on: the first that breaks it is refused
unfoldable pub map_rule : List ℕ → Answer → ℕ → List Sect → Answer
map_rule m fine at [] = fine
map_rule m fine at (s ∷ ss) =
    on_closed at (map_rule m fine (next_of at (length s.body)) ss) (closed_from m (length s.body) s.address)

-- the first section that stores an address of kind 3 again is refused; else the answer is a later one
abbrev pub on_repeat : Answer → Option ℕ → Answer
on_repeat later None = later
on_repeat later (Some at) = refused stored_twice_number at

-- the answer for a table that keeps the map rule: no address of kind 3 is stored twice, or it is refused
unfoldable pub once_answer : ByteOrder → List ℕ → List ℕ → Answer
once_answer o m t = on_repeat (accepted o m t) (first_repeat o m t)

-- a fault of the table's form goes before a later answer
unfoldable pub form_first : ByteOrder → List ℕ → Answer → Answer
form_first o t later = if (not (eqb (form_of o t).number 0)) (refused (form_of o t).number (form_of o t).place) later

-- the answer for a table by its form and the map rule alone
unfoldable pub open_answer : ByteOrder → List ℕ → List ℕ → Answer
open_answer o m t = form_first o t (map_rule m (accepted o m t) 4 (reading o t).sections)

-- the answer for a table under a sound map: its form, then the map rule, and then that no address of kind 3 is stored twice
unfoldable pub table_answer : ByteOrder → List ℕ → List ℕ → Answer
table_answer o m t = form_first o t (map_rule m (once_answer o m t) 4 (reading o t).sections)

-- a fault of the map goes before a later answer
abbrev pub map_first : List ℕ → Answer → Answer
map_first m later = if (not (eqb (map_answer m).number 0)) (refused (map_answer m).number (map_answer m).place) later

-- what judging answers: the map, and then the table
unfoldable pub judge_answer : ByteOrder → List ℕ → List ℕ → Answer
judge_answer o m t = map_first m (table_answer o m t)

-- what loading answers, of memory with so many bytes: the map, the memory, and then the table
unfoldable pub load_answer : ByteOrder → List ℕ → List ℕ → ℕ → Answer
load_answer o m t room = map_first m (if (not (eqb room (memory_size m))) (refused memory_length_number 0) (table_answer o m t))

-- what loading leaves in memory: the sections stored in table order, or what was lent
unfoldable pub load_memory : ByteOrder → List ℕ → List ℕ → List ℕ → List ℕ
load_memory o m t mem = if (eqb (load_answer o m t (length mem)).number 0) (store_all m mem (reading o t).sections) mem

-- every address that a section covers is open
abbrev pub Opens : List ℕ → Sect → Type 0
Opens m s = (a : ℕ) → covers s a ≡ true → is_open m a ≡ true

-- when a table is accepted: a sound map, memory of its size, the form, the map rule, and no address of kind 3 stored twice
pub record Accepted (o : ByteOrder) (m t : List ℕ) (room : ℕ) : Type 0 where
  pub sound : SoundMap m
  pub size : room ≡ memory_size m
  pub form : WellFormed o t
  pub opens : All (Opens m) (reading o t).sections
  pub once : StoresOnce m (reading o t).sections
