-- The region map: its records, its first fault, the addresses that it opens, those that take one write, and their places in memory. m is a map.
use Rattle.std.specs.Prelude.{ℕ, zero, suc, ◌+◌, ◌-◌, ◌*◌, ◌/◌, ◌%◌, ◌^◌, ◌≡◌, List, Bool, false, not, ◌&&◌, ◌||◌, length, get_or, ltb, leb, eqb, Option, Some, None, Result, Ok, Err}
use Rattle.std.proofs.Math.Option.{Option as Maybe, none, some}
use Rattle.words.specs.Choice.{if}
use Rattle.words.specs.Word.{word_at}
use Rattle.words.specs.Refusal.{number_of, place_of as refusal_place}
use Rattle.words.specs.declared.refusal.Refusal.{Refusal}
use Rattle.words.specs.declared.refusal.Refusal.TheVariants.{MapLength, MapRecord}

-- ---- records

-- how many bytes a record has
abbrev pub record_size : ℕ
record_size = 12

-- how many bytes a map has at most: those of 64 records
abbrev pub map_limit : ℕ
map_limit = 768

-- how many records a map has
abbrev pub count : List ℕ → ℕ
count m = length m / record_size

-- the two bytes of the mark
abbrev pub mark_first : ℕ
mark_first = 0x52

abbrev pub mark_second : ℕ
mark_second = 0x47

-- bytes 0-1 of record i are the mark
unfoldable pub marked : List ℕ → ℕ → Bool
marked m i = eqb (get_or m (record_size * i) 0) mark_first && eqb (get_or m (record_size * i + 1) 0) mark_second

-- byte 2: the kind
abbrev pub kind_at : List ℕ → ℕ → ℕ
kind_at m i = get_or m (record_size * i + 2) 0

-- record i is of the kind k
abbrev pub is_kind : List ℕ → ℕ → ℕ → Bool
is_kind m k i = eqb (kind_at m i) k

-- kinds 1 and 3 are permitted
unfoldable pub permitted : List ℕ → ℕ → Bool
permitted m i = is_kind m 1 i || is_kind m 3 i

-- kind 2 is reserved
unfoldable pub reserved : List ℕ → ℕ → Bool
reserved m i = is_kind m 2 i

-- kind 3 takes one write at each address in a load
unfoldable pub one_write : List ℕ → ℕ → Bool
one_write m i = is_kind m 3 i

-- no other kind is known
unfoldable pub known : List ℕ → ℕ → Bool
known m i = permitted m i || reserved m i

-- byte 3 is zero
unfoldable pub zeroed : List ℕ → ℕ → Bool
zeroed m i = eqb (get_or m (record_size * i + 3) 0) 0

-- bytes 4-7: the first address
abbrev pub first_at : List ℕ → ℕ → ℕ
first_at m i = word_at m (record_size * i + 4)

-- bytes 8-11: the length
abbrev pub length_at : List ℕ → ℕ → ℕ
length_at m i = word_at m (record_size * i + 8)

-- the address after the last of record i
abbrev pub end_at : List ℕ → ℕ → ℕ
end_at m i = first_at m i + length_at m i

-- record i holds the address a
unfoldable pub holds : List ℕ → ℕ → ℕ → Bool
holds m i a = leb (first_at m i) a && ltb a (end_at m i)

-- ---- the first fault

-- records i and j share an address
unfoldable pub shares : List ℕ → ℕ → ℕ → Bool
shares m i j = ltb (first_at m i) (end_at m j) && ltb (first_at m j) (end_at m i)

-- record i shares an address with a permitted one of the first n records
unfoldable pub shares_any : List ℕ → ℕ → ℕ → Bool
shares_any m i zero = false
shares_any m i (suc j) = (permitted m j && shares m i j) || shares_any m i j

-- record i breaks no rule
unfoldable pub sound_at : List ℕ → ℕ → Bool
sound_at m i =
    marked m i && known m i && zeroed m i && leb 1 (length_at m i) && leb (end_at m i) (2 ^ 32)
    && not (permitted m i && shares_any m i i)

-- the first of the n records from i on that breaks a rule
unfoldable pub fault_from : List ℕ → ℕ → ℕ → Option Refusal
fault_from m zero i = None
fault_from m (suc n) i = if (sound_at m i) (fault_from m n (suc i)) (Some (MapRecord i))

-- the first fault of a map: its length, or a record
unfoldable pub map_fault : List ℕ → Option Refusal
map_fault m = if (eqb (length m % record_size) 0 && leb (length m) map_limit) (fault_from m (count m) 0) (Some MapLength)

-- a map with no fault is sound
abbrev pub SoundMap : List ℕ → Type 0
SoundMap m = map_fault m ≡ None

-- ---- open addresses

-- one of the first n records that are of a kind holds the address a
unfoldable pub any_holds : (ℕ → Bool) → List ℕ → ℕ → ℕ → Bool
any_holds kind m zero a = false
any_holds kind m (suc i) a = (kind i && holds m i a) || any_holds kind m i a

-- an address is open when a permitted record holds it and no reserved record does
unfoldable pub is_open : List ℕ → ℕ → Bool
is_open m a = any_holds (permitted m) m (count m) a && not (any_holds (reserved m) m (count m) a)

-- an address takes one write when a record of kind 3 holds it
unfoldable pub once : List ℕ → ℕ → Bool
once m a = any_holds (one_write m) m (count m) a

-- the lowest of the n addresses from a on that is not open, if there is one
unfoldable pub closed_from : List ℕ → ℕ → ℕ → Maybe ℕ
closed_from m zero a = none
closed_from m (suc n) a = if (is_open m a) (closed_from m n (suc a)) (some a)

-- ---- memory and places

-- the lengths of the permitted ones of the first n records together
unfoldable pub size_before : List ℕ → ℕ → ℕ
size_before m zero = 0
size_before m (suc i) = size_before m i + if (permitted m i) (length_at m i) 0

-- the permitted sum: how many bytes lent memory has
abbrev pub memory_size : List ℕ → ℕ
memory_size m = size_before m (count m)

-- the permitted one of the first n records that holds the address a
unfoldable pub holder : List ℕ → ℕ → ℕ → Option ℕ
holder m zero a = None
holder m (suc i) a = if (permitted m i && holds m i a) (Some i) (holder m i a)

-- the permitted lengths before record i, plus the address less the record's first
abbrev pub place_in : List ℕ → ℕ → Option ℕ → ℕ
place_in m a None = 0
place_in m a (Some i) = size_before m i + (a - first_at m i)

-- where in memory the byte for the address a stands
unfoldable pub place_of : List ℕ → ℕ → ℕ
place_of m a = place_in m a (holder m (count m) a)

-- ---- judging a map

-- what judging a map answers: a number, which is 0 where the map is sound, a place, and the bytes of memory to lend
pub record MapAnswer : Type 0 where
  pub number : ℕ
  pub place : ℕ
  pub bytes : ℕ

-- a refusal: its number and place, all else zero
abbrev pub map_refused : ℕ → ℕ → MapAnswer
map_refused number place = record { number = number; place = place; bytes = 0 }

-- what judging a map answers: the number and place of its fault, or the permitted sum
unfoldable pub fault_answer : List ℕ → Option Refusal → MapAnswer
fault_answer m None = record { number = 0; place = 0; bytes = memory_size m }
fault_answer m (Some fault) = map_refused (number_of fault) (refusal_place fault)

unfoldable pub map_answer : List ℕ → MapAnswer
map_answer m = fault_answer m (map_fault m)

-- the answer that a result of the code stands for
abbrev pub answer_of : Result ℕ Refusal → MapAnswer
answer_of (Ok bytes) = record { number = 0; place = 0; bytes = bytes }
answer_of (Err refusal) = map_refused (number_of refusal) (refusal_place refusal)
