-- The bench cards: one list, each card with every value that it names.
use Rattle.std.specs.Prelude.{ℕ, ◌≡◌, List, [], ◌∷◌, ◌++◌, Bool, true, false, length, take, drop, replicate}
use Rattle.std.specs.Prelude.{Result, Ok, Err}
use Rattle.words.specs.declared.refusal.Refusal.{Refusal}
use Rattle.words.specs.declared.refusal.Refusal.TheVariants.{StrapLong, StrapReserved}
use Rattle.words.specs.declared.ByteOrder.{ByteOrder}
use Rattle.words.specs.declared.ByteOrder.TheVariants.{HighFirst, LowFirst}
use Rattle.loader.specs.Load.{Answer, load_answer, load_memory}
use Rattle.joiner.specs.Join.{JoinAnswer, join_answer, join_output}
use Rattle.writer.specs.declared.Section.{Section}
use Rattle.writer.specs.Write.{WriteAnswer, write_answer, write_output}
use Rattle.query.specs.Find.{FindAnswer, find_answer, found_bytes}
use Rattle.rescue.specs.Rescue.{RescueAnswer, rescue_answer, rescue_output}
use Rattle.boot_config.specs.Config.{ConfigAnswer, config_answer, config_values}
use Rattle.boot_strap.specs.declared.Manner.{Manner}
use Rattle.boot_strap.specs.declared.Manner.TheVariants.{Strict, Lenient}
use Rattle.boot_strap.specs.declared.Strap.{Strap}
use Rattle.boot_strap.specs.declared.Strap.TheVariants.{Emif16, Spi}
use Rattle.boot_strap.specs.Strap.{decode_as, decode_short, answer_numbers, SameAnswer, same_answer, LabelAnswer, label_answer}

-- a card is a call, with the whole answer and all that the lent buffer holds afterwards; for finding, with the bytes of the part; and for decoding also with the answer in numbers
pub data Card : Type 0 where
  Load : ByteOrder → (map table memory : List ℕ) → Answer → List ℕ → Card
  Join : ByteOrder → (first second output : List ℕ) → JoinAnswer → List ℕ → Card
  Write : ByteOrder → (entry : ℕ) → List Section → (bytes output : List ℕ) → WriteAnswer → List ℕ → Card
  Find : ByteOrder → (older newer : List ℕ) → (address : ℕ) → FindAnswer → List ℕ → Card
  Rescue : ByteOrder → (table output : List ℕ) → RescueAnswer → List ℕ → Card
  Configure : (table addresses values : List ℕ) → ConfigAnswer → List ℕ → Card
  Decode : Manner → ℕ → Result Strap Refusal → Card
  DecodeShort : ℕ → Result Strap Refusal → Card
  Numbers : Manner → ℕ → List ℕ → Card
  Same : (first second : ℕ) → SameAnswer → Card
  Label : ℕ → LabelAnswer → Card

-- what a card claims
abbrev pub Holds : Card → Type 0
Holds (Load order map table memory answer after) = (load_answer order map table (length memory) ≡ answer) × (load_memory order map table memory ≡ after)
Holds (Join order first second output answer after) = (join_answer order first second (length output) ≡ answer) × (join_output order first second output ≡ after)
Holds (Write order entry sections bytes output answer after) = (write_answer order entry sections bytes (length output) ≡ answer) × (write_output order entry sections bytes output ≡ after)
Holds (Find order older newer address answer bytes) = (find_answer order older newer address ≡ answer) × (found_bytes order older newer address ≡ bytes)
Holds (Rescue order table output answer after) = (rescue_answer order table (length output) ≡ answer) × (rescue_output order table output ≡ after)
Holds (Configure table addresses values answer after) = (config_answer table addresses values ≡ answer) × (config_values table addresses values ≡ after)
Holds (Decode manner value answer) = decode_as manner value ≡ answer
Holds (DecodeShort value answer) = decode_short value ≡ answer
Holds (Numbers manner value numbers) = answer_numbers (decode_as manner value) ≡ numbers
Holds (Same first second answer) = same_answer first second ≡ answer
Holds (Label value answer) = label_answer value ≡ answer

-- every card of a list holds
abbrev pub AllHold : List Card → Type 0
AllHold [] = Unit {0}
AllHold (c ∷ cs) = Holds c × AllHold cs

-- ---- answers

abbrev pub accept : ℕ → Bool → ℕ → ℕ → Answer
accept entry opens sections bytes =
    record { number = 0; place = 0; address = 0; entry = entry; entry_open = opens; sections = sections; bytes = bytes }

abbrev pub refuse : ℕ → ℕ → ℕ → Answer
refuse number place address = record { number = number; place = place; address = address; entry = 0; entry_open = false; sections = 0; bytes = 0 }

abbrev pub success : ℕ → ℕ → JoinAnswer
success n sections = record { number = 0; place = 0; which = 0; length = n; sections = sections }

abbrev pub unjoined : ℕ → ℕ → ℕ → JoinAnswer
unjoined number place which = record { number = number; place = place; which = which; length = 0; sections = 0 }

abbrev pub wrote : ℕ → ℕ → WriteAnswer
wrote n sections = record { number = 0; place = 0; length = n; sections = sections }

abbrev pub unwritten : ℕ → ℕ → WriteAnswer
unwritten number place = record { number = number; place = place; length = 0; sections = 0 }

abbrev pub found : ℕ → ℕ → ℕ → ℕ → FindAnswer
found table offset size read = record { number = 0; place = 0; table = table; offset = offset; length = size; read = read }

abbrev pub unfound : ℕ → ℕ → ℕ → FindAnswer
unfound number place table = record { number = number; place = place; table = table; offset = 0; length = 0; read = 0 }

abbrev pub saved : ℕ → ℕ → ℕ → Bool → RescueAnswer
saved n sections unused added = record { number = 0; place = 0; length = n; sections = sections; unused = unused; added = added }

abbrev pub unsaved : ℕ → RescueAnswer
unsaved number = record { number = number; place = 0; length = 0; sections = 0; unused = 0; added = false }

abbrev pub configured : ℕ → ℕ → ConfigAnswer
configured entries bits = record { number = 0; place = 0; entries = entries; bits = bits }

abbrev pub compared : ℕ → Bool → SameAnswer
compared number same = record { number = number; place = 0; same = same }

abbrev pub labelled : ℕ → ℕ → LabelAnswer
labelled number label = record { number = number; place = 0; label = label }

-- ---- the map, the tables and the memory of the cards

abbrev pub map_m : List ℕ
map_m = 0x52 ∷ 0x47 ∷ 0x01 ∷ 0x00 ∷ 0x00 ∷ 0x80 ∷ 0x00 ∷ 0x00 ∷ 0x00 ∷ 0x00 ∷ 0x00 ∷ 0x10 ∷ []

-- M with kind 3; M in two records that touch, of which only the first has kind 3, and only the second; M with kind 3 and a reserved address; M and a record of kind 3 that shares an address with it
abbrev pub map_once : List ℕ
map_once = 0x52 ∷ 0x47 ∷ 0x03 ∷ 0x00 ∷ 0x00 ∷ 0x80 ∷ 0x00 ∷ 0x00 ∷ 0x00 ∷ 0x00 ∷ 0x00 ∷ 0x10 ∷ []

abbrev pub map_once_first : List ℕ
map_once_first =
    0x52 ∷ 0x47 ∷ 0x03 ∷ 0x00 ∷ 0x00 ∷ 0x80 ∷ 0x00 ∷ 0x00 ∷ 0x00 ∷ 0x00 ∷ 0x00 ∷ 0x04 ∷
    0x52 ∷ 0x47 ∷ 0x01 ∷ 0x00 ∷ 0x00 ∷ 0x80 ∷ 0x00 ∷ 0x04 ∷ 0x00 ∷ 0x00 ∷ 0x00 ∷ 0x0C ∷ []

abbrev pub map_once_second : List ℕ
map_once_second =
    0x52 ∷ 0x47 ∷ 0x01 ∷ 0x00 ∷ 0x00 ∷ 0x80 ∷ 0x00 ∷ 0x00 ∷ 0x00 ∷ 0x00 ∷ 0x00 ∷ 0x04 ∷
    0x52 ∷ 0x47 ∷ 0x03 ∷ 0x00 ∷ 0x00 ∷ 0x80 ∷ 0x00 ∷ 0x04 ∷ 0x00 ∷ 0x00 ∷ 0x00 ∷ 0x0C ∷ []

abbrev pub map_once_reserved : List ℕ
map_once_reserved =
    0x52 ∷ 0x47 ∷ 0x03 ∷ 0x00 ∷ 0x00 ∷ 0x80 ∷ 0x00 ∷ 0x00 ∷ 0x00 ∷ 0x00 ∷ 0x00 ∷ 0x10 ∷
    0x52 ∷ 0x47 ∷ 0x02 ∷ 0x00 ∷ 0x00 ∷ 0x80 ∷ 0x00 ∷ 0x04 ∷ 0x00 ∷ 0x00 ∷ 0x00 ∷ 0x01 ∷ []

abbrev pub map_once_shared : List ℕ
map_once_shared =
    0x52 ∷ 0x47 ∷ 0x01 ∷ 0x00 ∷ 0x00 ∷ 0x80 ∷ 0x00 ∷ 0x00 ∷ 0x00 ∷ 0x00 ∷ 0x00 ∷ 0x10 ∷
    0x52 ∷ 0x47 ∷ 0x03 ∷ 0x00 ∷ 0x00 ∷ 0x80 ∷ 0x00 ∷ 0x0F ∷ 0x00 ∷ 0x00 ∷ 0x00 ∷ 0x01 ∷ []

abbrev pub table_p : List ℕ
table_p =
    0x00 ∷ 0x80 ∷ 0x00 ∷ 0x00 ∷ 0x00 ∷ 0x00 ∷ 0x00 ∷ 0x03 ∷ 0x00 ∷ 0x80 ∷ 0x00 ∷ 0x02 ∷ 0xA1 ∷ 0xA2 ∷ 0xA3 ∷ 0x00 ∷ 0x00 ∷ 0x00 ∷ 0x00 ∷ 0x00 ∷ []

abbrev pub table_q : List ℕ
table_q =
    0x00 ∷ 0x80 ∷ 0x00 ∷ 0x04 ∷ 0x00 ∷ 0x00 ∷ 0x00 ∷ 0x01 ∷ 0x00 ∷ 0x80 ∷ 0x00 ∷ 0x04 ∷ 0xB7 ∷ 0x00 ∷ 0x00 ∷ 0x00 ∷ 0x00 ∷ 0x00 ∷ 0x00 ∷ 0x00 ∷ []

-- the data that P and Q are written from
abbrev pub data_pq : List ℕ
data_pq = 0xA1 ∷ 0xA2 ∷ 0xA3 ∷ 0xB7 ∷ []

-- a section of a list
abbrev pub listed : ℕ → ℕ → ℕ → Section
listed address start size = record { address = address; start = start; size = size }

-- A1 and B7 as two sections: in `touching` the two touch, in `apart` three addresses lie between them
abbrev pub touching : List ℕ
touching =
    0x00 ∷ 0x80 ∷ 0x00 ∷ 0x00 ∷ 0x00 ∷ 0x00 ∷ 0x00 ∷ 0x01 ∷ 0x00 ∷ 0x80 ∷ 0x00 ∷ 0x00 ∷ 0xA1 ∷ 0x00 ∷ 0x00 ∷ 0x00 ∷
    0x00 ∷ 0x00 ∷ 0x00 ∷ 0x01 ∷ 0x00 ∷ 0x80 ∷ 0x00 ∷ 0x01 ∷ 0xB7 ∷ 0x00 ∷ 0x00 ∷ 0x00 ∷ 0x00 ∷ 0x00 ∷ 0x00 ∷ 0x00 ∷ []

abbrev pub apart : List ℕ
apart =
    0x00 ∷ 0x80 ∷ 0x00 ∷ 0x00 ∷ 0x00 ∷ 0x00 ∷ 0x00 ∷ 0x01 ∷ 0x00 ∷ 0x80 ∷ 0x00 ∷ 0x00 ∷ 0xA1 ∷ 0x00 ∷ 0x00 ∷ 0x00 ∷
    0x00 ∷ 0x00 ∷ 0x00 ∷ 0x01 ∷ 0x00 ∷ 0x80 ∷ 0x00 ∷ 0x04 ∷ 0xB7 ∷ 0x00 ∷ 0x00 ∷ 0x00 ∷ 0x00 ∷ 0x00 ∷ 0x00 ∷ 0x00 ∷ []

-- the four bytes of the data up to the last address, which need no pad
abbrev pub at_top : List ℕ
at_top =
    0x00 ∷ 0x80 ∷ 0x00 ∷ 0x00 ∷ 0x00 ∷ 0x00 ∷ 0x00 ∷ 0x04 ∷ 0xFF ∷ 0xFF ∷ 0xFF ∷ 0xFC ∷ 0xA1 ∷ 0xA2 ∷ 0xA3 ∷ 0xB7 ∷ 0x00 ∷ 0x00 ∷ 0x00 ∷ 0x00 ∷ []

-- memory of 16 bytes, and an output with room for 36
abbrev pub memory : List ℕ
memory =
    0x10 ∷ 0x11 ∷ 0x12 ∷ 0x13 ∷ 0x14 ∷ 0x15 ∷ 0x16 ∷ 0x17 ∷ 0x18 ∷ 0x19 ∷ 0x1A ∷ 0x1B ∷ 0x1C ∷ 0x1D ∷ 0x1E ∷ 0x1F ∷ []

abbrev pub output : List ℕ
output = replicate 36 0xEE

-- the answer of P, and the memory after it was loaded
abbrev pub answer_p : Answer
answer_p = accept 0x00800000 true 1 3

abbrev pub memory_p : List ℕ
memory_p =
    0x10 ∷ 0x11 ∷ 0xA1 ∷ 0xA2 ∷ 0xA3 ∷ 0x15 ∷ 0x16 ∷ 0x17 ∷ 0x18 ∷ 0x19 ∷ 0x1A ∷ 0x1B ∷ 0x1C ∷ 0x1D ∷ 0x1E ∷ 0x1F ∷ []

-- the memory after Q was loaded, and after P and then Q
abbrev pub memory_q : List ℕ
memory_q =
    0x10 ∷ 0x11 ∷ 0x12 ∷ 0x13 ∷ 0xB7 ∷ 0x15 ∷ 0x16 ∷ 0x17 ∷ 0x18 ∷ 0x19 ∷ 0x1A ∷ 0x1B ∷ 0x1C ∷ 0x1D ∷ 0x1E ∷ 0x1F ∷ []

abbrev pub memory_pq : List ℕ
memory_pq =
    0x10 ∷ 0x11 ∷ 0xA1 ∷ 0xA2 ∷ 0xB7 ∷ 0x15 ∷ 0x16 ∷ 0x17 ∷ 0x18 ∷ 0x19 ∷ 0x1A ∷ 0x1B ∷ 0x1C ∷ 0x1D ∷ 0x1E ∷ 0x1F ∷ []

-- P joined with Q, and Q with P
abbrev pub join_pq : List ℕ
join_pq =
    0x00 ∷ 0x80 ∷ 0x00 ∷ 0x04 ∷ 0x00 ∷ 0x00 ∷ 0x00 ∷ 0x03 ∷ 0x00 ∷ 0x80 ∷ 0x00 ∷ 0x02 ∷ 0xA1 ∷ 0xA2 ∷ 0xA3 ∷ 0x00 ∷
    0x00 ∷ 0x00 ∷ 0x00 ∷ 0x01 ∷ 0x00 ∷ 0x80 ∷ 0x00 ∷ 0x04 ∷ 0xB7 ∷ 0x00 ∷ 0x00 ∷ 0x00 ∷ 0x00 ∷ 0x00 ∷ 0x00 ∷ 0x00 ∷ []

abbrev pub join_qp : List ℕ
join_qp =
    0x00 ∷ 0x80 ∷ 0x00 ∷ 0x00 ∷ 0x00 ∷ 0x00 ∷ 0x00 ∷ 0x01 ∷ 0x00 ∷ 0x80 ∷ 0x00 ∷ 0x04 ∷ 0xB7 ∷ 0x00 ∷ 0x00 ∷ 0x00 ∷
    0x00 ∷ 0x00 ∷ 0x00 ∷ 0x03 ∷ 0x00 ∷ 0x80 ∷ 0x00 ∷ 0x02 ∷ 0xA1 ∷ 0xA2 ∷ 0xA3 ∷ 0x00 ∷ 0x00 ∷ 0x00 ∷ 0x00 ∷ 0x00 ∷ []

-- P joined with Q, and one byte at 0x00800010 behind their sections
abbrev pub closed_pq : List ℕ
closed_pq =
    0x00 ∷ 0x80 ∷ 0x00 ∷ 0x04 ∷ 0x00 ∷ 0x00 ∷ 0x00 ∷ 0x03 ∷ 0x00 ∷ 0x80 ∷ 0x00 ∷ 0x02 ∷ 0xA1 ∷ 0xA2 ∷ 0xA3 ∷ 0x00 ∷
    0x00 ∷ 0x00 ∷ 0x00 ∷ 0x01 ∷ 0x00 ∷ 0x80 ∷ 0x00 ∷ 0x04 ∷ 0xB7 ∷ 0x00 ∷ 0x00 ∷ 0x00 ∷
    0x00 ∷ 0x00 ∷ 0x00 ∷ 0x01 ∷ 0x00 ∷ 0x80 ∷ 0x00 ∷ 0x10 ∷ 0xC1 ∷ 0x00 ∷ 0x00 ∷ 0x00 ∷ 0x00 ∷ 0x00 ∷ 0x00 ∷ 0x00 ∷ []

-- R, which touches P's section; and sections as they stand in a table: P's, R's, two bytes at 0x00800000 that touch P's from below, and the same two at 0x00800010
abbrev pub table_r : List ℕ
table_r =
    0x00 ∷ 0x80 ∷ 0x00 ∷ 0x05 ∷ 0x00 ∷ 0x00 ∷ 0x00 ∷ 0x01 ∷ 0x00 ∷ 0x80 ∷ 0x00 ∷ 0x05 ∷ 0xB7 ∷ 0x00 ∷ 0x00 ∷ 0x00 ∷ 0x00 ∷ 0x00 ∷ 0x00 ∷ 0x00 ∷ []

abbrev pub section_p : List ℕ
section_p = take 12 (drop 4 table_p)

abbrev pub section_r : List ℕ
section_r = take 12 (drop 4 table_r)

abbrev pub section_c : List ℕ
section_c = 0x00 ∷ 0x00 ∷ 0x00 ∷ 0x02 ∷ 0x00 ∷ 0x80 ∷ 0x00 ∷ 0x00 ∷ 0xC1 ∷ 0xC2 ∷ 0x00 ∷ 0x00 ∷ []

abbrev pub section_closed : List ℕ
section_closed = 0x00 ∷ 0x00 ∷ 0x00 ∷ 0x02 ∷ 0x00 ∷ 0x80 ∷ 0x00 ∷ 0x10 ∷ 0xC1 ∷ 0xC2 ∷ 0x00 ∷ 0x00 ∷ []

-- the table of P's entry and three sections
abbrev pub ordered : List ℕ → List ℕ → List ℕ → List ℕ
ordered x y z = take 4 table_p ++ x ++ y ++ z ++ replicate 4 0x00

-- the memory after the first three were loaded, and after P and R
abbrev pub memory_cpr : List ℕ
memory_cpr =
    0xC1 ∷ 0xC2 ∷ 0xA1 ∷ 0xA2 ∷ 0xA3 ∷ 0xB7 ∷ 0x16 ∷ 0x17 ∷ 0x18 ∷ 0x19 ∷ 0x1A ∷ 0x1B ∷ 0x1C ∷ 0x1D ∷ 0x1E ∷ 0x1F ∷ []

abbrev pub memory_pr : List ℕ
memory_pr =
    0x10 ∷ 0x11 ∷ 0xA1 ∷ 0xA2 ∷ 0xA3 ∷ 0xB7 ∷ 0x16 ∷ 0x17 ∷ 0x18 ∷ 0x19 ∷ 0x1A ∷ 0x1B ∷ 0x1C ∷ 0x1D ∷ 0x1E ∷ 0x1F ∷ []

-- P and Q low first: their entry, size and address words with the low byte first
abbrev pub low_p : List ℕ
low_p =
    0x00 ∷ 0x00 ∷ 0x80 ∷ 0x00 ∷ 0x03 ∷ 0x00 ∷ 0x00 ∷ 0x00 ∷ 0x02 ∷ 0x00 ∷ 0x80 ∷ 0x00 ∷ 0xA1 ∷ 0xA2 ∷ 0xA3 ∷ 0x00 ∷ 0x00 ∷ 0x00 ∷ 0x00 ∷ 0x00 ∷ []

abbrev pub low_q : List ℕ
low_q =
    0x04 ∷ 0x00 ∷ 0x80 ∷ 0x00 ∷ 0x01 ∷ 0x00 ∷ 0x00 ∷ 0x00 ∷ 0x04 ∷ 0x00 ∷ 0x80 ∷ 0x00 ∷ 0xB7 ∷ 0x00 ∷ 0x00 ∷ 0x00 ∷ 0x00 ∷ 0x00 ∷ 0x00 ∷ 0x00 ∷ []

-- these joined, P with Q and Q with P
abbrev pub low_pq : List ℕ
low_pq =
    0x04 ∷ 0x00 ∷ 0x80 ∷ 0x00 ∷ 0x03 ∷ 0x00 ∷ 0x00 ∷ 0x00 ∷ 0x02 ∷ 0x00 ∷ 0x80 ∷ 0x00 ∷ 0xA1 ∷ 0xA2 ∷ 0xA3 ∷ 0x00 ∷
    0x01 ∷ 0x00 ∷ 0x00 ∷ 0x00 ∷ 0x04 ∷ 0x00 ∷ 0x80 ∷ 0x00 ∷ 0xB7 ∷ 0x00 ∷ 0x00 ∷ 0x00 ∷ 0x00 ∷ 0x00 ∷ 0x00 ∷ 0x00 ∷ []

abbrev pub low_qp : List ℕ
low_qp =
    0x00 ∷ 0x00 ∷ 0x80 ∷ 0x00 ∷ 0x01 ∷ 0x00 ∷ 0x00 ∷ 0x00 ∷ 0x04 ∷ 0x00 ∷ 0x80 ∷ 0x00 ∷ 0xB7 ∷ 0x00 ∷ 0x00 ∷ 0x00 ∷
    0x03 ∷ 0x00 ∷ 0x00 ∷ 0x00 ∷ 0x02 ∷ 0x00 ∷ 0x80 ∷ 0x00 ∷ 0xA1 ∷ 0xA2 ∷ 0xA3 ∷ 0x00 ∷ 0x00 ∷ 0x00 ∷ 0x00 ∷ 0x00 ∷ []

-- an entry word of four different bytes, and a zero word
abbrev pub four_bytes : List ℕ
four_bytes =
    0x04 ∷ 0x03 ∷ 0x02 ∷ 0x01 ∷ 0x00 ∷ 0x00 ∷ 0x00 ∷ 0x00 ∷ []

-- an entry word and a zero word, with an entry that is open and with one that is not
abbrev pub no_sections : List ℕ
no_sections =
    0x00 ∷ 0x80 ∷ 0x00 ∷ 0x00 ∷ 0x00 ∷ 0x00 ∷ 0x00 ∷ 0x00 ∷ []

abbrev pub no_sections_closed : List ℕ
no_sections_closed =
    0x00 ∷ 0x00 ∷ 0x00 ∷ 0x00 ∷ 0x00 ∷ 0x00 ∷ 0x00 ∷ 0x00 ∷ []

-- P without its last byte, with one byte more, and with its pad byte 01
abbrev pub short_p : List ℕ
short_p =
    0x00 ∷ 0x80 ∷ 0x00 ∷ 0x00 ∷ 0x00 ∷ 0x00 ∷ 0x00 ∷ 0x03 ∷ 0x00 ∷ 0x80 ∷ 0x00 ∷ 0x02 ∷ 0xA1 ∷ 0xA2 ∷ 0xA3 ∷ 0x00 ∷ 0x00 ∷ 0x00 ∷ 0x00 ∷ []

abbrev pub long_p : List ℕ
long_p =
    0x00 ∷ 0x80 ∷ 0x00 ∷ 0x00 ∷ 0x00 ∷ 0x00 ∷ 0x00 ∷ 0x03 ∷ 0x00 ∷ 0x80 ∷ 0x00 ∷ 0x02 ∷ 0xA1 ∷ 0xA2 ∷ 0xA3 ∷ 0x00 ∷
    0x00 ∷ 0x00 ∷ 0x00 ∷ 0x00 ∷ 0x00 ∷ []

abbrev pub padded_p : List ℕ
padded_p =
    0x00 ∷ 0x80 ∷ 0x00 ∷ 0x00 ∷ 0x00 ∷ 0x00 ∷ 0x00 ∷ 0x03 ∷ 0x00 ∷ 0x80 ∷ 0x00 ∷ 0x02 ∷ 0xA1 ∷ 0xA2 ∷ 0xA3 ∷ 0x01 ∷ 0x00 ∷ 0x00 ∷ 0x00 ∷ 0x00 ∷ []

-- the section of P with Q's entry, in each byte order, and an entry word that is read in the wrong order, without sections
abbrev pub first_of_pq : List ℕ
first_of_pq =
    0x00 ∷ 0x80 ∷ 0x00 ∷ 0x04 ∷ 0x00 ∷ 0x00 ∷ 0x00 ∷ 0x03 ∷ 0x00 ∷ 0x80 ∷ 0x00 ∷ 0x02 ∷ 0xA1 ∷ 0xA2 ∷ 0xA3 ∷ 0x00 ∷ 0x00 ∷ 0x00 ∷ 0x00 ∷ 0x00 ∷ []

abbrev pub low_first_of_pq : List ℕ
low_first_of_pq =
    0x04 ∷ 0x00 ∷ 0x80 ∷ 0x00 ∷ 0x03 ∷ 0x00 ∷ 0x00 ∷ 0x00 ∷ 0x02 ∷ 0x00 ∷ 0x80 ∷ 0x00 ∷ 0xA1 ∷ 0xA2 ∷ 0xA3 ∷ 0x00 ∷ 0x00 ∷ 0x00 ∷ 0x00 ∷ 0x00 ∷ []

abbrev pub no_sections_turned : List ℕ
no_sections_turned =
    0x00 ∷ 0x00 ∷ 0x80 ∷ 0x00 ∷ 0x00 ∷ 0x00 ∷ 0x00 ∷ 0x00 ∷ []

-- one and two bytes at 0x0080000F, and at 0xFFFFFFFF
abbrev pub last_byte_table : List ℕ
last_byte_table =
    0x00 ∷ 0x80 ∷ 0x00 ∷ 0x00 ∷ 0x00 ∷ 0x00 ∷ 0x00 ∷ 0x01 ∷ 0x00 ∷ 0x80 ∷ 0x00 ∷ 0x0F ∷ 0xC1 ∷ 0x00 ∷ 0x00 ∷ 0x00 ∷ 0x00 ∷ 0x00 ∷ 0x00 ∷ 0x00 ∷ []

abbrev pub past_map_table : List ℕ
past_map_table =
    0x00 ∷ 0x80 ∷ 0x00 ∷ 0x00 ∷ 0x00 ∷ 0x00 ∷ 0x00 ∷ 0x02 ∷ 0x00 ∷ 0x80 ∷ 0x00 ∷ 0x0F ∷ 0xC1 ∷ 0xC2 ∷ 0x00 ∷ 0x00 ∷ 0x00 ∷ 0x00 ∷ 0x00 ∷ 0x00 ∷ []

abbrev pub top_table : List ℕ
top_table =
    0x00 ∷ 0x80 ∷ 0x00 ∷ 0x00 ∷ 0x00 ∷ 0x00 ∷ 0x00 ∷ 0x01 ∷ 0xFF ∷ 0xFF ∷ 0xFF ∷ 0xFF ∷ 0xC1 ∷ 0x00 ∷ 0x00 ∷ 0x00 ∷ 0x00 ∷ 0x00 ∷ 0x00 ∷ 0x00 ∷ []

abbrev pub past_top_table : List ℕ
past_top_table =
    0x00 ∷ 0x80 ∷ 0x00 ∷ 0x00 ∷ 0x00 ∷ 0x00 ∷ 0x00 ∷ 0x02 ∷ 0xFF ∷ 0xFF ∷ 0xFF ∷ 0xFF ∷ 0xC1 ∷ 0xC2 ∷ 0x00 ∷ 0x00 ∷ 0x00 ∷ 0x00 ∷ 0x00 ∷ 0x00 ∷ []

-- one entry that sets 0x30 and clears 0x03, and one that sets and clears bit 0
abbrev pub set_and_clear : List ℕ
set_and_clear =
    0x02 ∷ 0x62 ∷ 0x00 ∷ 0x00 ∷ 0x00 ∷ 0x00 ∷ 0x00 ∷ 0x30 ∷ 0x00 ∷ 0x00 ∷ 0x00 ∷ 0x03 ∷
    0x00 ∷ 0x00 ∷ 0x00 ∷ 0x00 ∷ 0x00 ∷ 0x00 ∷ 0x00 ∷ 0x00 ∷ 0x00 ∷ 0x00 ∷ 0x00 ∷ 0x00 ∷ []

abbrev pub both_masks : List ℕ
both_masks =
    0x02 ∷ 0x62 ∷ 0x00 ∷ 0x00 ∷ 0x00 ∷ 0x00 ∷ 0x00 ∷ 0x01 ∷ 0x00 ∷ 0x00 ∷ 0x00 ∷ 0x01 ∷
    0x00 ∷ 0x00 ∷ 0x00 ∷ 0x00 ∷ 0x00 ∷ 0x00 ∷ 0x00 ∷ 0x00 ∷ 0x00 ∷ 0x00 ∷ 0x00 ∷ 0x00 ∷ []

-- ---- the cards

-- the twelve cards of document 01, card 6 as request 2 and card 12 as request 7 of document 02 have them; for request 8 P and Q low first, and a word of four different bytes in each order; for request 10 maps with kind 3; for request 1 tables that are written from lists; for request 4 what stands at an address; for request 12 tables that are rescued; and for request 11 tables whose sections are rearranged, and joins both ways
abbrev pub cards : List Card
cards =
    -- 1: P under M
    Load HighFirst map_m table_p memory answer_p memory_p ∷
    -- 2: P joined with Q, and that loaded
    Join HighFirst table_p table_q output (success 32 2) (join_pq ++ replicate 4 0xEE) ∷
    Load HighFirst map_m join_pq memory (accept 0x00800004 true 2 4) memory_pq ∷
    -- 3: Q joined with P, and that loaded
    Join HighFirst table_q table_p output (success 32 2) (join_qp ++ replicate 4 0xEE) ∷
    Load HighFirst map_m join_qp memory (accept 0x00800000 true 2 4) memory_p ∷
    -- 4: an entry word and a zero word
    Load HighFirst map_m no_sections memory (accept 0x00800000 true 0 0) memory ∷
    Load HighFirst map_m no_sections_closed memory (accept 0x00000000 false 0 0) memory ∷
    -- 5: no bytes, P without its last byte, P with one byte more
    Load HighFirst map_m [] memory (refuse 5 0 0) memory ∷
    Load HighFirst map_m short_p memory (refuse 5 16 0) memory ∷
    Load HighFirst map_m long_p memory (refuse 7 20 0) memory ∷
    -- 6: P with its pad byte 01 has P's answer and leaves P's memory
    Load HighFirst map_m padded_p memory answer_p memory_p ∷
    -- 7: size 1 at 0x0080000F, and size 2
    Load HighFirst map_m last_byte_table memory (accept 0x00800000 true 1 1)
    (0x10 ∷ 0x11 ∷ 0x12 ∷ 0x13 ∷ 0x14 ∷ 0x15 ∷ 0x16 ∷ 0x17 ∷ 0x18 ∷ 0x19 ∷ 0x1A ∷ 0x1B ∷ 0x1C ∷ 0x1D ∷ 0x1E ∷ 0xC1 ∷ []) ∷
    Load HighFirst map_m past_map_table memory (refuse 9 4 0x00800010) memory ∷
    -- 8: size 1 at 0xFFFFFFFF, and size 2
    Load HighFirst map_m top_table memory (refuse 9 4 0xFFFFFFFF) memory ∷
    Load HighFirst map_m past_top_table memory (refuse 8 4 0) memory ∷
    -- 9: register 0x0000000F, set 0x30, clear 0x03
    Configure set_and_clear (0x02620000 ∷ []) (0x0000000F ∷ []) (configured 1 4) (0x0000003C ∷ []) ∷
    -- 10: the same register, set 1, clear 1
    Configure both_masks (0x02620000 ∷ []) (0x0000000F ∷ []) (configured 1 0) (0x0000000F ∷ []) ∷
    -- 11: strap 7878, through each strap call
    Decode Strict 7878 (Ok (Spi 3 true true 1 2 0)) ∷
    Decode Lenient 7878 (Ok (Spi 3 true true 1 2 0)) ∷
    DecodeShort 7878 (Ok (Spi 3 true true 1 2 0)) ∷
    Same 7878 7878 (compared 0 true) ∷
    Label 7878 (labelled 0 7) ∷
    -- 12: strap 160
    Decode Strict 160 (Ok (Emif16 0 true 0)) ∷
    Decode Lenient 160 (Ok (Emif16 0 true 0)) ∷
    DecodeShort 160 (Ok (Emif16 0 true 0)) ∷
    Same 160 160 (compared 0 true) ∷
    Label 160 (labelled 0 1) ∷
    -- 12: 416, refused unless lenient is named; the comparison and the label name it
    Decode Strict 416 (Err StrapReserved) ∷
    Decode Lenient 416 (Ok (Emif16 0 true 0)) ∷
    DecodeShort 416 (Err StrapReserved) ∷
    Numbers Strict 416 (19 ∷ 0 ∷ []) ∷
    Same 416 160 (compared 0 true) ∷
    Same 160 416 (compared 0 true) ∷
    Label 416 (labelled 0 1) ∷
    -- 12: 64
    Decode Strict 64 (Err StrapReserved) ∷
    Decode Lenient 64 (Err StrapReserved) ∷
    DecodeShort 64 (Err StrapReserved) ∷
    Numbers Strict 64 (19 ∷ 0 ∷ []) ∷
    Numbers Lenient 64 (19 ∷ 0 ∷ []) ∷
    Same 64 160 (compared 19 false) ∷
    Same 160 64 (compared 19 false) ∷
    Label 64 (labelled 19 0) ∷
    -- 12: 8192
    Decode Strict 8192 (Err StrapLong) ∷
    Decode Lenient 8192 (Err StrapLong) ∷
    DecodeShort 8192 (Err StrapLong) ∷
    Numbers Strict 8192 (18 ∷ 0 ∷ []) ∷
    Numbers Lenient 8192 (18 ∷ 0 ∷ []) ∷
    Same 8192 160 (compared 18 false) ∷
    Same 160 8192 (compared 18 false) ∷
    Same 8192 64 (compared 18 false) ∷
    Same 64 8192 (compared 19 false) ∷
    Label 8192 (labelled 18 0) ∷
    -- P and Q low first: loaded
    Load LowFirst map_m low_p memory answer_p memory_p ∷
    Load LowFirst map_m low_q memory (accept 0x00800004 true 1 1) memory_q ∷
    -- P joined with Q and Q with P, low first, and these loaded
    Join LowFirst low_p low_q output (success 32 2) (low_pq ++ replicate 4 0xEE) ∷
    Load LowFirst map_m low_pq memory (accept 0x00800004 true 2 4) memory_pq ∷
    Join LowFirst low_q low_p output (success 32 2) (low_qp ++ replicate 4 0xEE) ∷
    Load LowFirst map_m low_qp memory (accept 0x00800000 true 2 4) memory_p ∷
    -- each read in the wrong order: its size word counts more bytes than follow
    Load HighFirst map_m low_p memory (refuse 5 4 0) memory ∷
    Load HighFirst map_m low_q memory (refuse 5 4 0) memory ∷
    Load LowFirst map_m table_p memory (refuse 5 4 0) memory ∷
    Load LowFirst map_m table_q memory (refuse 5 4 0) memory ∷
    -- and joined, where both or one of them are read in the wrong byte order
    Join HighFirst low_p low_q output (unjoined 5 4 1) output ∷
    Join LowFirst table_q table_p output (unjoined 5 4 1) output ∷
    Join HighFirst table_p low_q output (unjoined 5 4 2) output ∷
    Join LowFirst low_q table_p output (unjoined 5 4 2) output ∷
    -- an entry word of four different bytes in each order: loaded, and joined with itself
    Load HighFirst map_m four_bytes memory (accept 0x04030201 false 0 0) memory ∷
    Load LowFirst map_m four_bytes memory (accept 0x01020304 false 0 0) memory ∷
    Join HighFirst four_bytes four_bytes output (success 8 0) (four_bytes ++ replicate 28 0xEE) ∷
    Join LowFirst four_bytes four_bytes output (success 8 0) (four_bytes ++ replicate 28 0xEE) ∷
    -- where M takes one write: P, and P joined with Q, in each order; the second section stores 0x00800004 again
    Load HighFirst map_once table_p memory answer_p memory_p ∷
    Load HighFirst map_once join_pq memory (refuse 29 16 0) memory ∷
    Load LowFirst map_once low_p memory answer_p memory_p ∷
    Load LowFirst map_once low_pq memory (refuse 29 16 0) memory ∷
    -- each load counts anew: Q into the memory that P left
    Load HighFirst map_once table_q memory_p (accept 0x00800004 true 1 1) memory_pq ∷
    Load LowFirst map_once low_q memory_p (accept 0x00800004 true 1 1) memory_pq ∷
    -- where only the addresses before 0x00800004 take one write, and where only it and those after it do
    Load HighFirst map_once_first join_pq memory (accept 0x00800004 true 2 4) memory_pq ∷
    Load HighFirst map_once_second join_pq memory (refuse 29 16 0) memory ∷
    -- an address that is not open goes first, in a later section, and in a reserved record
    Load HighFirst map_once closed_pq memory (refuse 9 28 0x00800010) memory ∷
    Load HighFirst map_once_reserved join_pq memory (refuse 9 4 0x00800004) memory ∷
    -- a record of kind 3 shares no address with an earlier permitted one
    Load HighFirst map_once_shared table_p memory (refuse 2 1 0) memory ∷
    -- P and Q, and P and Q in one table, written from lists over one run of data, in each order
    Write HighFirst 0x00800000 (listed 0x00800002 0 3 ∷ []) data_pq output (wrote 20 1) (table_p ++ replicate 16 0xEE) ∷
    Write HighFirst 0x00800004 (listed 0x00800004 3 1 ∷ []) data_pq output (wrote 20 1) (table_q ++ replicate 16 0xEE) ∷
    Write HighFirst 0x00800004 (listed 0x00800002 0 3 ∷ listed 0x00800004 3 1 ∷ []) data_pq output (wrote 32 2) (join_pq ++ replicate 4 0xEE) ∷
    Write LowFirst 0x00800000 (listed 0x00800002 0 3 ∷ []) data_pq output (wrote 20 1) (low_p ++ replicate 16 0xEE) ∷
    Write LowFirst 0x00800004 (listed 0x00800004 3 1 ∷ []) data_pq output (wrote 20 1) (low_q ++ replicate 16 0xEE) ∷
    Write LowFirst 0x00800004 (listed 0x00800002 0 3 ∷ listed 0x00800004 3 1 ∷ []) data_pq output (wrote 32 2) (low_pq ++ replicate 4 0xEE) ∷
    -- sections that touch, and that lie near each other, stay two; no section; four bytes up to the last address
    Write HighFirst 0x00800000 (listed 0x00800000 0 1 ∷ listed 0x00800001 3 1 ∷ []) data_pq output (wrote 32 2) (touching ++ replicate 4 0xEE) ∷
    Write HighFirst 0x00800000 (listed 0x00800000 0 1 ∷ listed 0x00800004 3 1 ∷ []) data_pq output (wrote 32 2) (apart ++ replicate 4 0xEE) ∷
    Write HighFirst 0x00800000 [] [] output (wrote 8 0) (no_sections ++ replicate 28 0xEE) ∷
    Write HighFirst 0x00800000 (listed 0xFFFFFFFC 0 4 ∷ []) data_pq output (wrote 20 1) (at_top ++ replicate 16 0xEE) ∷
    -- the first bad section of a list, and in it 21, 20, 8 in this order
    Write HighFirst 0x00800000 (listed 0x00800002 0 3 ∷ listed 0xFFFFFFFF 5 0 ∷ listed 0x00800004 4 1 ∷ []) data_pq output (unwritten 21 1) output ∷
    Write HighFirst 0x00800000 (listed 0xFFFFFFFF 3 2 ∷ listed 0x00800002 0 0 ∷ []) data_pq output (unwritten 20 0) output ∷
    Write HighFirst 0x00800000 (listed 0x00800002 4 1 ∷ []) data_pq output (unwritten 20 0) output ∷
    Write HighFirst 0x00800000 (listed 0x00800002 0 3 ∷ listed 0x00800004 3 1 ∷ listed 0xFFFFFFFF 0 2 ∷ []) data_pq output (unwritten 8 2) output ∷
    -- a table that is one byte longer than the output
    Write HighFirst 0x00800000 (listed 0x00800002 0 3 ∷ []) data_pq (replicate 19 0xEE) (unwritten 11 0) (replicate 19 0xEE) ∷
    -- older P, newer Q, at each address of P and on both sides of it: Q decides where it covers, the pad is no data, and near is not covered
    Find HighFirst table_p table_q 0x00800001 (found 0 0 0 24) [] ∷
    Find HighFirst table_p table_q 0x00800002 (found 1 12 3 24) (0xA1 ∷ 0xA2 ∷ 0xA3 ∷ []) ∷
    Find HighFirst table_p table_q 0x00800003 (found 1 13 2 24) (0xA2 ∷ 0xA3 ∷ []) ∷
    Find HighFirst table_p table_q 0x00800004 (found 2 12 1 24) (0xB7 ∷ []) ∷
    Find HighFirst table_p table_q 0x00800005 (found 0 0 0 24) [] ∷
    -- older Q, newer P
    Find HighFirst table_q table_p 0x00800004 (found 2 14 1 24) (0xA3 ∷ []) ∷
    -- in one table the last section decides, and the one before it where the last does not cover
    Find HighFirst join_pq no_sections 0x00800004 (found 1 24 1 24) (0xB7 ∷ []) ∷
    Find HighFirst join_pq no_sections 0x00800003 (found 1 13 2 24) (0xA2 ∷ 0xA3 ∷ []) ∷
    Find HighFirst no_sections join_qp 0x00800004 (found 2 26 1 24) (0xA3 ∷ []) ∷
    -- P and Q low first; no sections; the last address, and address 0, at which nothing comes round
    Find LowFirst low_p low_q 0x00800004 (found 2 12 1 24) (0xB7 ∷ []) ∷
    Find HighFirst no_sections no_sections 0x00800000 (found 0 0 0 8) [] ∷
    Find HighFirst at_top top_table 0xFFFFFFFE (found 1 14 2 24) (0xA3 ∷ 0xB7 ∷ []) ∷
    Find HighFirst at_top top_table 0xFFFFFFFF (found 2 12 1 24) (0xC1 ∷ []) ∷
    Find HighFirst at_top top_table 0x00000000 (found 0 0 0 24) [] ∷
    -- the older table's fault goes before the newer's, and a fault of either before what the other covers
    Find HighFirst short_p long_p 0x00800004 (unfound 5 16 1) [] ∷
    Find HighFirst table_p long_p 0x00800004 (unfound 7 20 2) [] ∷
    Find HighFirst past_top_table table_p 0x00800004 (unfound 8 4 1) [] ∷
    Find HighFirst table_p [] 0x00800004 (unfound 5 0 2) [] ∷
    Find LowFirst table_p low_q 0x00800004 (unfound 5 4 1) [] ∷
    -- rescued: an entry word and a zero word, P, P with its pad byte 01, a byte at the last address, and P low first come back as they are
    Rescue HighFirst no_sections output (saved 8 0 0 false) (no_sections ++ replicate 28 0xEE) ∷
    Rescue HighFirst table_p output (saved 20 1 0 false) (table_p ++ replicate 16 0xEE) ∷
    Rescue HighFirst padded_p output (saved 20 1 0 false) (padded_p ++ replicate 16 0xEE) ∷
    Rescue HighFirst top_table output (saved 20 1 0 false) (top_table ++ replicate 16 0xEE) ∷
    Rescue LowFirst low_p output (saved 20 1 0 false) (low_p ++ replicate 16 0xEE) ∷
    -- P with one byte more, P with Q behind it, and P's section behind a zero word: what stands after the word is not used
    Rescue HighFirst long_p output (saved 20 1 1 false) (table_p ++ replicate 16 0xEE) ∷
    Rescue HighFirst (table_p ++ table_q) output (saved 20 1 20 false) (table_p ++ replicate 16 0xEE) ∷
    Rescue HighFirst (no_sections ++ drop 4 table_p) output (saved 8 0 16 false) (no_sections ++ replicate 28 0xEE) ∷
    -- P without its last byte, and cut right behind its section
    Rescue HighFirst short_p output (saved 20 1 3 true) (table_p ++ replicate 16 0xEE) ∷
    Rescue HighFirst (take 16 table_p) output (saved 20 1 0 true) (table_p ++ replicate 16 0xEE) ∷
    -- P cut in its pad, in its data, in its address word and in its size word, and its entry word alone
    Rescue HighFirst (take 15 table_p) output (saved 8 0 11 true) (no_sections ++ replicate 28 0xEE) ∷
    Rescue HighFirst (take 14 table_p) output (saved 8 0 10 true) (no_sections ++ replicate 28 0xEE) ∷
    Rescue HighFirst (take 9 table_p) output (saved 8 0 5 true) (no_sections ++ replicate 28 0xEE) ∷
    Rescue HighFirst (take 6 table_p) output (saved 8 0 2 true) (no_sections ++ replicate 28 0xEE) ∷
    Rescue HighFirst (take 4 table_p) output (saved 8 0 0 true) (no_sections ++ replicate 28 0xEE) ∷
    -- P joined with Q, cut before the data of its second section, in the pads of that, and behind them; in and behind them low first; P with its pad byte 01, without its last byte
    Rescue HighFirst (take 24 join_pq) output (saved 20 1 8 true) (first_of_pq ++ replicate 16 0xEE) ∷
    Rescue HighFirst (take 27 join_pq) output (saved 20 1 11 true) (first_of_pq ++ replicate 16 0xEE) ∷
    Rescue HighFirst (take 28 join_pq) output (saved 32 2 0 true) (join_pq ++ replicate 4 0xEE) ∷
    Rescue LowFirst (take 27 low_pq) output (saved 20 1 11 true) (low_first_of_pq ++ replicate 16 0xEE) ∷
    Rescue LowFirst (take 28 low_pq) output (saved 32 2 0 true) (low_pq ++ replicate 4 0xEE) ∷
    Rescue HighFirst (take 19 padded_p) output (saved 20 1 3 true) (padded_p ++ replicate 16 0xEE) ∷
    -- a section past the top; P's section, one past the top, and Q's, which is not reached; P's section and erased flash; P low first, read in the wrong order
    Rescue HighFirst past_top_table output (saved 8 0 16 true) (no_sections ++ replicate 28 0xEE) ∷
    Rescue HighFirst (take 16 table_p ++ take 12 (drop 4 past_top_table) ++ drop 4 table_q) output (saved 20 1 28 true) (table_p ++ replicate 16 0xEE) ∷
    Rescue HighFirst (take 16 table_p ++ replicate 8 0xFF) output (saved 20 1 8 true) (table_p ++ replicate 16 0xEE) ∷
    Rescue HighFirst low_p output (saved 8 0 16 true) (no_sections_turned ++ replicate 28 0xEE) ∷
    -- no bytes, also where the output has none, and an entry word that is cut
    Rescue HighFirst [] [] (unsaved 5) [] ∷
    Rescue HighFirst [] output (unsaved 5) output ∷
    Rescue HighFirst (take 3 table_p) output (unsaved 5) output ∷
    -- an output exactly as long as the result, and one byte shorter, for P without its last byte and for P
    Rescue HighFirst short_p (replicate 20 0xEE) (saved 20 1 3 true) table_p ∷
    Rescue HighFirst short_p (replicate 19 0xEE) (unsaved 11) (replicate 19 0xEE) ∷
    Rescue HighFirst table_p (replicate 19 0xEE) (unsaved 11) (replicate 19 0xEE) ∷
    -- in any order: three sections that touch and share no address, in each of the six orders, and in two of them where M takes one write
    Load HighFirst map_m (ordered section_p section_r section_c) memory (accept 0x00800000 true 3 6) memory_cpr ∷
    Load HighFirst map_m (ordered section_p section_c section_r) memory (accept 0x00800000 true 3 6) memory_cpr ∷
    Load HighFirst map_m (ordered section_r section_p section_c) memory (accept 0x00800000 true 3 6) memory_cpr ∷
    Load HighFirst map_m (ordered section_r section_c section_p) memory (accept 0x00800000 true 3 6) memory_cpr ∷
    Load HighFirst map_m (ordered section_c section_p section_r) memory (accept 0x00800000 true 3 6) memory_cpr ∷
    Load HighFirst map_m (ordered section_c section_r section_p) memory (accept 0x00800000 true 3 6) memory_cpr ∷
    Load HighFirst map_once (ordered section_p section_r section_c) memory (accept 0x00800000 true 3 6) memory_cpr ∷
    Load HighFirst map_once (ordered section_c section_r section_p) memory (accept 0x00800000 true 3 6) memory_cpr ∷
    -- not in any order: the sections of Q joined with P sorted by address, which has the answer of card 3 and leaves the memory of card 2; and Q joined with P where M takes one write
    Load HighFirst map_m (take 4 table_p ++ drop 4 join_pq) memory (accept 0x00800000 true 2 4) memory_pq ∷
    Load HighFirst map_once join_qp memory (refuse 29 16 0) memory ∷
    -- a section that is not open, last and first
    Load HighFirst map_m (ordered section_p section_r section_closed) memory (refuse 9 28 0x00800010) memory ∷
    Load HighFirst map_m (ordered section_closed section_p section_r) memory (refuse 9 4 0x00800010) memory ∷
    -- P joined with R, and R with P, and these loaded: the same memory and counts, and each with the entry of its second table
    Join HighFirst table_p table_r output (success 32 2) (take 4 table_r ++ section_p ++ section_r ++ replicate 4 0x00 ++ replicate 4 0xEE) ∷
    Join HighFirst table_r table_p output (success 32 2) (take 4 table_p ++ section_r ++ section_p ++ replicate 4 0x00 ++ replicate 4 0xEE) ∷
    Load HighFirst map_m (take 4 table_r ++ section_p ++ section_r ++ replicate 4 0x00) memory (accept 0x00800005 true 2 4) memory_pr ∷
    Load HighFirst map_m (take 4 table_p ++ section_r ++ section_p ++ replicate 4 0x00) memory (accept 0x00800000 true 2 4) memory_pr ∷
    []
