-- What stands at an address in two tables. In one table the last section that covers the address decides, and the newer table goes before the older. t is a table, o the byte order of both, a an address.
use Rattle.std.specs.Prelude.{ℕ, ◌+◌, ◌-◌, List, [], ◌∷◌, Bool, not, ◌&&◌, length, take, drop, eqb}
use Rattle.std.specs.Prelude.{Option, Some, None, Result, Ok, Err}
use Rattle.words.specs.declared.ByteOrder.{ByteOrder}
use Rattle.words.specs.Choice.{if}
use Rattle.words.specs.Refusal.{number_of, place_of}
use Rattle.words.specs.declared.refusal.Refusal.{Refusal}
use Rattle.boot_table.specs.Table.{Sect, next_of, reading}
use Rattle.boot_table.specs.Form.{form_of}
use Rattle.boot_table.specs.Meaning.{covers}
use Rattle.query.specs.declared.Hit.{Hit}
use Rattle.query.specs.declared.Walk.{Walk as Walked}
use Rattle.query.specs.declared.Which.{Which}
use Rattle.query.specs.declared.Which.TheVariants.{Older, Newer}
use Rattle.query.specs.declared.TablePart.{TablePart}
use Rattle.query.specs.declared.Found.{Found}
use Rattle.query.specs.declared.FindRefusal.{FindRefusal}
use Rattle.query.specs.declared.FindRefusal.TheVariants.{Older as OlderRefused, Newer as NewerRefused}

-- ---- the header walk

-- the hit in the section s at offset at: where s covers a, the part from the byte for a on to the end of the data of s
unfoldable pub hit_of : ℕ → Sect → ℕ → Option Hit
hit_of at s a = if (covers s a) (Some (record { offset = at + 8 + (a - s.address); length = length s.body - (a - s.address) })) None

-- the later of two hits, or the earlier where the later is none
abbrev pub latest : Option Hit → Option Hit → Option Hit
latest earlier None = earlier
latest earlier (Some later) = Some later

-- what a header walk comes to: the last hit, and how many bytes of the table are read
pub record HeaderWalk : Type 0 where
  pub hit : Option Hit
  pub read : ℕ

-- a section is passed: its size word and its address word are read, and a later hit goes before that in it
unfoldable pub passing : Option Hit → HeaderWalk → HeaderWalk
passing hit after = record { hit = latest hit after.hit; read = 8 + after.read }

-- the header walk over sections from offset at on, and over the end word behind them
unfoldable pub walk_from : ℕ → List Sect → ℕ → HeaderWalk
walk_from at [] a = record { hit = None; read = 4 }
walk_from at (s ∷ ss) a = passing (hit_of at s a) (walk_from (next_of at (length s.body)) ss a)

-- the header walk over a table
unfoldable pub header_walk : ByteOrder → List ℕ → ℕ → HeaderWalk
header_walk o t a = walk_from 4 (reading o t).sections a

-- what a walk comes to: the last hit and how many bytes are read, or the table's fault
pub data Walk : Type 0 where
  Whole : (hit : Option Hit) (read : ℕ) → Walk
  Faulty : (number place : ℕ) → Walk

-- what the walk that the code answers stands for
abbrev pub walk_of : Result Walked Refusal → Walk
walk_of (Ok w) = Whole w.hit w.read
walk_of (Err refusal) = Faulty (number_of refusal) (place_of refusal)

-- the fault of a table's form, or what the header walk over it comes to
unfoldable pub walked : ByteOrder → List ℕ → ℕ → Walk
walked o t a =
    if (not (eqb (form_of o t).number 0)) (Faulty (form_of o t).number (form_of o t).place)
    (Whole (header_walk o t a).hit (header_walk o t a).read)

-- ---- the first call

-- what finding answers, in numbers: number 0, the table (1 the older, 2 the newer, 0 neither), offset and length of the part in it, and how many bytes of both are read; or a refusal
pub record FindAnswer : Type 0 where
  pub number : ℕ
  pub place : ℕ
  pub table : ℕ
  pub offset : ℕ
  pub length : ℕ
  pub read : ℕ

-- a refusal: its number and place, and the table that it speaks of, all else zero
abbrev pub find_refused : ℕ → ℕ → ℕ → FindAnswer
find_refused number place table = record { number = number; place = place; table = table; offset = 0; length = 0; read = 0 }

-- an answer that is no refusal
abbrev pub found_part : ℕ → ℕ → ℕ → ℕ → FindAnswer
found_part table offset size read = record { number = 0; place = 0; table = table; offset = offset; length = size; read = read }

-- the answer for the hits in the older and the newer table: newer goes before older
abbrev pub from_hits : Option Hit → Option Hit → ℕ → FindAnswer
from_hits older (Some hit) read = found_part 2 hit.offset hit.length read
from_hits (Some hit) None read = found_part 1 hit.offset hit.length read
from_hits None None read = found_part 0 0 0 read

-- the answer for the walks over the two: the older table's fault, the newer's, or what was found, with the bytes read of both
abbrev pub from_walks : Walk → Walk → FindAnswer
from_walks (Faulty number place) newer = find_refused number place 1
from_walks (Whole olderHit olderRead) (Faulty number place) = find_refused number place 2
from_walks (Whole olderHit olderRead) (Whole newerHit newerRead) = from_hits olderHit newerHit (olderRead + newerRead)

-- what finding answers
unfoldable pub find_answer : ByteOrder → List ℕ → List ℕ → ℕ → FindAnswer
find_answer o older newer a = from_walks (walked o older a) (walked o newer a)

-- the number of a table
abbrev pub table_number : Which → ℕ
table_number Older = 1
table_number Newer = 2

-- what the part that the code answers stands for, where so many bytes are read
abbrev pub part_of : Option TablePart → ℕ → FindAnswer
part_of (Some part) read = found_part (table_number part.table) part.offset part.length read
part_of None read = found_part 0 0 0 read

-- what the answer of the code stands for
abbrev pub answer_of : Result Found FindRefusal → FindAnswer
answer_of (Ok found) = part_of found.part found.read
answer_of (Err (OlderRefused refusal)) = find_refused (number_of refusal) (place_of refusal) 1
answer_of (Err (NewerRefused refusal)) = find_refused (number_of refusal) (place_of refusal) 2

-- ---- the second call

-- r tells of a part of the newer table: it is no refusal, and the table is 2
unfoldable pub in_newer : FindAnswer → Bool
in_newer r = eqb r.number 0 && eqb r.table 2

-- the newer of two where r tells of a part of the newer table; else the older, also where there is no part or r is a refusal
unfoldable pub chosen : {A : Type 0} → FindAnswer → A → A → A
chosen r older newer = if (in_newer r) newer older

-- the bytes of the part that r tells of: of its table, from the offset of r on, as many as the length of r; where r tells of no part, none of the older
unfoldable pub part_bytes : FindAnswer → List ℕ → List ℕ → List ℕ
part_bytes r older newer = take r.length (drop r.offset (chosen r older newer))

-- where that part stands: at its table's start and the offset of r past it; where r tells of no part, at the older's start. A pointer is a block and an offset in it
unfoldable pub part_start : FindAnswer → ℕ × ℕ → ℕ × ℕ → ℕ × ℕ
part_start r older newer = ((chosen r older newer).0, (chosen r older newer).1 + r.offset)

-- the bytes of the part that stands at a, and where it stands; p is the older table's pointer, q the newer's
abbrev pub found_bytes : ByteOrder → List ℕ → List ℕ → ℕ → List ℕ
found_bytes o older newer a = part_bytes (find_answer o older newer a) older newer

abbrev pub found_start : ByteOrder → List ℕ → List ℕ → ℕ → ℕ × ℕ → ℕ × ℕ → ℕ × ℕ
found_start o older newer a p q = part_start (find_answer o older newer a) p q
