-- What the answers of finding say of the two tables. o is the byte order of both, ss are sections, a is an address, r an answer.
use Rattle.std.specs.Prelude.{ℕ, ◌+◌, ◌-◌, ◌*◌, ◌≤◌, ◌≡◌, ◌↔◌, List, [], ◌∷◌, ◌++◌, true, length, drop}
use Rattle.words.specs.declared.ByteOrder.{ByteOrder}
use Rattle.boot_table.specs.Table.{Sect, next_of, reading}
use Rattle.boot_table.specs.Form.{WellFormed}
use Rattle.boot_table.specs.Meaning.{covers, times}
use Rattle.query.specs.Find.{FindAnswer, find_answer, chosen, part_bytes, part_start}

-- no section covers the address
abbrev pub Uncovered : List Sect → ℕ → Type 0
Uncovered ss a = times ss a ≡ 0

-- the offset behind sections that stand from offset at on
unfoldable pub offset_after : ℕ → List Sect → ℕ
offset_after at [] = at
offset_after at (s ∷ ss) = offset_after (next_of at (length s.body)) ss

-- the section that decides: of ss, which stand from offset at on, the last that covers a. The byte for a stands at offset, and bytes are the section's data from that byte on
pub record LastCovers (at : ℕ) (ss : List Sect) (a offset : ℕ) (bytes : List ℕ) : Type 0 where
  pub section : Sect
  pub earlier : List Sect
  pub later : List Sect
  pub among : ss ≡ earlier ++ (section ∷ later)
  pub covered : covers section a ≡ true
  pub last : Uncovered later a
  pub offset_is : offset ≡ offset_after at earlier + 8 + (a - section.address)
  pub bytes_are : bytes ≡ drop (a - section.address) section.body

-- r tells of no part: the part is the empty one at the older's start
pub record NoPart (older newer : List ℕ) (r : FindAnswer) : Type 0 where
  pub bytes : part_bytes r older newer ≡ []
  pub start : (p q : ℕ × ℕ) → part_start r p q ≡ p

-- what an answer says that is no refusal
pub record Says (o : ByteOrder) (older newer : List ℕ) (a : ℕ) (r : FindAnswer) : Type 0 where
  -- table 2: the part is the data, from the byte for the address on, of the newer table's last section that covers it
  pub in_newer : r.table ≡ 2 → LastCovers 4 (reading o newer).sections a r.offset (part_bytes r older newer)
  -- table 1: no section of the newer table covers it, and the part is the older's
  pub in_older : r.table ≡ 1 → (Uncovered (reading o newer).sections a) × (LastCovers 4 (reading o older).sections a r.offset (part_bytes r older newer))
  -- table 0: no section of either covers it, offset and length are zero, and there is no part
  pub in_neither : r.table ≡ 0
      → (Uncovered (reading o newer).sections a) × (Uncovered (reading o older).sections a) × (r.offset ≡ 0) × (r.length ≡ 0) × (NoPart older newer r)
  -- there is no other table
  pub tables : r.table ≤ 2
  -- the part stands in the table that is named, at the offset; p is the older table's pointer, q the newer's
  pub starts : (p q : ℕ × ℕ) → (r.table ≡ 2 → part_start r p q ≡ (q.0, q.1 + r.offset)) × (r.table ≡ 1 → part_start r p q ≡ (p.0, p.1 + r.offset))
  -- and lies inside it
  pub inside : r.offset + r.length ≤ length (chosen r older newer)
  -- the bytes read are 8 for each section of both tables, and 4 for each of the two end words
  pub count : r.read ≡ 8 * (length (reading o older).sections + length (reading o newer).sections) + 4 + 4

-- what a refusal says: it speaks of one of the tables, offset, length and count are zero, and there is no part
pub record Refuses (older newer : List ℕ) (r : FindAnswer) : Type 0 where
  pub table : (1 ≤ r.table) × (r.table ≤ 2)
  pub zero : (r.offset ≡ 0) × (r.length ≡ 0) × (r.read ≡ 0)
  pub none : NoPart older newer r

-- For every order, two tables and address: the answer is no refusal exactly when both tables are well-formed, and what it then says, and what a refusal says.
pub record Finding : Type 0 where
  pub accepted : (o : ByteOrder) (older newer : List ℕ) (a : ℕ) → ((find_answer o older newer a).number ≡ 0) ↔ ((WellFormed o older) × (WellFormed o newer))
  pub says : (o : ByteOrder) (older newer : List ℕ) (a : ℕ) → (find_answer o older newer a).number ≡ 0 → Says o older newer a (find_answer o older newer a)
  pub refuses : (o : ByteOrder) (older newer : List ℕ) (a : ℕ) → ((find_answer o older newer a).number ≡ 0 → ⊥) → Refuses older newer (find_answer o older newer a)
