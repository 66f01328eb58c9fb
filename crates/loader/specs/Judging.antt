-- What the functions of judging ensure, by name: stretches of open addresses, and what a walk has passed. m is a map, t a table, o its byte order.
use Rattle.std.specs.Prelude.{ℕ, ◌≤◌, ◌<◌, ◌≡◌, List, true, false, length, Option, Some, None, Result, Ok, Err, ⊤}
use Rattle.words.specs.declared.refusal.Refusal.{Refusal}
use Rattle.words.specs.declared.refusal.Refusal.TheVariants.{StoredTwice}
use Rattle.words.specs.declared.ByteOrder.{ByteOrder}
use Rattle.region_map.specs.Map.{count, reserved, any_holds, is_open}
use Rattle.boot_table.specs.Table.{reading, read_on}
use Rattle.boot_table.specs.Form.{form_of}
use Rattle.boot_table.specs.Walk.{tally}
use Rattle.loader.specs.declared.judging.Stretch.{Stretch}
use Rattle.loader.specs.declared.judging.Walk.{Walk}
use Rattle.loader.specs.Load.{accepted, map_rule}

-- ---- stretches

-- the addresses from a up to b are in no reserved record
abbrev pub Clear : List ℕ → ℕ → ℕ → Type 0
Clear m a b = (x : ℕ) → a ≤ x → x < b → any_holds (reserved m) m (count m) x ≡ false

-- the addresses from a up to r are clear, and r is a only where a reserved record holds a
pub record ClearPast (m : List ℕ) (a r : ℕ) : Type 0 where
  pub low : a ≤ r
  pub clear : Clear m a r
  pub why : r ≡ a → any_holds (reserved m) m (count m) a ≡ true

-- the addresses of a stretch are open, and those after them clear
pub record Open (m : List ℕ) (s : Stretch) : Type 0 where
  pub opens : (x : ℕ) → s.from ≤ x → x < s.until → is_open m x ≡ true
  pub clears : Clear m s.until s.clear

-- r is the stretch s made longer: to end or past it, or up to an address that is not open
pub record Lengthened (m : List ℕ) (s : Stretch) (end : ℕ) (r : Stretch) : Type 0 where
  pub is : Open m r
  pub from : r.from ≡ s.from
  pub far : s.until ≤ r.until
  pub why : r.until < end → is_open m r.until ≡ false

-- s holds the addresses from a on, to end or past it, or up to one that is not open
pub record OpenTo (m : List ℕ) (a end : ℕ) (s : Stretch) : Type 0 where
  pub is : Open m s
  pub low : s.from ≤ a
  pub high : a ≤ s.until
  pub why : s.until < end → is_open m s.until ≡ false

-- ---- the walk

-- a walk stands within the table, and has passed no more sections and data bytes than bytes
pub record Counted (t : List ℕ) (w : Walk) : Type 0 where
  pub within : w.offset ≤ length t
  pub few : w.sections ≤ w.offset
  pub small : w.bytes ≤ w.offset

-- what a walk has passed is open; what is read on decides the form, and then the map rule
pub record Passed (o : ByteOrder) (m t : List ℕ) (w : Walk) (s : Stretch) : Type 0 where
  pub form : form_of o t ≡ tally w.sections w.bytes (read_on o t w.offset)
  pub rule : map_rule m (accepted o m t) 4 (reading o t).sections ≡ map_rule m (accepted o m t) w.offset (read_on o t w.offset).sections
  pub is : Open m s

-- a walk went on from w to r over sections that lie in the stretch s; so where w had passed open sections alone, under a
-- map that opens s, so has r
pub record WalkedOn (o : ByteOrder) (t : List ℕ) (w : Walk) (s : Stretch) (r : Walk) : Type 0 where
  pub far : w.offset ≤ r.offset
  pub counted : Counted t r
  pub passed : (m : List ℕ) → Passed o m t w s → Passed o m t r s

-- ---- one write

-- the refusal of a section at an offset that stores an address of kind 3 again, or none
abbrev pub once_result : Option ℕ → Result ⊤ Refusal
once_result None = Ok tt
once_result (Some at) = Err (StoredTwice at)
