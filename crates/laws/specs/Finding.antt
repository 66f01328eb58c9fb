-- Finding beside loading and joining: the first byte of the part that is found is what loading the older table and then the newer leaves at the address, and a table is refused as in the join.
-- older and newer are tables, o is their byte order, m a map, mem memory, a an address.
use Rattle.std.specs.Prelude.{ℕ, ◌+◌, ◌≤◌, ◌<◌, ◌≡◌, List, length, get_or}
use Rattle.words.specs.declared.ByteOrder.{ByteOrder}
use Rattle.region_map.specs.Map.{place_of}
use Rattle.boot_table.specs.Table.{reading}
use Rattle.boot_table.specs.Meaning.{times}
use Rattle.loader.specs.Load.{load_answer, load_memory}
use Rattle.joiner.specs.Join.{join_refused, join_answer}
use Rattle.query.specs.Find.{find_refused, find_answer, found_bytes}
use Rattle.laws.specs.Demand3.{IsAccepted}

-- the older table loads, and the newer into what the older left
pub record BothLoad (o : ByteOrder) (m older newer mem : List ℕ) : Type 0 where
  pub first : IsAccepted (load_answer o m older (length mem))
  pub second : IsAccepted (load_answer o m newer (length (load_memory o m older mem)))

-- a section of one of the two tables covers the address
abbrev pub OneCovers : ByteOrder → List ℕ → List ℕ → ℕ → Type 0
OneCovers o older newer a = 1 ≤ times (reading o older).sections a + times (reading o newer).sections a

-- what finding answers of the address, and what memory then holds for it
pub record Stands (o : ByteOrder) (m older newer mem : List ℕ) (a : ℕ) : Type 0 where
  -- finding names a table
  pub accepted : (find_answer o older newer a).number ≡ 0
  pub named : 1 ≤ (find_answer o older newer a).table
  -- the part has a first byte
  pub some : 1 ≤ length (found_bytes o older newer a)
  -- the address has a place in memory
  pub placed : place_of m a < length (load_memory o m newer (load_memory o m older mem))
  -- and that byte stands there
  pub byte : get_or (load_memory o m newer (load_memory o m older mem)) (place_of m a) 0 ≡ get_or (found_bytes o older newer a) 0 0

-- So in every order, for all tables that load under one map and an address that one of them covers.
abbrev pub FoundLoads : Type 0
FoundLoads = (o : ByteOrder) (m older newer mem : List ℕ) (a : ℕ) → BothLoad o m older newer mem → OneCovers o older newer a → Stands o m older newer mem a

-- A table is refused as in the join of the older with the newer, whatever the output: of the same table with the same number and place. (The join's other refusals, for its length and for the output, speak of no table.)
pub record RefusedAsJoin : Type 0 where
  pub find_join : (o : ByteOrder) (older newer : List ℕ) (a room : ℕ) → ((find_answer o older newer a).number ≡ 0 → ⊥)
      → join_answer o older newer room ≡ join_refused (find_answer o older newer a).number (find_answer o older newer a).place (find_answer o older newer a).table
  pub join_find : (o : ByteOrder) (older newer : List ℕ) (a room : ℕ) → ((join_answer o older newer room).which ≡ 0 → ⊥)
      → find_answer o older newer a ≡ find_refused (join_answer o older newer room).number (join_answer o older newer room).place (join_answer o older newer room).which
