-- `loader::storing::store_sections`: the sections before the offset are stored, and storing those from it on comes to storing all.
use Prim.Native.Nat.{ℕ, ◌-◌}
use mathlib.Core.Path.{◌≡◌}
use mathlib.Core.List.{List}
use lib.ListN.{length}
use Rattle.words.specs.declared.ByteOrder.{ByteOrder}
use Rattle.boot_table.specs.Table.{reading, read_on}
use Rattle.boot_table.specs.Valid.{All}
use Rattle.region_map.specs.declared.places.Region.{Region}
use Rattle.region_map.specs.Search.{Places}
use Rattle.loader.specs.Store.{store_all}
use Rattle.loader.specs.Load.{Opens}
use Rattle.loader.proofs.storing.store_sections.Given as goal

-- the table is whole and open from the offset on, the sections before it are stored, and the region has its places
pub record Stored (o : ByteOrder) (m t mem₀ mem : List ℕ) (at : ℕ) (r : Region) : Type 0 where
  pub whole : (read_on o t at).fault ≡ 0
  pub opens : All (Opens m) (read_on o t at).sections
  pub same : length mem ≡ length mem₀
  pub rest : store_all m mem₀ (reading o t).sections ≡ store_all m mem (read_on o t at).sections
  pub places : Places m r

abbrev pub invariant-loop-section : goal.invariant-loop-section
invariant-loop-section l = Stored l.order l.map l.table l.initial.memory l.memory l.at l.region

abbrev pub decreases-loop-section : goal.decreases-loop-section
decreases-loop-section l = length l.table - l.at
