-- `loader::storing::store_section`: what is done is stored, and storing the rest of the data comes to storing all of it.
use Prim.Native.Nat.{ℕ, ◌≤◌, ◌-◌, ◌+◌}
use mathlib.Core.Path.{◌≡◌}
use mathlib.Core.List.{List}
use lib.ListN.{length, drop}
use Rattle.region_map.specs.declared.places.Region.{Region}
use Rattle.region_map.specs.Search.{Places}
use Rattle.loader.specs.Store.{store_bytes}
use Rattle.loader.proofs.storing.store_section.Given as goal

-- n bytes of the data are stored, at is the address of the next, and the region has its places
pub record Stored (m mem₀ : List ℕ) (a : ℕ) (body mem : List ℕ) (r : Region) (at n : ℕ) : Type 0 where
  pub here : at ≡ a + n
  pub few : n ≤ length body
  pub same : length mem ≡ length mem₀
  pub rest : store_bytes m mem₀ a body ≡ store_bytes m mem (a + n) (drop n body)
  pub places : Places m r

abbrev pub invariant-loop-done : goal.invariant-loop-done
invariant-loop-done l = Stored l.map l.initial.memory l.address l.body l.memory l.region l.at l.done

abbrev pub decreases-loop-done : goal.decreases-loop-done
decreases-loop-done l = length l.body - l.done
