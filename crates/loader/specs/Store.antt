-- Storing sections into memory. m is a map, mem memory.
use Rattle.std.specs.Prelude.{ℕ, suc, List, [], ◌∷◌, set}
use Rattle.region_map.specs.Map.{place_of}
use Rattle.boot_table.specs.Table.{Sect}

-- memory after bytes were stored, each at the place of its address, from the address a on
unfoldable pub store_bytes : List ℕ → List ℕ → ℕ → List ℕ → List ℕ
store_bytes m mem a [] = mem
store_bytes m mem a (b ∷ bs) = store_bytes m (set mem (place_of m a) b) (suc a) bs

-- memory after the data of sections was stored, one section after the other
unfoldable pub store_all : List ℕ → List ℕ → List Sect → List ℕ
store_all m mem [] = mem
store_all m mem (s ∷ ss) = store_all m (store_bytes m mem s.address s.body) ss
