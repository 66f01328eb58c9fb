-- What a search through a map's records finds: for the functions below the published ones. m is a map.
use Rattle.std.specs.Prelude.{ℕ, zero, suc, ◌+◌, ◌-◌, ◌^◌, ◌≤◌, ◌<◌, min, max, ◌≡◌, List, Bool, true, ◌&&◌, ltb, Option, Some, None}
use Rattle.words.specs.Choice.{if}
use Rattle.region_map.specs.Map.{count, permitted, first_at, end_at, holds, size_before, memory_size, holder, place_of}
use Rattle.region_map.specs.declared.records.Kind.{Kind}
use Rattle.region_map.specs.declared.records.Kind.TheVariants.{Permitted, Reserved, OneWrite}
use Rattle.region_map.specs.declared.places.Region.{Region}

-- the number of a kind
abbrev pub kind_number : Kind → ℕ
kind_number Permitted = 1
kind_number Reserved = 2
kind_number OneWrite = 3

-- how far the addresses from a on are permitted by the records before record i in the map, the nearest first, as long as the next one touches
unfoldable pub touching_before : List ℕ → ℕ → ℕ → ℕ
touching_before m zero a = a
touching_before m (suc i) a = if (permitted m i && holds m i a) (touching_before m i (end_at m i)) a

-- and by the n records from record i on, in the map's order
unfoldable pub touching_after : List ℕ → ℕ → ℕ → ℕ → ℕ
touching_after m zero i a = a
touching_after m (suc n) i a = if (permitted m i && holds m i a) (touching_after m n (suc i) (end_at m i)) a

-- by the record that was found and those beside it, or none where none was found
abbrev pub until_of : List ℕ → ℕ → Option ℕ → ℕ
until_of m a None = a
until_of m a (Some i) = touching_after m (count m - suc i) (suc i) (touching_before m i (end_at m i))

-- how far the addresses from a on are permitted by the record that holds a, and by those beside it in the map that touch
unfoldable pub permitted_until : List ℕ → ℕ → ℕ
permitted_until m a = until_of m a (holder m (count m) a)

-- the lowest address from a on in record i, if that is of a kind, or a bound that is lower
unfoldable pub lowest_in : (ℕ → Bool) → List ℕ → ℕ → ℕ → ℕ → ℕ
lowest_in kind m i a bound = if (kind i && ltb (max a (first_at m i)) (end_at m i)) (min bound (max a (first_at m i))) bound

-- the lowest address from a on in one of the first n records that are of a kind, or 2^32
unfoldable pub lowest_from : (ℕ → Bool) → List ℕ → ℕ → ℕ → ℕ
lowest_from kind m zero a = 2 ^ 32
lowest_from kind m (suc i) a = lowest_in kind m i a (lowest_from kind m i a)

-- the addresses of the record that was found, and the place of the first; none where none was
abbrev pub region_in : List ℕ → Option ℕ → Region
region_in m None = record { first = 0; end = 0; place = 0 }
region_in m (Some i) = record { first = first_at m i; end = end_at m i; place = size_before m i }

-- the region of the permitted record that holds a
unfoldable pub region_of : List ℕ → ℕ → Region
region_of m a = region_in m (holder m (count m) a)

-- the addresses of a region have their places in a row from the region's on, inside memory
pub record Places (m : List ℕ) (r : Region) : Type 0 where
  pub row : (x : ℕ) → r.first ≤ x → x < r.end → place_of m x ≡ r.place + (x - r.first)
  pub inside : r.place + (r.end - r.first) ≤ memory_size m

-- the permitted ones of the first n records have their addresses from low on and below high
pub record Within (m : List ℕ) (n low high : ℕ) : Type 0 where
  pub above : (i : ℕ) → i < n → permitted m i ≡ true → low ≤ first_at m i
  pub below : (i : ℕ) → i < n → permitted m i ≡ true → end_at m i ≤ high
