-- Laws of places: those of a record stand in a row, they are inside memory, and no two open addresses share one.
use mathlib.Core.Path.{◌≡◌, refl, ap}
use mathlib.Core.List.{List}
use mathlib.Core.Bool.{true}
use Prim.Native.Nat.{ℕ, ◌+◌, ◌-◌, ◌≤◌, ◌<◌}
use native.Mathlib.Decide.{ℕ_discrete, dec_lt}
use native.Mathlib.Omega.{arith}
use Rattle.words.proofs.ChoiceLaws.{both_ways}
use Rattle.std.specs.Prelude.{Some, None}
use Rattle.std.specs.Prelude.{Option}
use Rattle.region_map.specs.Map.{count, permitted, first_at, any_holds, SoundMap, size_before, memory_size, is_open, holder, place_in, place_of}
use Rattle.region_map.specs.Search.{region_in, region_of, Places}
use Rattle.region_map.proofs.RecordLaws.{HeldBy, held_among, held_any, holder_only, holder_none, size_more}
use Rattle.region_map.proofs.FaultLaws.{sound_apart}
use Rattle.region_map.proofs.OpenLaws.{open_holder}

-- the place of an address by the record that is found for it
pub place_found : (m : List ℕ) (a i : ℕ) → holder m (count m) a ≡ Some i → place_of m a ≡ size_before m i + (a - first_at m i)
unfolding place_of
place_found m a i e = ap (place_in m a) e

-- the record of an open address, and the address's place
record Stands (m : List ℕ) (a : ℕ) : Type 0 where
  i : ℕ
  by : HeldBy m (count m) a i
  place : place_of m a ≡ size_before m i + (a - first_at m i)

stands : (m : List ℕ) (a : ℕ) → is_open m a ≡ true → Stands m a
stands m a e =
    let h = open_holder m a e in
    record { i = h.0; by = holder_only m (count m) a h.0 h.1; place = place_found m a h.0 h.1 }

-- the place of an open address is inside memory
pub place_lt : (m : List ℕ) → SoundMap m → (a : ℕ) → is_open m a ≡ true → place_of m a < memory_size m
place_lt m _ a e =
    let s = stands m a e in
    let g = size_more m (count m) s.i s.by.few s.by.kind in
    omega arith

-- an address of an earlier record has a lower place
place_before : (m : List ℕ) (a b : ℕ) (s : Stands m a) (t : Stands m b) → s.i < t.i → place_of m a < place_of m b
place_before m a b s t l = let g = size_more m t.i s.i l s.by.kind in omega arith

-- two open addresses with one place are one
pub place_inj : (m : List ℕ) → SoundMap m → (a b : ℕ) → is_open m a ≡ true → is_open m b ≡ true → place_of m a ≡ place_of m b → a ≡ b
place_inj m _ a b p q e = go (stands m a p) (stands m b q)
  where
    go : (s : Stands m a) (t : Stands m b) → a ≡ b
    go s t = split (ℕ_discrete s.i t.i) (dec_lt s.i t.i)
      where
        split : Dec (s.i ≡ t.i) → Dec (s.i < t.i) → a ≡ b
        split (yes u) d =
            let f : first_at m s.i ≡ first_at m t.i = ap (first_at m) u in
            let z : size_before m s.i ≡ size_before m t.i = ap (size_before m) u in
            omega arith
        split (no u) (yes d) = let l = place_before m a b s t d in absurd (omega arith)
        split (no u) (no d) = let l = place_before m b a t s (omega arith) in absurd (omega arith)

-- the permitted record that holds an address of a sound map
module _ (m : List ℕ) (sound : SoundMap m) where
  -- is the only one
  one : (x i j : ℕ) → HeldBy m (count m) x i → HeldBy m (count m) x j → i ≡ j
  one x i j p q = go (ℕ_discrete i j) (dec_lt i j)
    where
      go : Dec (i ≡ j) → Dec (i < j) → i ≡ j
      go (yes e) d = e
      go (no e) (yes u) = absurd (sound_apart m sound x j i q (held_among m (count m) j x i p u))
      go (no e) (no u) = absurd (sound_apart m sound x i j p (held_among m (count m) i x j q (omega arith)))

  -- gives the address its place
  pub place_is : (i x : ℕ) → HeldBy m (count m) x i → place_of m x ≡ size_before m i + (x - first_at m i)
  place_is i x p = go (holder m (count m) x) refl
    where
      go : (f : Option ℕ) → holder m (count m) x ≡ f → place_of m x ≡ size_before m i + (x - first_at m i)
      go None e = absurd (both_ways (any_holds (permitted m) m (count m) x) (held_any m (count m) x i p) (holder_none m (count m) x e))
      go (Some j) e = let u : j ≡ i = one x j i (holder_only m (count m) x j e) p in rw u at (place_found m x j e)

  -- the addresses of a region have their places in a row, inside memory
  pub region_places : (a : ℕ) → Places m (region_of m a)
  unfolding region_of
  region_places a = go (holder m (count m) a) refl
    where
      go : (f : Option ℕ) → holder m (count m) a ≡ f → Places m (region_in m f)
      go None e = record { row = λ x l u. absurd (omega arith); inside = omega arith }
      go (Some i) e =
          let h = holder_only m (count m) a i e in
          let g = size_more m (count m) i h.few h.kind in
          record { row = λ x l u. place_is i x (record { few = h.few; kind = h.kind; low = l; high = u }); inside = omega arith }

-- the region of an open address holds it
pub region_holds : (m : List ℕ) (a : ℕ) → is_open m a ≡ true → ((region_of m a).first ≤ a) × (a < (region_of m a).end)
unfolding region_of
region_holds m a o =
    let h = open_holder m a o in
    let b = holder_only m (count m) a h.0 h.1 in
    rw h.1 (b.low, b.high)
