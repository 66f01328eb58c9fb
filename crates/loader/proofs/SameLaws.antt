-- Memory after storing is decided by the last byte of each address: sections with the same last bytes leave the same memory.
use mathlib.Core.Path.{◌≡◌, refl, sym, ◌∙◌, ap}
use mathlib.Core.Logic.{◌≢◌, ◌⊎◌, inl, inr, ⊎_elim}
use mathlib.Core.List.{List, [], ◌∷◌}
use mathlib.Core.Bool.{Bool, true, false}
use mathlib.Core.Option
use mathlib.Core.Option.{Option, none, some}
use Prim.Native.Nat.{ℕ, zero, suc, ◌+◌, ◌-◌, ◌<◌}
use native.Mathlib.Omega.{arith}
use native.Mathlib.Decide.{ℕ_discrete}
use lib.ListN.{length, get_or}
use lib.Seq.{ext_get_or}
use Rattle.region_map.specs.Map.{SoundMap, is_open, memory_size, place_of}
use Rattle.boot_table.specs.Table.{Sect}
use Rattle.boot_table.specs.Meaning.{covers, last_byte}
use Rattle.boot_table.specs.Valid.{All, none as All-none, also}
use Rattle.boot_table.proofs.MeaningLaws.{covers_true, covers_in}
use Rattle.loader.specs.Store.{store_bytes, store_all}
use Rattle.loader.specs.Load.{Opens}
use Rattle.loader.proofs.StoreLaws.{bytes_miss, length_store_all, store_all_at}

-- ---- addresses that a section covers

-- an address that some section covers
abbrev pub Covered : List Sect → ℕ → Type 0
Covered ss a = last_byte ss a ≢ none

not_none : {b : ℕ} → ◌≡◌ {A = Option ℕ} (some b) none → ⊥
not_none e = let z : ◌≡◌ {A = ℕ} 0 1 = cc in omega arith

covered_first : (s : Sect) (ss : List Sect) (a : ℕ) → covers s a ≡ true → Covered (s ∷ ss) a
unfolding last_byte
covered_first s ss a c = go (last_byte ss a) refl
  where
    go : (b : Option ℕ) → last_byte ss a ≡ b → Covered (s ∷ ss) a
    go none e = rw (e, c) not_none
    go (some b) e = rw e not_none

covered_later : (s : Sect) (ss : List Sect) (a : ℕ) → Covered ss a → Covered (s ∷ ss) a
unfolding last_byte
covered_later s ss a n = go (last_byte ss a) refl
  where
    go : (b : Option ℕ) → last_byte ss a ≡ b → Covered (s ∷ ss) a
    go none e = absurd (n e)
    go (some b) e = rw e not_none

covered_none : (a : ℕ) → Covered [] a → ⊥
unfolding last_byte
covered_none a n = n refl

covered_split : (s : Sect) (ss : List Sect) (a : ℕ) → Covered (s ∷ ss) a → (covers s a ≡ true) ⊎ Covered ss a
unfolding last_byte
covered_split s ss a n = go (last_byte ss a) refl (covers s a) refl
  where
    go : (b : Option ℕ) → last_byte ss a ≡ b → (c : Bool) → covers s a ≡ c → (covers s a ≡ true) ⊎ Covered ss a
    go none e true f = inl f
    go none e false f = absurd (n (rw (e, f)))
    go (some b) e c f = inr (rw e not_none)

-- covered addresses of open sections are open
pub covered_open : (m : List ℕ) {ss : List Sect} → All (Opens m) ss → (a : ℕ) → Covered ss a → is_open m a ≡ true
covered_open m All-none a n = absurd (covered_none a n)
covered_open m (also {s = s} {ss = ss} o os) a n = ⊎_elim (λ c. o a c) (λ k. covered_open m os a k) (covered_split s ss a n)

-- ---- places that storing reaches

-- a place of a covered address, or one of none
abbrev Reached : List ℕ → List Sect → ℕ → Type 0
Reached m ss p = ((a : ℕ) × Covered ss a × (p ≡ place_of m a)) ⊎ ((a : ℕ) → Covered ss a → p ≢ place_of m a)

-- of n addresses from a on one has the place p, or none has
span_reach : (m : List ℕ) (a n p : ℕ) → ((i : ℕ) × (i < n) × (p ≡ place_of m (a + i))) ⊎ ((i : ℕ) → i < n → p ≢ place_of m (a + i))
span_reach m a zero p = inr (λ i h e. omega arith)
span_reach m a (suc n) p = go (span_reach m a n p) (ℕ_discrete p (place_of m (a + n)))
  where
    go : ((i : ℕ) × (i < n) × (p ≡ place_of m (a + i))) ⊎ ((i : ℕ) → i < n → p ≢ place_of m (a + i)) → Dec (p ≡ place_of m (a + n))
        → ((i : ℕ) × (i < suc n) × (p ≡ place_of m (a + i))) ⊎ ((i : ℕ) → i < suc n → p ≢ place_of m (a + i))
    go (inl f) d = inl (f.0, omega arith, f.2)
    go (inr g) (yes e) = inl (n, omega arith, e)
    go (inr g) (no k) = inr (λ i h e. at i h e (ℕ_discrete i n))
      where
        at : (i : ℕ) → i < suc n → p ≡ place_of m (a + i) → Dec (i ≡ n) → ⊥
        at i h e (yes q) = k (rw q at e)
        at i h e (no r) = g i (omega arith) e

reach : (m : List ℕ) (ss : List Sect) (p : ℕ) → Reached m ss p
reach m [] p = inr (λ a n e. covered_none a n)
reach m (s ∷ ss) p = go (reach m ss p) (span_reach m s.address (length s.body) p)
  where
    go : Reached m ss p
        → ((i : ℕ) × (i < length s.body) × (p ≡ place_of m (s.address + i))) ⊎ ((i : ℕ) → i < length s.body → p ≢ place_of m (s.address + i))
        → Reached m (s ∷ ss) p
    go (inl f) h = inl (f.0, covered_later s ss f.0 f.1, f.2)
    go (inr g) (inl f) =
        inl (s.address + f.0, covered_first s ss (s.address + f.0) (covers_in s (s.address + f.0) (omega arith) (omega (arith, f.1))), f.2)
    go (inr g) (inr h) = inr (λ a n e. miss a e (covered_split s ss a n))
      where
        miss : (a : ℕ) → p ≡ place_of m a → (covers s a ≡ true) ⊎ Covered ss a → ⊥
        miss a e (inl c) =
            let k = covers_true s a c in
            let q : s.address + (a - s.address) ≡ a = omega arith in
            h (a - s.address) (omega arith) (rw q e)
        miss a e (inr n) = g a n e

-- a place that no covered address has keeps its byte
pub store_all_away : (m mem : List ℕ) (ss : List Sect) (p : ℕ) → ((a : ℕ) → Covered ss a → p ≢ place_of m a) → get_or (store_all m mem ss) p 0 ≡ get_or mem p 0
unfolding store_all
store_all_away m mem [] p away = refl
store_all_away m mem (s ∷ ss) p away =
    store_all_away m (store_bytes m mem s.address s.body) ss p (λ a n. away a (covered_later s ss a n))
    ∙ bytes_miss m mem s.address s.body p
    (λ i h. away (s.address + i) (covered_first s ss (s.address + i) (covers_in s (s.address + i) (omega arith) (omega arith))))

-- ---- the same last bytes, the same memory

module _ (m : List ℕ) (sound : SoundMap m) (mem : List ℕ) (size : length mem ≡ memory_size m) where
  pub same_memory : (xs ys : List Sect) → All (Opens m) xs → All (Opens m) ys → ((a : ℕ) → last_byte xs a ≡ last_byte ys a)
      → store_all m mem xs ≡ store_all m mem ys
  same_memory xs ys ox oy same =
      ext_get_or 0 (store_all m mem xs) (store_all m mem ys) (length_store_all m mem xs ∙ sym (length_store_all m mem ys)) (λ p h. at p (reach m xs p))
    where
      at : (p : ℕ) → Reached m xs p → get_or (store_all m mem xs) p 0 ≡ get_or (store_all m mem ys) p 0
      at p (inl f) =
          let o : is_open m f.0 ≡ true = covered_open m ox f.0 f.1 in
          rw f.2
          (store_all_at m sound mem size ox f.0 o
          ∙ ap (λ (b : Option ℕ). Option.get_or b (get_or mem (place_of m f.0) 0)) (same f.0)
          ∙ sym (store_all_at m sound mem size oy f.0 o))
      at p (inr g) = store_all_away m mem xs p g ∙ sym (store_all_away m mem ys p (λ a n. g a (rw (same a) n)))
