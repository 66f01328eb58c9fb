-- Laws of a map's first fault: what the search for it finds, and what holds of a map that has none.
use mathlib.Core.Path.{◌≡◌, refl, sym, ap, ◌∙◌}
use mathlib.Core.List.{List}
use mathlib.Core.Bool.{Bool, true, false, not, ◌&&◌, ◌||◌}
use Prim.Native.Nat.{ℕ, zero, suc, ◌+◌, ◌-◌, ◌%◌, ◌^◌, ◌≤◌, ◌<◌}
use native.Mathlib.Numerals.{add-one}
use native.Mathlib.Decide.{ℕ_discrete}
use native.Mathlib.Omega.{arith}
use lib.ListN.{length}
use lib.Dec.{ltb, leb, eqb}
use borrow.Author.Tests.{lt-ltb, le-ltb, le-leb, leb-true, not-true}
use Rattle.words.specs.Choice.{if}
use Rattle.words.proofs.ChoiceLaws.{both_ways, and_yes, and_no, or_no, if_split, if_both}
use Rattle.words.proofs.RefusalLaws.{number_some}
use Rattle.words.specs.Refusal.{number_of}
use Rattle.words.specs.declared.refusal.Refusal.{Refusal}
use Rattle.words.specs.declared.refusal.Refusal.TheVariants.{MapLength, MapRecord}
use Rattle.std.specs.Prelude.{Option, Some, None}
use Rattle.std.proofs.lemmas.Option.{none-some}
use Rattle.region_map.specs.Map.{record_size, map_limit, count, marked, permitted, known, zeroed, first_at, length_at, end_at, shares, shares_any, sound_at, fault_from, map_fault, SoundMap, memory_size, fault_answer, map_answer}
use Rattle.region_map.specs.Search.{Within}
use Rattle.region_map.proofs.RecordLaws.{HeldBy}

-- record i shares no address with permitted ones that all lie below it, or all above it
module _ (m : List ℕ) (i : ℕ) where
  shares_apart : (n : ℕ) → ((j : ℕ) → j < n → permitted m j ≡ true → shares m i j ≡ false) → shares_any m i n ≡ false
  unfolding shares_any
  shares_apart zero f = refl
  shares_apart (suc n) f = go (permitted m n) refl (shares_apart n (λ j l. f j (omega arith)))
    where
      go : (b : Bool) → permitted m n ≡ b → shares_any m i n ≡ false → ((permitted m n && shares m i n) || shares_any m i n) ≡ false
      go true e ih = rw (e, f n (omega arith) e, ih)
      go false e ih = rw (e, ih)

  pub shares_below : (n low high : ℕ) → Within m n low high → high ≤ first_at m i → shares_any m i n ≡ false
  unfolding shares
  shares_below n low high w h = shares_apart n (λ j l p. rw (le-ltb (first_at m i) (end_at m j) (omega (arith, w.below j l p))))

  pub shares_above : (n low high : ℕ) → Within m n low high → end_at m i ≤ low → shares_any m i n ≡ false
  unfolding shares
  shares_above n low high w h =
      shares_apart n (λ j l p. and_no (ltb (first_at m i) (end_at m j)) (ltb (first_at m j) (end_at m i)) (le-ltb (first_at m j) (end_at m i) (omega (arith, w.above j l p))))

-- a record that keeps the rules before the last is sound just where it keeps the last
pub sound_last : (m : List ℕ) (i : ℕ) → marked m i ≡ true → known m i ≡ true → zeroed m i ≡ true → 1 ≤ length_at m i → end_at m i ≤ 2 ^ 32 → sound_at m i ≡ not (permitted m i && shares_any m i i)
unfolding sound_at
sound_last m i a b c l e = rw (a, b, c, le-leb 1 (length_at m i) l, le-leb (end_at m i) (2 ^ 32) e)

-- the first fault among n records is one after record i, if that is sound
pub fault_no : (m : List ℕ) (n i : ℕ) → i < n → true ≡ sound_at m i → fault_from m (n - i) i ≡ fault_from m (n - (i + 1)) (i + 1)
unfolding fault_from
fault_no m n i h e =
    let k : n - i ≡ suc (n - (i + 1)) = omega arith in
    ap (λ (x : ℕ). fault_from m x i) k ∙ simp (← e, add-one)

-- a choice that came out sound
if_sound : (b : Bool) (f : Option Refusal) (r : Refusal) → if b f (Some r) ≡ None → (b ≡ true) × (f ≡ None)
if_sound b f r e = if_split b f (Some r) None e (λ p q. (p, q)) (λ p q. absurd (none-some r (sym q)))

-- each of n records with no fault is sound
sound_from : (m : List ℕ) (n i j : ℕ) → fault_from m n i ≡ None → i ≤ j → j < i + n → sound_at m j ≡ true
unfolding fault_from
sound_from m zero i j e l u = absurd (omega arith)
sound_from m (suc n) i j e l u =
    let q = if_sound (sound_at m i) (fault_from m n (suc i)) (MapRecord i) e in
    go (ℕ_discrete i j) q.0 (λ k. sound_from m n (suc i) j q.1 k (omega arith))
  where
    go : Dec (i ≡ j) → sound_at m i ≡ true → (suc i ≤ j → sound_at m j ≡ true) → sound_at m j ≡ true
    go (yes p) s ih = rw (← p) s
    go (no p) s ih = ih (omega arith)

-- a record that shares no address with a permitted one of n shares none with each of them
shares_each : (m : List ℕ) (i n j : ℕ) → shares_any m i n ≡ false → j < n → (permitted m j && shares m i j) ≡ false
unfolding shares_any
shares_each m i zero j e u = absurd (omega arith)
shares_each m i (suc n) j e u =
    let q = or_no (permitted m n && shares m i n) (shares_any m i n) e in
    go (ℕ_discrete j n) q.0 (λ k. shares_each m i n j q.1 k)
  where
    go : Dec (j ≡ n) → (permitted m n && shares m i n) ≡ false → (j < n → (permitted m j && shares m i j) ≡ false) → (permitted m j && shares m i j) ≡ false
    go (yes p) s ih = rw p s
    go (no p) s ih = ih (omega arith)

-- what holds of a sound map
module _ (m : List ℕ) (sound : SoundMap m) where
  sound_both : ((eqb (length m % record_size) 0 && leb (length m) map_limit) ≡ true) × (fault_from m (count m) 0 ≡ None)
  unfolding map_fault
  sound_both = if_sound (eqb (length m % record_size) 0 && leb (length m) map_limit) (fault_from m (count m) 0) MapLength sound

  pub sound_length : length m ≤ map_limit
  sound_length = leb-true (length m) map_limit (and_yes (eqb (length m % record_size) 0) (leb (length m) map_limit) sound_both.0).1

  sound_each : (i : ℕ) → i < count m → sound_at m i ≡ true
  sound_each i k = sound_from m (count m) 0 i sound_both.1 (omega arith) (omega arith)

  apart : (i : ℕ) → i < count m → (permitted m i && shares_any m i i) ≡ false
  unfolding sound_at
  apart i k =
      let front : Bool = marked m i && known m i && zeroed m i && leb 1 (length_at m i) && leb (end_at m i) (2 ^ 32) in
      not-true (permitted m i && shares_any m i i) (and_yes front (not (permitted m i && shares_any m i i)) (sound_each i k)).1

  -- no address is in a permitted record and in an earlier one
  pub sound_apart : (x i j : ℕ) → HeldBy m (count m) x i → HeldBy m i x j → ⊥
  unfolding shares
  sound_apart x i j a b =
      let none : shares_any m i i ≡ false = rw a.kind at (apart i a.few) in
      let no : (permitted m j && shares m i j) ≡ false = shares_each m i i j none b.few in
      let yes : (permitted m j && shares m i j) ≡ true =
      rw (b.kind, lt-ltb (first_at m i) (end_at m j) (omega arith), lt-ltb (first_at m j) (end_at m i) (omega arith)) in
      both_ways (permitted m j && shares m i j) yes no

-- the answer's number is 0 where the map is sound, and only there
pub answer_sound : (m : List ℕ) → (map_answer m).number ≡ 0 → SoundMap m
unfolding map_answer fault_answer
answer_sound m e = go (map_fault m) e
  where
    go : (f : Option Refusal) → (fault_answer m f).number ≡ 0 → f ≡ None
    go None e = refl
    go (Some r) e = absurd (number_some r e)

pub sound_answer : (m : List ℕ) → SoundMap m → map_answer m ≡ record { number = 0; place = 0; bytes = memory_size m }
unfolding map_answer fault_answer
sound_answer m e = ap (fault_answer m) e

-- the number of a map's answer is at most 2
Few : Option Refusal → Type 0
Few None = ℕ
Few (Some r) = number_of r ≤ 2

few_from : (m : List ℕ) (n i : ℕ) → Few (fault_from m n i)
unfolding fault_from Few
few_from m zero i = 0
few_from m (suc n) i = if_both Few (sound_at m i) _ _ (few_from m n (suc i)) (omega arith)

pub map_few : (m : List ℕ) → (map_answer m).number ≤ 2
unfolding map_answer map_fault fault_answer Few
map_few m = go (map_fault m) (if_both Few (eqb (length m % record_size) 0 && leb (length m) map_limit) _ _ (few_from m (count m) 0) (omega arith))
  where
    go : (f : Option Refusal) → Few f → (fault_answer m f).number ≤ 2
    go None h = omega arith
    go (Some r) h = h
