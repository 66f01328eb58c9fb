-- Laws of sections that store addresses of kind 3: when one stores such an address again, and when none does. m is a map.
use Prim.Native.Nat.{ℕ, zero, suc, ◌+◌, ◌≤◌, ◌<◌}
use mathlib.Core.Path.{◌≡◌, refl, sym, ◌∙◌}
use mathlib.Core.Logic.{◌↔◌, by_cases}
use mathlib.Core.List.{List, [], ◌∷◌, ◌++◌, map, map-append}
use mathlib.Core.Bool.{Bool, true, false, ◌||◌}
use native.Mathlib.Decide.{ℕ_discrete, dec_le}
use native.Mathlib.Omega.{arith}
use lib.ListN.{length}
use lib.Dec.{leb}
use borrow.Author.Tests.{le-leb, lt-leb}
use Rattle.words.proofs.ChoiceLaws.{both_ways, and_no, or_yes}
use Rattle.region_map.specs.Map.{once}
use Rattle.boot_table.specs.Table.{Sect, next_of}
use Rattle.boot_table.specs.Meaning.{covers, times}
use Rattle.boot_table.specs.Pads.{bare}
use Rattle.boot_table.proofs.MeaningLaws.{covers_true, covers_in, times_yes, times_no, times_first, times_one, times_append}
use Rattle.std.specs.Prelude.{None, Some}
use Rattle.one_write.specs.Once.{written, repeats_from, repeat_from, StoresOnce, NoneInBoth}

-- ---- addresses of kind 3 that sections store

module _ (m : List ℕ) (ss : List Sect) (a : ℕ) where
  pub written_yes : once m a ≡ true → 1 ≤ times ss a → written m ss a ≡ true
  unfolding written
  written_yes e h = rw (e, le-leb 1 (times ss a) h)

  -- not where the address takes any number of writes, nor where no section stores it
  pub written_not : once m a ≡ false → written m ss a ≡ false
  unfolding written
  written_not e = rw e

  pub written_none : times ss a ≡ 0 → written m ss a ≡ false
  unfolding written
  written_none e = and_no (once m a) (leb 1 (times ss a)) (lt-leb 1 (times ss a) (omega arith))

-- a section that does not cover the address may be left out
written_less : (m : List ℕ) (s : Sect) (ss : List Sect) (a : ℕ) → times (s ∷ ss) a ≡ times ss a → written m (s ∷ ss) a ≡ written m ss a
unfolding written
written_less m s ss a e = rw e

-- and so may one that covers it, where it takes any number of writes
pub written_skip : (m : List ℕ) (s : Sect) (ss : List Sect) (a : ℕ) → (covers s a ≡ true → once m a ≡ false) → written m (s ∷ ss) a ≡ written m ss a
written_skip m s ss a f = go (covers s a) refl
  where
    go : (b : Bool) → covers s a ≡ b → written m (s ∷ ss) a ≡ written m ss a
    go true c = written_not m (s ∷ ss) a (f c) ∙ sym (written_not m ss a (f c))
    go false c = written_less m s ss a (times_no s ss a c)

-- ---- whether one of n addresses from a on is such an address

module _ (m : List ℕ) (earlier : List Sect) where
  pub repeats_yes : (n a x : ℕ) → a ≤ x → x < a + n → written m earlier x ≡ true → repeats_from m earlier n a ≡ true
  unfolding repeats_from
  repeats_yes zero a x l u e = absurd (omega arith)
  repeats_yes (suc n) a x l u e = go (ℕ_discrete a x) (λ k. repeats_yes n (suc a) x k (omega arith) e)
    where
      go : Dec (a ≡ x) → (suc a ≤ x → repeats_from m earlier n (suc a) ≡ true) → (written m earlier a || repeats_from m earlier n (suc a)) ≡ true
      go (yes p) ih = let w : written m earlier a ≡ true = rw p e in rw w
      go (no p) ih = or_yes (written m earlier a) (repeats_from m earlier n (suc a)) (ih (omega arith))

  pub repeats_none : (n a : ℕ) → ((x : ℕ) → a ≤ x → x < a + n → written m earlier x ≡ false) → repeats_from m earlier n a ≡ false
  unfolding repeats_from
  repeats_none zero a f = refl
  repeats_none (suc n) a f = rw (f a (omega arith) (omega arith)) (repeats_none n (suc a) (λ x l u. f x (omega arith) (omega arith)))

  -- of a section's addresses: none exactly where no earlier section stores one that it covers and that takes one write
  pub section_none : (s : Sect) → ((a : ℕ) → covers s a ≡ true → once m a ≡ true → times earlier a ≡ 0) → repeats_from m earlier (length s.body) s.address ≡ false
  section_none s f = repeats_none (length s.body) s.address (λ x l u. go x (covers_in s x l u) (once m x) refl)
    where
      go : (x : ℕ) → covers s x ≡ true → (b : Bool) → once m x ≡ b → written m earlier x ≡ false
      go x c true e = written_none m earlier x (f x c e)
      go x c false e = written_not m earlier x e

  pub none_section : (s : Sect) → repeats_from m earlier (length s.body) s.address ≡ false → (a : ℕ) → covers s a ≡ true → once m a ≡ true → times earlier a ≡ 0
  none_section s n a c e =
      by_cases (dec_le 1 (times earlier a))
      (λ h.
      let k = covers_true s a c in
      absurd (both_ways (repeats_from m earlier (length s.body) s.address)
      (repeats_yes (length s.body) s.address a k.0 k.1 (written_yes m earlier a e h)) n))
      (λ h. omega arith)

-- ---- the first section that stores such an address again

module _ (m : List ℕ) (at : ℕ) (earlier : List Sect) (s : Sect) (ss : List Sect) where
  pub repeat_here : repeats_from m earlier (length s.body) s.address ≡ true → repeat_from m at earlier (s ∷ ss) ≡ Some at
  unfolding repeat_from
  repeat_here e = rw e

  pub repeat_on : repeats_from m earlier (length s.body) s.address ≡ false
      → repeat_from m at earlier (s ∷ ss) ≡ repeat_from m (next_of at (length s.body)) (earlier ++ s ∷ []) ss
  unfolding repeat_from
  repeat_on e = rw e

-- a section counts the same among the earlier ones and among the later ones
times_behind : (earlier : List Sect) (s : Sect) (ss : List Sect) (a : ℕ) → times (earlier ++ s ∷ []) a + times ss a ≡ times earlier a + times (s ∷ ss) a
times_behind earlier s ss a = omega (arith, times_append earlier (s ∷ []) a, times_first s ss a)

at_not : (at : ℕ) → Some at ≡ None → ⊥
at_not at z = let y : ◌≡◌ {A = ℕ} 0 1 = cc in omega arith

module _ (m : List ℕ) where
  -- none does where each address of kind 3 is stored once at most
  pub once_nowhere : (at : ℕ) (earlier ss : List Sect) → ((a : ℕ) → once m a ≡ true → times earlier a + times ss a ≤ 1) → repeat_from m at earlier ss ≡ None
  unfolding repeat_from
  once_nowhere at earlier [] f = refl
  once_nowhere at earlier (s ∷ ss) f =
      repeat_on m at earlier s ss
      (section_none m earlier s (λ a c e. let k = f a e in let y = times_yes s ss a c in omega arith))
      ∙ once_nowhere (next_of at (length s.body)) (earlier ++ s ∷ []) ss
      (λ a e. let k = f a e in let b = times_behind earlier s ss a in omega arith)

  -- and only there
  pub nowhere_once : (at : ℕ) (earlier ss : List Sect) → repeat_from m at earlier ss ≡ None → (a : ℕ) → once m a ≡ true → times earlier a ≤ 1
      → times earlier a + times ss a ≤ 1
  unfolding times
  nowhere_once at earlier [] n a e h = omega arith
  nowhere_once at earlier (s ∷ ss) n a e h =
      go (repeats_from m earlier (length s.body) s.address) refl
      (λ q g. nowhere_once (next_of at (length s.body)) (earlier ++ s ∷ []) ss q a e g)
    where
      -- the section adds to an address only where no earlier one stores it
      behind : repeats_from m earlier (length s.body) s.address ≡ false → (b : Bool) → covers s a ≡ b → times (earlier ++ s ∷ []) a ≤ 1
      behind q true c = omega (arith, times_append earlier (s ∷ []) a, times_one s a, none_section m earlier s q a c e)
      behind q false c = omega (arith, times_append earlier (s ∷ []) a, times_no s [] a c)

      go : (b : Bool) → repeats_from m earlier (length s.body) s.address ≡ b
          → (repeat_from m (next_of at (length s.body)) (earlier ++ s ∷ []) ss ≡ None → times (earlier ++ s ∷ []) a ≤ 1 → times (earlier ++ s ∷ []) a + times ss a ≤ 1)
          → times earlier a + times (s ∷ ss) a ≤ 1
      go true q ih = absurd (at_not at (sym (repeat_here m at earlier s ss q) ∙ n))
      go false q ih =
          let k = ih (sym (repeat_on m at earlier s ss q) ∙ n) (behind q (covers s a) refl) in
          omega (arith, times_behind earlier s ss a)

  -- of sections behind none
  pub nowhere_iff : (at : ℕ) (ss : List Sect) → (repeat_from m at [] ss ≡ None) ↔ (StoresOnce m ss)
  unfolding times
  nowhere_iff at ss = (
    λ n a e. let k = nowhere_once at [] ss n a e (omega arith) in omega arith,
    λ f. once_nowhere at [] ss (λ a e. let k = f a e in omega arith),
  )

  -- a section never stores an address again by itself
  pub once_alone : (s : Sect) → StoresOnce m (s ∷ [])
  once_alone s a e = times_one s a

  pub alone_nowhere : (at : ℕ) (s : Sect) → repeat_from m at [] (s ∷ []) ≡ None
  alone_nowhere at s = (nowhere_iff at (s ∷ [])).1 (once_alone s)

  -- sections one after the other do exactly where each part does and no such address is stored by both
  pub once_append : (xs ys : List Sect) → (StoresOnce m (xs ++ ys)) ↔ ((StoresOnce m xs) × (StoresOnce m ys) × (NoneInBoth m xs ys))
  once_append xs ys = (
    λ f. (
      λ a e. let k = f a e in omega (arith, times_append xs ys a),
      λ a e. let k = f a e in omega (arith, times_append xs ys a),
      λ a e g h. let k = f a e in omega (arith, times_append xs ys a),
    ),
    λ f a e. by_cases (dec_le 1 (times xs a))
        (λ g. by_cases (dec_le 1 (times ys a)) (λ h. absurd (f.2 a e g h)) (λ h. let k = f.0 a e in omega (arith, times_append xs ys a)))
        (λ g. let k = f.1 a e in omega (arith, times_append xs ys a)),
  )

  -- where no address takes one write nothing is stored again
  pub plain_nowhere : ((a : ℕ) → once m a ≡ false) → (at : ℕ) (ss : List Sect) → repeat_from m at [] ss ≡ None
  plain_nowhere f at ss = (nowhere_iff at ss).1 (λ a e. absurd (both_ways (once m a) e (f a)))

-- ---- pads do not count

times_bare : (ss : List Sect) (a : ℕ) → times (map bare ss) a ≡ times ss a
unfolding times covers bare
times_bare [] a = refl
times_bare (s ∷ ss) a = rw (times_bare ss a)

written_bare : (m : List ℕ) (ss : List Sect) (a : ℕ) → written m (map bare ss) a ≡ written m ss a
unfolding written
written_bare m ss a = rw (times_bare ss a)

repeats_bare : (m : List ℕ) (earlier : List Sect) (n a : ℕ) → repeats_from m (map bare earlier) n a ≡ repeats_from m earlier n a
unfolding repeats_from
repeats_bare m earlier zero a = refl
repeats_bare m earlier (suc n) a = rw (written_bare m earlier a, repeats_bare m earlier n (suc a))

pub repeat_bare : (m : List ℕ) (at : ℕ) (earlier ss : List Sect) → repeat_from m at (map bare earlier) (map bare ss) ≡ repeat_from m at earlier ss
unfolding repeat_from bare
repeat_bare m at earlier [] = refl
repeat_bare m at earlier (s ∷ ss) =
    rw (repeats_bare m earlier (length s.body) s.address, ← (repeat_bare m (next_of at (length s.body)) (earlier ++ s ∷ []) ss), map-append bare earlier (s ∷ []))
