-- The meaning of sections: which addresses a section covers, and the bytes of sections one after another.
use Prim.Native.Nat.{ℕ, ◌+◌, ◌≤◌, ◌<◌}
use native.Mathlib.Nat.{zero-add}
use native.Mathlib.Omega.{arith}
use mathlib.Core.Path.{◌≡◌, refl, sym, ◌∙◌}
use mathlib.Core.List.{List, [], ◌∷◌, ◌++◌}
use mathlib.Core.Bool.{Bool, true, false}
use mathlib.Core.Option.{Option, none, some}
use borrow.Author.Tests.{leb-true, le-leb, ltb-true, lt-ltb}
use lib.ListN.{length}
use Rattle.words.proofs.ChoiceLaws.{and_yes, if_both}
use Rattle.boot_table.specs.Table.{Sect}
use Rattle.boot_table.specs.Meaning.{covers, times, or_else, last_byte}

-- an address that a section covers stands within it
pub covers_true : (s : Sect) (a : ℕ) → covers s a ≡ true → (s.address ≤ a) × (a < s.address + length s.body)
unfolding covers
covers_true s a e =
    let b = and_yes _ _ e in
    (leb-true _ _ b.0, ltb-true _ _ b.1)

-- and the other way round
pub covers_in : (s : Sect) (a : ℕ) → s.address ≤ a → a < s.address + length s.body → covers s a ≡ true
unfolding covers
covers_in s a h k = simp (le-leb _ _ h, lt-ltb _ _ k)

-- ---- how many sections cover an address

-- one section covers it once, or not at all
pub times_yes : (s : Sect) (ss : List Sect) (a : ℕ) → covers s a ≡ true → times (s ∷ ss) a ≡ 1 + times ss a
unfolding times
times_yes s ss a e = rw e

pub times_no : (s : Sect) (ss : List Sect) (a : ℕ) → covers s a ≡ false → times (s ∷ ss) a ≡ times ss a
unfolding times
times_no s ss a e = rw e (zero-add (times ss a))

-- the first section, and the others
pub times_first : (s : Sect) (ss : List Sect) (a : ℕ) → times (s ∷ ss) a ≡ times (s ∷ []) a + times ss a
unfolding times
times_first s ss a = omega arith

pub times_one : (s : Sect) (a : ℕ) → times (s ∷ []) a ≤ 1
unfolding times
times_one s a = if_both (λ (n : ℕ). n + 0 ≤ 1) (covers s a) 1 0 (omega arith) (omega arith)

-- sections one after another: as often as the ones and the others together
pub times_append : (xs ys : List Sect) (a : ℕ) → times (xs ++ ys) a ≡ times xs a + times ys a
unfolding times
times_append [] ys a = sym (zero-add (times ys a))
times_append (x ∷ xs) ys a = let ih = times_append xs ys a in omega arith

-- ---- the last byte

-- laws of or_else
or_none : (x : Option ℕ) → or_else x none ≡ x
or_none none = refl
or_none (some b) = refl

or_or : (x y z : Option ℕ) → or_else x (or_else y z) ≡ or_else (or_else x y) z
or_or none y z = refl
or_or (some b) y z = refl

-- of sections one after another the later decide first
pub last_append : (xs ys : List Sect) (a : ℕ) → last_byte (xs ++ ys) a ≡ or_else (last_byte ys a) (last_byte xs a)
unfolding last_byte
last_append [] ys a = sym (or_none (last_byte ys a))
last_append (x ∷ xs) ys a = rw (last_append xs ys a) (sym (or_or (last_byte ys a) (last_byte xs a) _))

-- sections that do not cover an address have no byte for it
pub uncovered_none : (ss : List Sect) (a : ℕ) → times ss a ≡ 0 → last_byte ss a ≡ none
unfolding last_byte
uncovered_none [] a e = refl
uncovered_none (s ∷ ss) a e = go (covers s a) refl (uncovered_none ss a)
  where
    go : (b : Bool) → covers s a ≡ b → (times ss a ≡ 0 → last_byte ss a ≡ none) → last_byte (s ∷ ss) a ≡ none
    go true c later = absurd (omega (arith, times_yes s ss a c))
    go false c later = rw (c, later (sym (times_no s ss a c) ∙ e)) refl
