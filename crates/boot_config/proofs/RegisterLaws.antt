-- Laws of register lists: addresses that rise, and the index of an address.
use Prim.Native.Nat.{ℕ, zero, suc, ◌+◌, ◌*◌, ◌/◌, ◌≤◌, ◌<◌}
use mathlib.Core.Path.{◌≡◌, refl, sym, ap, ◌∙◌}
use mathlib.Core.Bool.{Bool, true, false}
use mathlib.Core.List.{List, [], ◌∷◌}
use mathlib.Core.Logic.{by_cases, ⊎_elim}
use native.Mathlib.Nat.{eq-or-lt_of_le, lt_trans}
use native.Mathlib.Decide.{dec_le, ℕ_discrete}
use native.Mathlib.Numerals.{add-one}
use native.Mathlib.Omega.{arith}
use borrow.Author.Tests.{eq-eqb, ne_eqb, ltb-true}
use lib.Dec.{ltb, eqb}
use lib.ListN.{length, get_or}
use Rattle.std.specs.List.{IsAllAdjacentAnswer}
use Rattle.words.proofs.ChoiceLaws.{and_yes, and_no, if_both}
use Rattle.boot_config.specs.Registers.{rising, index_of}

-- ---- addresses that rise

rising_next : (xs : List ℕ) (i : ℕ) → rising xs ≡ true → suc i < length xs → get_or xs i 0 < get_or xs (suc i) 0
unfolding rising
rising_next [] i r h = absurd (omega arith)
rising_next (x ∷ []) i r h = absurd (omega arith)
rising_next (x ∷ y ∷ xs) zero r h = ltb-true x y (and_yes (ltb x y) (rising (y ∷ xs)) r).0
rising_next (x ∷ y ∷ xs) (suc i) r h = rising_next (y ∷ xs) i (and_yes (ltb x y) (rising (y ∷ xs)) r).1 (omega arith)

-- each is below every later one
pub rising_lt : (xs : List ℕ) (i j : ℕ) → rising xs ≡ true → i < j → j < length xs → get_or xs i 0 < get_or xs j 0
rising_lt xs i zero r l h = absurd (omega arith)
rising_lt xs i (suc j) r l h =
    let s = rising_next xs j r h in
    ⊎_elim
    (λ (e : i ≡ j). rw e s)
    (λ m. lt_trans (rising_lt xs i j r m (omega arith)) s)
    (eq-or-lt_of_le {n = i} {m = j} (omega arith))

-- they rise where each is below the next
rising_all : (xs : List ℕ) → ((i d : ℕ) → suc i < length xs → true ≡ ltb (get_or xs i d) (get_or xs (suc i) d)) → rising xs ≡ true
unfolding rising
rising_all [] n = refl
rising_all (x ∷ []) n = refl
rising_all (x ∷ y ∷ xs) n = rw (← n 0 0 (omega arith)) (rising_all (y ∷ xs) (λ i d l. n (suc i) d (omega arith)))

-- and do not where one is not
rising_broken : (xs : List ℕ) (i : ℕ) → suc i < length xs → false ≡ ltb (get_or xs i 0) (get_or xs (suc i) 0) → rising xs ≡ false
unfolding rising
rising_broken [] i h e = absurd (omega arith)
rising_broken (x ∷ []) i h e = absurd (omega arith)
rising_broken (x ∷ y ∷ xs) zero h e = rw (← e)
rising_broken (x ∷ y ∷ xs) (suc i) h e = and_no (ltb x y) (rising (y ∷ xs)) (rising_broken (y ∷ xs) i (omega arith) e)

-- what a test of each and the next answers
pub rising_answer : (xs : List ℕ) (r : Bool) → IsAllAdjacentAnswer (λ x y b. b ≡ ltb x y) xs r → r ≡ rising xs
rising_answer xs true all = sym (rising_all xs (λ i d l. rw add-one at (all i d (omega arith))))
rising_answer xs false (i, h, e) = sym (rising_broken xs i (omega arith) (rw add-one at (e 0)))

-- ---- the index of an address

-- an address is the first of a list, or is looked for in the rest
index_here : (xs : List ℕ) (x a : ℕ) → x ≡ a → index_of (x ∷ xs) a ≡ 0
unfolding index_of
index_here xs x a e = rw (eq-eqb x a e)

index_else : (xs : List ℕ) (x a : ℕ) → (x ≡ a → ⊥) → index_of (x ∷ xs) a ≡ suc (index_of xs a)
unfolding index_of
index_else xs x a n = rw (ne_eqb x a n)

pub index_le : (xs : List ℕ) (a : ℕ) → index_of xs a ≤ length xs
unfolding index_of
index_le [] a = omega arith
index_le (x ∷ xs) a = if_both (λ (i : ℕ). i ≤ suc (length xs)) (eqb x a) 0 (suc (index_of xs a)) (omega arith) (omega (arith, index_le xs a))

-- an address that has an index stands there
pub index_at : (xs : List ℕ) (a : ℕ) → (index_of xs a ≡ length xs → ⊥) → get_or xs (index_of xs a) 0 ≡ a
unfolding index_of
index_at [] a n = absurd (n refl)
index_at (x ∷ xs) a n =
    by_cases
    (ℕ_discrete x a)
    (λ (e : x ≡ a). rw (index_here xs x a e) e)
    (λ (d : x ≡ a → ⊥). rw (index_else xs x a d) (index_at xs a (λ p. n (index_else xs x a d ∙ ap suc p))))

-- the first place of an address is its index
index_first : (xs : List ℕ) (a i : ℕ) → i < length xs → get_or xs i 0 ≡ a → ((k : ℕ) → k < i → get_or xs k 0 ≡ a → ⊥) → index_of xs a ≡ i
index_first [] a i h e n = absurd (omega arith)
index_first (x ∷ xs) a zero h e n = index_here xs x a e
index_first (x ∷ xs) a (suc i) h e n =
    index_else xs x a (n 0 (omega arith)) ∙ ap suc (index_first xs a i (omega arith) e (λ k l. n (suc k) (omega arith)))

-- an address that stands nowhere has the length for its index
index_none : (xs : List ℕ) (a : ℕ) → ((k : ℕ) → k < length xs → get_or xs k 0 ≡ a → ⊥) → index_of xs a ≡ length xs
unfolding index_of
index_none [] a n = refl
index_none (x ∷ xs) a n = index_else xs x a (n 0 (omega arith)) ∙ ap suc (index_none xs a (λ k l. n (suc k) (omega arith)))

-- ---- the search for address a among rising ones: what stands at i settles one side

module _ (xs : List ℕ) (r : rising xs ≡ true) (a i : ℕ) where
  pub found : i < length xs → get_or xs i 0 ≡ a → index_of xs a ≡ i
  found h e = index_first xs a i h e (λ k l d. omega (arith, rising_lt xs k i r l h))

  pub above : a < get_or xs i 0 → (k : ℕ) → i ≤ k → k < length xs → a < get_or xs k 0
  above l k m h = ⊎_elim (λ (e : i ≡ k). rw e at l) (λ n. lt_trans l (rising_lt xs i k r n h)) (eq-or-lt_of_le m)

-- the address a can stand at low or at one of the `more` places after it: those before are below it, those after above
pub record Between (xs : List ℕ) (a low more : ℕ) : Type 0 where
  pub inside : low + more < length xs
  pub before : (k : ℕ) → k < low → get_or xs k 0 < a
  pub after : (k : ℕ) → low + more < k → k < length xs → a < get_or xs k 0

-- what stands in the middle halves the places: n is 1 where it is not above a, else 0
pub halved : (xs : List ℕ) → rising xs ≡ true → (a low more n : ℕ) → Between xs a low more
    → (get_or xs (low + (more + 1) / 2) 0 ≤ a → n ≡ 1) → (a < get_or xs (low + (more + 1) / 2) 0 → n ≡ 0)
    → Between xs a (low + (more + 1) / 2 * n) (more / 2)
halved xs r a low more n b one none = by_cases (dec_le (get_or xs (low + (more + 1) / 2) 0) a) up down
  where
    up : get_or xs (low + (more + 1) / 2) 0 ≤ a → Between xs a (low + (more + 1) / 2 * n) (more / 2)
    up h =
        let i = b.inside in
        let e : low + (more + 1) / 2 * 1 ≡ low + (more + 1) / 2 = omega arith in
        rw (one h, e)
        (record {
          inside = omega arith;
          before = λ k l. omega (arith, rising_lt xs k (low + (more + 1) / 2) r l (omega arith));
          after = λ k l u. b.after k (omega arith) u;
        })

    down : (get_or xs (low + (more + 1) / 2) 0 ≤ a → ⊥) → Between xs a (low + (more + 1) / 2 * n) (more / 2)
    down h =
        let i = b.inside in
        let g : a < get_or xs (low + (more + 1) / 2) 0 = omega arith in
        let e : low + (more + 1) / 2 * 0 ≡ low = omega arith in
        rw (none g, e)
        (record {
          inside = omega arith;
          before = b.before;
          after = λ k l u. above xs r a (low + (more + 1) / 2) g k (omega arith) u;
        })

-- where it can stand at low alone and does not, it stands nowhere
pub not_found : (xs : List ℕ) (a low : ℕ) → Between xs a low 0 → (get_or xs low 0 ≡ a → ⊥) → index_of xs a ≡ length xs
not_found xs a low b n = index_none xs a (λ k h e. go k h e (ℕ_discrete k low) (dec_le low k))
  where
    go : (k : ℕ) → k < length xs → get_or xs k 0 ≡ a → Dec (k ≡ low) → Dec (low ≤ k) → ⊥
    go k h e (yes q) d = n (rw q at e)
    go k h e (no q) (yes l) = omega (arith, b.after k (omega arith) h)
    go k h e (no q) (no l) = omega (arith, b.before k (omega arith))
