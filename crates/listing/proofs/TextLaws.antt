-- Laws of text: numbers in decimal, and texts put one after another.
use Prim.Native.Nat.{ℕ, zero, suc, ◌+◌, ◌/◌, ◌%◌, ◌^◌, ◌≤◌, ◌<◌}
use mathlib.Core.Path.{◌≡◌, sym, ap, ◌∙◌}
use mathlib.Core.List.{List, [], ◌∷◌, ◌++◌}
use mathlib.Core.Logic.{by_cases}
use native.Mathlib.Nat.{pow-suc, mod-eq_of_lt}
use native.Mathlib.Omega.{arith}
use native.Mathlib.Decide.{dec_le}
use borrow.Author.Tests.{lt-ltb, le-ltb}
use lib.ListN.{length, length-append}
use Rattle.words.specs.Run.{over}
use Rattle.words.proofs.RunLaws.{over_over}
use Rattle.listing.specs.Text.{digit_of, decimal_in, decimal_text}

-- ---- decimal

-- one digit, and a digit more
in_one : (k n : ℕ) → n < 10 → decimal_in (suc k) n ≡ digit_of n ∷ []
unfolding decimal_in
in_one k n h = simp (lt-ltb _ _ h)

in_more : (k n : ℕ) → 10 ≤ n → decimal_in (suc k) n ≡ decimal_in k (n / 10) ++ (digit_of (n % 10) ∷ [])
unfolding decimal_in
in_more k n h = simp (le-ltb _ _ h)

-- room for one digit more changes nothing where there is enough
in_enough : (k n : ℕ) → n < 10 ^ suc k → decimal_in (suc k) n ≡ decimal_in (suc (suc k)) n
in_enough zero n h = let s : n < 10 = omega (arith, pow-suc 10 0) in in_one 0 n s ∙ sym (in_one 1 n s)
in_enough (suc k) n h =
    by_cases (dec_le 10 n)
    (λ g. in_more (suc k) n g ∙ rw (in_enough k (n / 10) (omega (arith, pow-suc 10 (suc k)))) (sym (in_more (suc (suc k)) n g)))
    (λ g. let s : n < 10 = omega arith in in_one (suc k) n s ∙ sym (in_one (suc (suc k)) n s))

-- a number of one digit
pub decimal_one : (n : ℕ) → n < 10 → decimal_text n ≡ digit_of (n % 10) ∷ []
unfolding decimal_text
decimal_one n h = in_one 19 n h ∙ rw (mod-eq_of_lt h)

-- any other: the digits of a tenth of it, and then the last
pub decimal_more : (n : ℕ) → 10 ≤ n → n < 10 ^ 20 → decimal_text n ≡ decimal_text (n / 10) ++ (digit_of (n % 10) ∷ [])
unfolding decimal_text
decimal_more n h k = in_more 19 n h ∙ ap (λ (x : List ℕ). x ++ (digit_of (n % 10) ∷ [])) (in_enough 18 (n / 10) (omega arith))

pub length_more : (n : ℕ) → 10 ≤ n → n < 10 ^ 20 → length (decimal_text n) ≡ length (decimal_text (n / 10)) + 1
length_more n h k = rw (decimal_more n h k, length-append)

-- a tenth of a number is no longer
pub length_tenth : (n : ℕ) → n < 10 ^ 20 → length (decimal_text (n / 10)) ≤ length (decimal_text n)
length_tenth n k =
    by_cases (dec_le 10 n)
    (λ h. omega (arith, length_more n h k))
    (λ h. omega (arith, ap length (decimal_one n (omega arith)), ap length (decimal_one (n / 10) (omega arith))))

-- a number below 10^j has at most j digits
in_few : (k j n : ℕ) → 1 ≤ j → n < 10 ^ j → length (decimal_in k n) ≤ j
unfolding decimal_in
in_few zero j n a h = omega arith
in_few (suc k) zero n a h = absurd (omega arith)
in_few (suc k) (suc zero) n a h = rw (in_one k n (omega (arith, pow-suc 10 0))) (omega arith)
in_few (suc k) (suc (suc j)) n a h =
    by_cases (dec_le 10 n)
    (λ g. rw (in_more k n g, length-append) (omega (arith, in_few k (suc j) (n / 10) (omega arith) (omega (arith, pow-suc 10 (suc j))))))
    (λ g. rw (in_one k n (omega arith)) (omega arith))

pub decimal_few : (j n : ℕ) → 1 ≤ j → n < 10 ^ j → length (decimal_text n) ≤ j
unfolding decimal_text
decimal_few j n a h = in_few 20 j n a h

-- ---- texts one after another

-- what putting a text leaves: the offset after it, and the buffer with the text in it
abbrev pub Put : List ℕ → ℕ → List ℕ → ℕ → List ℕ → Type 0
Put d at x to b = record { value : to ≡ at + length x; buffer_after : b ≡ over d at x }

-- a text and then another are one text
pub put_two : (d : List ℕ) (at : ℕ) (x y : List ℕ) (b : List ℕ) (to : ℕ) (e : List ℕ) (end : ℕ) → at + length (x ++ y) ≤ length d
    → Put d at x to b → Put b to y end e → Put d at (x ++ y) end e
put_two d at x y b to e end fits p q =
    let l = length-append x y in
    record {
      value = omega arith;
      buffer_after = q.buffer_after ∙ ap (λ (o : List ℕ). over o to y) p.buffer_after ∙ over_over d at x (omega arith) y to p.value;
    }

-- three texts
pub put_three : (d : List ℕ) (at : ℕ) (x y z b1 b2 b3 : List ℕ) (o1 o2 o3 : ℕ) → at + length (x ++ y ++ z) ≤ length d
    → Put d at x o1 b1 → Put b1 o1 y o2 b2 → Put b2 o2 z o3 b3 → Put d at (x ++ y ++ z) o3 b3
put_three d at x y z b1 b2 b3 o1 o2 o3 fits p q r =
    put_two d at (x ++ y) z b2 o2 b3 o3 fits (put_two d at x y b1 o1 b2 o2 (omega (arith, length-append (x ++ y) z)) p q) r

-- five texts
pub put_five : (d : List ℕ) (at : ℕ) (v w x y z b1 b2 b3 b4 b5 : List ℕ) (o1 o2 o3 o4 o5 : ℕ) → at + length (v ++ w ++ x ++ y ++ z) ≤ length d
    → Put d at v o1 b1 → Put b1 o1 w o2 b2 → Put b2 o2 x o3 b3 → Put b3 o3 y o4 b4 → Put b4 o4 z o5 b5 → Put d at (v ++ w ++ x ++ y ++ z) o5 b5
put_five d at v w x y z b1 b2 b3 b4 b5 o1 o2 o3 o4 o5 fits p q r s t =
    let l = length-append (v ++ w ++ x ++ y) z in
    let k = length-append (v ++ w ++ x) y in
    put_three d at (v ++ w ++ x) y z b3 b4 b5 o3 o4 o5 fits (put_three d at v w x b1 b2 b3 o1 o2 o3 (omega arith) p q r) s t
