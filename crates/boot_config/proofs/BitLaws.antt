-- Laws of bits: what each bit of a new value is, and how many bits differ.
use Prim.Native.Nat.{ℕ, zero, suc, ◌+◌, ◌-◌, ◌*◌, ◌/◌, ◌%◌, ◌^◌, ◌≤◌, ◌<◌, min, max}
use mathlib.Core.Path.{◌≡◌, refl, sym, ap, ◌∙◌}
use mathlib.Core.List.{List, [], ◌∷◌, map}
use native.Mathlib.Nat.{pow-suc}
use native.Mathlib.Numerals.{one-add}
use native.Mathlib.Omega.{arith}
use lib.Bits.{bit_and, bit_or, bit_xor, and_step, or_step, and_shr, or_shr, xor_lt}
use lib.Count.{ones, ones-le}
use lib.ListN.{length, get_or}
use lib.Pow.{shr-shr}
use mir.Syntax.{w32}
use mir.Val.{Fits}
use Rattle.std.specs.List.{sum, zip}
use Rattle.std.proofs.lemmas.List.Sums.{sum_by-cons}
use Rattle.boot_config.specs.Registers.{masked, changed_bits}

-- ---- the bits of a new value

-- bit k of a number
abbrev pub bit : ℕ → ℕ → ℕ
bit k x = x / 2 ^ k % 2

and_low : (a b : ℕ) → bit_and a b % 2 ≡ min (a % 2) (b % 2)
and_low a b = omega (arith, and_step a b)

or_low : (a b : ℕ) → bit_or a b % 2 ≡ max (a % 2) (b % 2)
or_low a b = omega (arith, or_step a b)

and_bit : (k a b : ℕ) → bit k (bit_and a b) ≡ min (bit k a) (bit k b)
and_bit k a b = rw (and_shr a b k) (and_low _ _)

or_bit : (k a b : ℕ) → bit k (bit_or a b) ≡ max (bit k a) (bit k b)
or_bit k a b = rw (or_shr a b k) (or_low _ _)

bit_suc : (k x : ℕ) → bit (suc k) x ≡ bit k (x / 2)
bit_suc k x = ap (λ (n : ℕ). n % 2) (sym (shr-shr x 1 k ∙ ap (λ (e : ℕ). x / 2 ^ e) (one-add k)))

-- the bits that a complement has are those that the number has not
not_bit : (k j c : ℕ) → k < j → c < 2 ^ j → bit k (2 ^ j - 1 - c) ≡ 1 - bit k c
not_bit k zero c h l = absurd (omega arith)
not_bit zero (suc j) c h l = omega (arith, pow-suc 2 j)
not_bit (suc k) (suc j) c h l =
    let p = pow-suc 2 j in
    let e : (2 ^ suc j - 1 - c) / 2 ≡ 2 ^ j - 1 - c / 2 = omega arith in
    bit_suc k _ ∙ ap (bit k) e ∙ not_bit k j (c / 2) (omega arith) (omega arith) ∙ ap (λ (n : ℕ). 1 - n) (sym (bit_suc k c))

module _ (k old put clear : ℕ) (low : k < 32) (word : clear < 2 ^ 32) where
  -- a bit is one where it is set, or was one and is not cleared
  pub masked_bits : bit k (masked old put clear) ≡ max (min (bit k old) (1 - bit k clear)) (bit k put)
  unfolding masked
  masked_bits =
      or_bit k _ _ ∙ ap (λ (n : ℕ). max n (bit k put)) (and_bit k _ _ ∙ ap (λ (n : ℕ). min (bit k old) n) (not_bit k 32 clear low word))

  -- the same by the masks: a bit to set, one to clear only, and one in neither
  pub masked_set : bit k put ≡ 1 → bit k (masked old put clear) ≡ 1
  masked_set s = omega (arith, masked_bits)

  pub masked_clear : bit k put ≡ 0 → bit k clear ≡ 1 → bit k (masked old put clear) ≡ 0
  masked_clear s c = omega (arith, masked_bits)

  pub masked_keep : bit k put ≡ 0 → bit k clear ≡ 0 → bit k (masked old put clear) ≡ bit k old
  masked_keep s c = omega (arith, masked_bits)

-- ---- the number of bits that differ

-- it is the sum of what each pair adds
pub changed_sum : (old new : List ℕ) → sum (map (λ (p : ℕ × ℕ). ones (bit_xor p.0 p.1)) (zip old new)) ≡ changed_bits old new
unfolding changed_bits
changed_sum [] new = refl
changed_sum (o ∷ old) [] = refl
changed_sum (o ∷ old) (n ∷ new) =
    sum_by-cons (λ (x : ℕ). x) (ones (bit_xor o n)) (map (λ (p : ℕ × ℕ). ones (bit_xor p.0 p.1)) (zip old new))
    ∙ ap (λ (s : ℕ). ones (bit_xor o n) + s) (changed_sum old new)

-- words differ in at most 32 bits each
pub changed_le : (old new : List ℕ) → ((i : ℕ) → Fits w32 (get_or old i 0)) → ((i : ℕ) → Fits w32 (get_or new i 0))
    → changed_bits old new ≤ 32 * length old
unfolding changed_bits
changed_le [] new f g = omega arith
changed_le (o ∷ old) [] f g = omega arith
changed_le (o ∷ old) (n ∷ new) f g =
    omega (arith, ones-le 32 _ (xor_lt 32 _ _ (f 0).fits (g 0).fits), changed_le old new (λ i. f (suc i)) (λ i. g (suc i)))
