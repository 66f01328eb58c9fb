-- What is wrong with a section of a list, by the tests that lead there, and what holds of one with no fault.
use Prim.Native.Nat.{ℕ, ◌+◌, ◌≤◌, ◌<◌, ◌^◌}
use mathlib.Core.Path.{◌≡◌}
use mathlib.Core.Logic.{by_cases}
use mathlib.Core.List.{List}
use borrow.Author.Tests.{eq-eqb, ne_eqb, lt-ltb, le-ltb}
use native.Mathlib.Omega.{arith}
use native.Mathlib.Decide.{dec_le, ℕ_discrete}
use lib.ListN.{length, drop, length-drop}
use lib.Seq.{length-take-le}
use Rattle.words.specs.Refusal.{past_top_number, past_data_number, size_zero_number}
use Rattle.writer.specs.declared.Section.{Section}
use Rattle.writer.specs.Write.{data_of, fault_of}

-- ---- each fault: x is a section over n bytes of data

module _ (x : Section) (n : ℕ) where
  pub fault_empty : x.size ≡ 0 → size_zero_number ≡ fault_of x n
  unfolding fault_of
  fault_empty z = simp (eq-eqb _ _ z)

  pub fault_data : (x.size ≡ 0 → ⊥) → n < x.start + x.size → past_data_number ≡ fault_of x n
  unfolding fault_of
  fault_data z h = simp (ne_eqb _ _ z, lt-ltb _ _ h)

  pub fault_top : (x.size ≡ 0 → ⊥) → x.start + x.size ≤ n → 2 ^ 32 < x.address + x.size → past_top_number ≡ fault_of x n
  unfolding fault_of
  fault_top z h k = simp (ne_eqb _ _ z, le-ltb _ _ h, lt-ltb _ _ k)

  pub fault_none : (x.size ≡ 0 → ⊥) → x.start + x.size ≤ n → x.address + x.size ≤ 2 ^ 32 → 0 ≡ fault_of x n
  unfolding fault_of
  fault_none z h k = simp (ne_eqb _ _ z, le-ltb _ _ h, le-ltb _ _ k)

-- ---- a section with no fault

-- it has data, within what is lent, and none past the top
pub faultless_section : (x : Section) (n : ℕ) → fault_of x n ≡ 0 → (1 ≤ x.size) × (x.start + x.size ≤ n) × (x.address + x.size ≤ 2 ^ 32)
faultless_section x n e =
    by_cases (ℕ_discrete x.size 0) (λ z. absurd (omega (arith, fault_empty x n z))) (λ z.
    by_cases (dec_le (x.start + x.size) n)
    (λ h. by_cases (dec_le (x.address + x.size) (2 ^ 32)) (λ k. (omega arith, h, k)) (λ k. absurd (omega (arith, fault_top x n z h (omega arith)))))
    (λ h. absurd (omega (arith, fault_data x n z (omega arith)))))

-- its data has as many bytes as its size says
pub length_data : (d : List ℕ) (x : Section) → fault_of x (length d) ≡ 0 → length (data_of d x) ≡ x.size
unfolding data_of
length_data d x e = length-take-le x.size (drop x.start d) (simp length-drop (omega (arith, faultless_section x (length d) e)))
