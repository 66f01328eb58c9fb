-- Judging a list: what a judged section says of its fault; and section by section, where judging stops, goes on, and ends.
use Prim.Native.Nat.{ℕ, ◌+◌, ◌≤◌, ◌<◌, ◌^◌}
use mathlib.Core.Path.{◌≡◌, refl, sym}
use mathlib.Core.Logic.{by_cases}
use mathlib.Core.List.{List, []}
use native.Mathlib.Numerals.{add-one}
use native.Mathlib.Omega.{arith}
use native.Mathlib.Decide.{dec_le, ℕ_discrete}
use borrow.Author.Tests.{eq-eqb, ne_eqb, lt-ltb, le-ltb}
use lib.ListN.{length, drop, get_or, drop_of_length-le}
use Rattle.std.specs.Prelude.{Result, Ok, Err, ⊤}
use Rattle.words.specs.Refusal.{number_of, place_of}
use Rattle.words.specs.declared.refusal.Refusal.{Refusal}
use Rattle.writer.specs.declared.Section.{Section}
use Rattle.writer.specs.Write.{fault_of}
use Rattle.writer.specs.Judging.{longer, judge_one, judge_from}
use Rattle.writer.proofs.FaultLaws.{fault_empty, fault_data, fault_top, fault_none}
use Rattle.writer.proofs.ListLaws.{no_section, rest_cons}

-- ---- one section: x is a section of index i over n bytes of data

-- what a judged section says of its fault
Told : Section → ℕ → ℕ → Result ⊤ Refusal → Type 0
Told x i n (Ok u) = fault_of x n ≡ 0
Told x i n (Err r) = (number_of r ≡ fault_of x n) × (place_of r ≡ i)

one_told : (x : Section) (i n : ℕ) → Told x i n (judge_one x i n)
unfolding Told judge_one
one_told x i n =
    by_cases (ℕ_discrete x.size 0) (λ z. rw (eq-eqb _ _ z) (fault_empty x n z, refl)) (λ z.
    by_cases (dec_le (x.start + x.size) n)
    (λ h. by_cases (dec_le (x.address + x.size) (2 ^ 32))
    (λ k. rw (ne_eqb _ _ z, le-ltb _ _ h, le-ltb _ _ k) (sym (fault_none x n z h k)))
    (λ k. let k' : 2 ^ 32 < x.address + x.size = omega arith in rw (ne_eqb _ _ z, le-ltb _ _ h, lt-ltb _ _ k') (fault_top x n z h k', refl)))
    (λ h. let h' : n < x.start + x.size = omega arith in rw (ne_eqb _ _ z, lt-ltb _ _ h') (fault_data x n z h', refl)))

-- a section that is let through has no fault
pub one_fine : (x : Section) (i n : ℕ) (u : ⊤) → judge_one x i n ≡ Ok u → fault_of x n ≡ 0
unfolding Told
one_fine x i n u e = rw e at (one_told x i n)

-- a refusal has the number of the section's fault, and its index
pub one_bad : (x : Section) (i n : ℕ) (r : Refusal) → judge_one x i n ≡ Err r → (number_of r ≡ fault_of x n) × (place_of r ≡ i)
unfolding Told
one_bad x i n r e = rw e at (one_told x i n)

-- ---- section by section: s is what the list comes to from the section of index i on, behind so many bytes

module _ (xs : List Section) (i n bytes : ℕ) (s : Result ℕ Refusal) (same : judge_from (drop i xs) i n bytes ≡ s) where
  abbrev x : Section
  x = get_or xs i no_section

  -- a section without a fault: the others come to the same
  pub judge_turns : i < length xs → (u : ⊤) → judge_one x i n ≡ Ok u → judge_from (drop (i + 1) xs) (i + 1) n (longer bytes x.size) ≡ s
  unfolding judge_from
  judge_turns h u e = rw add-one (rw (rest_cons xs i h, add-one, e) at same)

  -- a section with a fault, which is what the list comes to
  pub judge_stops : i < length xs → (r : Refusal) → judge_one x i n ≡ Err r → Err r ≡ s
  unfolding judge_from
  judge_stops h r e = rw (rest_cons xs i h, e) at same

  -- the end of the list
  pub judge_ends : length xs ≤ i → Ok bytes ≡ s
  unfolding judge_from
  judge_ends h = let e : drop i xs ≡ [] = drop_of_length-le xs {i = i} h in rw e at same
