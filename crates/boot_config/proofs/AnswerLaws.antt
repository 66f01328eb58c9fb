-- Laws of the answer and of the values that are left, outcome by outcome.
use Prim.Native.Nat.{ℕ, zero, suc, ◌*◌, ◌≤◌, ◌<◌}
use mathlib.Core.Path.{◌≡◌, refl, sym, ap, ◌∙◌}
use mathlib.Core.Bool.{true, false, not, ◌&&◌}
use mathlib.Core.List.{List}
use native.Mathlib.Omega.{arith}
use borrow.Author.Tests.{eq-eqb, ne_eqb, lt-ltb, le-ltb, le-leb, lt-leb, ltb-false, eqb-true, eqb-false, not-true, not-false}
use lib.Dec.{ltb, leb, eqb}
use lib.ListN.{length, get_or, set, length-set}
use Rattle.std.specs.Prelude.{Result, Ok, Err, Option, Some, None}
use Rattle.words.specs.declared.refusal.Refusal.{Refusal}
use Rattle.words.specs.Refusal.{registers_unfit_number, config_long_number}
use Rattle.words.proofs.RefusalLaws.{number_some}
use Rattle.words.proofs.ChoiceLaws.{if_split, and_no}
use Rattle.boot_config.specs.declared.Change.{Change}
use Rattle.boot_config.specs.Registers.{most_registers, rising, fit, Listed, masked, changed_bits}
use Rattle.boot_config.specs.Config.{config_limit, entry_size, entry_at, Applied, on_entry, applied_from, applied}
use Rattle.boot_config.specs.Config.{Tells, ConfigAnswer, config_refused, answer_of, config_answer, config_values}

-- ---- fit lists

module _ (xs vs : List ℕ) where
  pub fit_all : length xs ≡ length vs → Listed xs → fit xs vs ≡ true
  unfolding fit
  fit_all e l = rw (eq-eqb (length xs) (length vs) e, le-leb (length xs) most_registers l.few) l.rise

  pub unfit_lengths : (length xs ≡ length vs → ⊥) → fit xs vs ≡ false
  unfolding fit
  unfit_lengths n = rw (ne_eqb (length xs) (length vs) n)

  pub unfit_many : most_registers < length xs → fit xs vs ≡ false
  unfolding fit
  unfit_many l = rw (and_no (eqb (length xs) (length vs)) (leb (length xs) most_registers) (lt-leb (length xs) most_registers l))

  pub unfit_order : rising xs ≡ false → fit xs vs ≡ false
  unfolding fit
  unfit_order r = and_no (eqb (length xs) (length vs) && leb (length xs) most_registers) (rising xs) r

-- ---- the answer

abbrev answer_number : ConfigAnswer → ℕ
answer_number r = r.number

module _ (t xs vs : List ℕ) where
  pub answer_unfit : fit xs vs ≡ false → config_answer t xs vs ≡ config_refused registers_unfit_number 0
  unfolding config_answer
  answer_unfit f = rw f

  pub answer_long : fit xs vs ≡ true → config_limit < length t → config_answer t xs vs ≡ config_refused config_long_number 0
  unfolding config_answer
  answer_long f l = rw (f, lt-ltb config_limit (length t) l)

  module _ (f : fit xs vs ≡ true) (short : length t ≤ config_limit) where
    pub answer_fault : ((applied t xs vs).number ≡ 0 → ⊥) → config_answer t xs vs ≡ config_refused (applied t xs vs).number (applied t xs vs).place
    unfolding config_answer
    answer_fault n = rw (f, le-ltb config_limit (length t) short, ne_eqb (applied t xs vs).number 0 n)

    pub answer_done : (applied t xs vs).number ≡ 0
        → config_answer t xs vs ≡ record { number = 0; place = 0; entries = (applied t xs vs).entries; bits = changed_bits vs (applied t xs vs).values }
    unfolding config_answer
    answer_done z = rw (f, le-ltb config_limit (length t) short, eq-eqb (applied t xs vs).number 0 z)

  -- ---- the values that are left

  -- a refusal keeps them
  pub config_keeps : ((config_answer t xs vs).number ≡ 0 → ⊥) → config_values t xs vs ≡ vs
  unfolding config_values
  config_keeps n = rw (ne_eqb (config_answer t xs vs).number 0 n)

  -- an answer of 0 has those after the whole table
  pub config_done : (config_answer t xs vs).number ≡ 0 → config_values t xs vs ≡ (applied t xs vs).values
  unfolding config_values
  config_done z = rw (eq-eqb (config_answer t xs vs).number 0 z)

  -- only fit lists and a table within its limit and without a fault are answered with 0
  pub config_only : (config_answer t xs vs).number ≡ 0 → (fit xs vs ≡ true) × (length t ≤ config_limit) × ((applied t xs vs).number ≡ 0)
  unfolding config_answer
  config_only z =
      if_split (not (fit xs vs)) _ _ (config_answer t xs vs) refl
      (λ b e. absurd (omega (arith, ap answer_number e)))
      (λ b e. if_split (ltb config_limit (length t)) _ _ _ e
      (λ d e. absurd (omega (arith, ap answer_number e)))
      (λ d e. if_split (not (eqb (applied t xs vs).number 0)) _ _ _ e
      (λ n e. absurd (eqb-false _ _ (not-true _ n) (ap answer_number e ∙ z)))
      (λ n e. (not-false _ b, ltb-false _ _ d, eqb-true _ _ (not-false _ n)))))

-- ---- what is returned where applying the table came to the result o

module _ (t xs vs : List ℕ) (f : fit xs vs ≡ true) (short : length t ≤ config_limit) where
  pub applied_refused : (r : Refusal) → Tells (Err r) (applied t xs vs)
      → (answer_of (Err r) ≡ config_answer t xs vs) × (vs ≡ config_values t xs vs)
  applied_refused r told =
      let n : (applied t xs vs).number ≡ 0 → ⊥ = λ z. number_some r (sym told.0 ∙ z) in
      let e = answer_fault t xs vs f short n in
      (rw (← told.0, ← told.1) (sym e), sym (config_keeps t xs vs (λ z. n (sym (ap answer_number e) ∙ z))))

  pub applied_done : {entries bits : ℕ} {us : List ℕ} → Tells (Ok entries) (applied t xs vs)
      → bits ≡ changed_bits vs (applied t xs vs).values → us ≡ (applied t xs vs).values
      → (answer_of (Ok (record { entries = entries; bits = bits })) ≡ config_answer t xs vs) × (us ≡ config_values t xs vs)
  applied_done told b u =
      let e = answer_done t xs vs f short told.0 in
      (rw (b, ← told.1) (sym e), u ∙ sym (config_done t xs vs (ap answer_number e)))

-- ---- a table leaves as many values as it was applied to

length_entry : (next : List ℕ → Applied) (n : ℕ) (vs : List ℕ) (e : Result (Option Change) Refusal) → ((us : List ℕ) → length (next us).values ≡ length us)
    → length (on_entry next n vs e).values ≡ length vs
unfolding on_entry
length_entry next n vs (Ok (Some c)) same = same (set vs c.register (masked (get_or vs c.register 0) c.put c.clear)) ∙ simp length-set
length_entry next n vs (Ok None) same = refl
length_entry next n vs (Err f) same = refl

length_from : (left : ℕ) (t xs : List ℕ) (n : ℕ) (vs : List ℕ) → length (applied_from left t xs n vs).values ≡ length vs
unfolding applied_from
length_from zero t xs n vs = refl
length_from (suc left) t xs n vs =
    length_entry (applied_from left t xs (suc n)) n vs (entry_at t xs (entry_size * n)) (λ us. length_from left t xs (suc n) us)

pub length_applied : (t xs vs : List ℕ) → length (applied t xs vs).values ≡ length vs
unfolding applied
length_applied t xs vs = length_from (suc (length t)) t xs 0 vs
