-- What rescuing answers and what the output holds, by the tests that lead there.
use Prim.Native.Nat.{ℕ, ◌≤◌, ◌<◌}
use mathlib.Core.Path.{◌≡◌}
use mathlib.Core.List.{List, ◌++◌}
use borrow.Author.Tests.{eq-eqb, ne_eqb, lt-ltb, le-ltb, ltb-true, ltb-false}
use lib.ListN.{length, drop}
use lib.Dec.{ltb}
use Rattle.words.specs.declared.ByteOrder.{ByteOrder}
use Rattle.words.specs.Refusal.{table_long_number, table_cut_number, result_long_number, output_short_number}
use Rattle.words.proofs.ChoiceLaws.{if_cases}
use Rattle.boot_table.specs.Form.{table_limit}
use Rattle.rescue.specs.Rescue.{RescueAnswer, rescued, done_answer, rescue_refused, rescue_answer, rescue_output}

-- ---- each answer

module _ (o : ByteOrder) (t : List ℕ) (room : ℕ) where
  pub table_long : table_limit < length t → rescue_refused table_long_number ≡ rescue_answer o t room
  unfolding rescue_answer
  table_long h = simp (lt-ltb _ _ h)

  module _ (short : length t ≤ table_limit) where
    pub entry_cut : length t < 4 → rescue_refused table_cut_number ≡ rescue_answer o t room
    unfolding rescue_answer
    entry_cut h = simp (le-ltb _ _ short, lt-ltb _ _ h)

    module _ (long : 4 ≤ length t) where
      pub result_long : table_limit < length (rescued o t) → rescue_refused result_long_number ≡ rescue_answer o t room
      unfolding rescue_answer
      result_long h = simp (le-ltb _ _ short, le-ltb _ _ long, lt-ltb _ _ h)

      module _ (fits : length (rescued o t) ≤ table_limit) where
        pub output_short : room < length (rescued o t) → rescue_refused output_short_number ≡ rescue_answer o t room
        unfolding rescue_answer
        output_short h = simp (le-ltb _ _ short, le-ltb _ _ long, le-ltb _ _ fits, lt-ltb _ _ h)

        pub rescue_done : length (rescued o t) ≤ room → done_answer o t ≡ rescue_answer o t room
        unfolding rescue_answer
        rescue_done h = simp (le-ltb _ _ short, le-ltb _ _ long, le-ltb _ _ fits, le-ltb _ _ h)

-- a table is rescued where it is within the limit and has its entry word, and the result is within the limit and has room
pub record Fits (o : ByteOrder) (t : List ℕ) (room : ℕ) : Type 0 where
  pub short : length t ≤ table_limit
  pub long : 4 ≤ length t
  pub limit : length (rescued o t) ≤ table_limit
  pub fits : length (rescued o t) ≤ room

-- what each answer has where it is given, the answer has
pub by_answer : (o : ByteOrder) (t : List ℕ) (room : ℕ) (P : RescueAnswer → Type 0)
    → (table_limit < length t → P (rescue_refused table_long_number))
    → (length t < 4 → P (rescue_refused table_cut_number))
    → (table_limit < length (rescued o t) → P (rescue_refused result_long_number))
    → (4 ≤ length t → room < length (rescued o t) → P (rescue_refused output_short_number))
    → (Fits o t room → P (done_answer o t))
    → P (rescue_answer o t room)
unfolding rescue_answer
by_answer o t room P p4 p5 p10 p11 p0 =
    if_cases P (ltb table_limit (length t)) _ _ (λ a. p4 (ltb-true _ _ a))
    (λ a. if_cases P (ltb (length t) 4) _ _ (λ b. p5 (ltb-true _ _ b))
    (λ b. if_cases P (ltb table_limit (length (rescued o t))) _ _ (λ c. p10 (ltb-true _ _ c))
    (λ c. if_cases P (ltb room (length (rescued o t))) _ _ (λ d. p11 (ltb-false _ _ b) (ltb-true _ _ d))
    (λ d. p0 (record { short = ltb-false _ _ a; long = ltb-false _ _ b; limit = ltb-false _ _ c; fits = ltb-false _ _ d })))))

-- ---- the output, by the answer r

module _ (o : ByteOrder) (t out : List ℕ) (r : RescueAnswer) (e : r ≡ rescue_answer o t (length out)) where
  pub output_kept : (r.number ≡ 0 → ⊥) → out ≡ rescue_output o t out
  unfolding rescue_output
  output_kept n = rw (← e) (simp (ne_eqb _ _ n))

  pub output_rescued : r.number ≡ 0 → rescued o t ++ drop (length (rescued o t)) out ≡ rescue_output o t out
  unfolding rescue_output
  output_rescued z = rw (← e) (simp (eq-eqb _ _ z))
