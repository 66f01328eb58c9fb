-- What joining answers and what the output holds, by the tests that lead there.
use Prim.Native.Nat.{ℕ, ◌+◌, ◌≤◌, ◌<◌}
use mathlib.Core.Path.{◌≡◌}
use mathlib.Core.List.{List}
use borrow.Author.Tests.{eq-eqb, ne_eqb, lt-ltb, le-ltb}
use lib.ListN.{length}
use Rattle.words.specs.declared.ByteOrder.{ByteOrder}
use Rattle.words.specs.Refusal.{result_long_number, output_short_number}
use Rattle.boot_table.specs.Form.{Form, table_limit, form_of}
use Rattle.joiner.specs.Join.{JoinAnswer, joined_length, joined_over, join_refused, join_answer, join_output}

-- ---- each answer: f is the first table's form, g the second's

module _ (o : ByteOrder) (a b : List ℕ) (room : ℕ) (f : Form) (ef : f ≡ form_of o a) where
  pub first_refused : (f.number ≡ 0 → ⊥) → join_refused f.number f.place 1 ≡ join_answer o a b room
  unfolding join_answer
  first_refused n = rw (← ef) (simp (ne_eqb _ _ n))

  module _ (fz : f.number ≡ 0) (g : Form) (eg : g ≡ form_of o b) where
    pub second_refused : (g.number ≡ 0 → ⊥) → join_refused g.number g.place 2 ≡ join_answer o a b room
    unfolding join_answer
    second_refused n = rw (← ef, ← eg) (simp (eq-eqb _ _ fz, ne_eqb _ _ n))

    module _ (gz : g.number ≡ 0) where
      pub join_long : table_limit < joined_length a b → join_refused result_long_number 0 0 ≡ join_answer o a b room
      unfolding join_answer
      join_long h = rw (← ef, ← eg) (simp (eq-eqb _ _ fz, eq-eqb _ _ gz, lt-ltb _ _ h))

      pub output_short : joined_length a b ≤ table_limit → room < joined_length a b → join_refused output_short_number 0 0 ≡ join_answer o a b room
      unfolding join_answer
      output_short h k = rw (← ef, ← eg) (simp (eq-eqb _ _ fz, eq-eqb _ _ gz, le-ltb _ _ h, lt-ltb _ _ k))

      pub join_done : joined_length a b ≤ table_limit → joined_length a b ≤ room
          → record { number = 0; place = 0; which = 0; length = joined_length a b; sections = f.sections + g.sections } ≡ join_answer o a b room
      unfolding join_answer
      join_done h k = rw (← ef, ← eg) (simp (eq-eqb _ _ fz, eq-eqb _ _ gz, le-ltb _ _ h, le-ltb _ _ k))

-- ---- the output, by the answer r

module _ (o : ByteOrder) (a b out : List ℕ) (r : JoinAnswer) (e : r ≡ join_answer o a b (length out)) where
  pub output_kept : (r.number ≡ 0 → ⊥) → out ≡ join_output o a b out
  unfolding join_output
  output_kept n = rw (← e) (simp (ne_eqb _ _ n))

  pub output_joined : r.number ≡ 0 → joined_over o a b out ≡ join_output o a b out
  unfolding join_output
  output_joined z = rw (← e) (simp (eq-eqb _ _ z))
