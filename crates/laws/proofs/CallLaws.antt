-- What the functions that make the calls of demand 3 and request 11 ensure, from what `join` and `load` ensure of each call.
use Prim.Native.Nat.{ℕ, ◌≤◌}
use mathlib.Core.Path.{◌≡◌, refl, sym, ap}
use mathlib.Core.List.{List}
use mathlib.Core.Bool.{not}
use native.Mathlib.Omega.{arith}
use borrow.Author.Tests.{ltb-false}
use lib.Dec.{ltb, eqb}
use lib.ListN.{length, take}
use lib.Seq.{length-take-le}
use Rattle.words.specs.declared.ByteOrder.{ByteOrder}
use Rattle.words.specs.Word.{Bytes}
use Rattle.words.proofs.ChoiceLaws.{if_cases}
use Rattle.boot_table.specs.Table.{Sect, reading}
use Rattle.boot_table.specs.Form.{table_limit, form_of, WellFormed}
use Rattle.loader.specs.Load.{Answer, load_answer, load_memory}
use Rattle.joiner.specs.Join.{JoinAnswer, joined_length, join_answer, join_output}
use Rattle.laws.specs.Calls.{join_in, turn_answers, three_answers, swap_of, rearranged_answers, both_ways}
use Rattle.laws.specs.Demand3.{Joinable, Fitting, Joinable3, TwoSections, InTurn, Associative, Swapped}
use Rattle.laws.specs.Rearranging.{RearrangedTable, LoadsAlike, JoinsAlike}
use Rattle.laws.proofs.Theorem.{demand_3}
use Rattle.laws.proofs.RearrangingProof.{any_order}

-- the join, loaded, against the two tables in turn; the answers are in numbers, and n is how many bytes the join reported
pub turn_calls : (o : ByteOrder) (m a b out whole turn : List ℕ) → Bytes a → Bytes b
    → (j : JoinAnswer) (n : ℕ) (out' : List ℕ) (w f g : Answer) (whole' turn₁ turn' : List ℕ)
    → j ≡ join_answer o a b (length out) → n ≡ j.length → out' ≡ join_output o a b out
    → w ≡ load_answer o m (take n out') (length whole) → whole' ≡ load_memory o m (take n out') whole
    → f ≡ load_answer o m a (length turn) → turn₁ ≡ load_memory o m a turn
    → g ≡ load_answer o m b (length turn₁) → turn' ≡ load_memory o m b turn₁
    → record {
      value : record { joined = j; whole = w; first = f; second = g } ≡ turn_answers o m a b out whole turn;
      output_after : out' ≡ join_output o a b out;
      join_memory_after : whole' ≡ load_memory o m (join_in o a b out) whole;
      turn_memory_after : turn' ≡ load_memory o m b (load_memory o m a turn);
      in_turn : Joinable o a b out → Fitting m whole → whole ≡ turn
          → InTurn o m a b out (record { joined = j; whole = w; first = f; second = g }) out' whole' turn';
    }
unfolding join_in
turn_calls o m a b out whole turn p q j n out' w f g whole' turn₁ turn' ej en eo ew e1 ef et eg eu =
    rw (eu, eg, et, ef, e1, ew, eo, en, ej)
    record {
      value = refl;
      output_after = refl;
      join_memory_after = refl;
      turn_memory_after = refl;
      in_turn = λ sides fitting same. rw (← same) (demand_3.two_tables o a b out m whole p q sides fitting);
    }

-- three tables joined both ways; n and k are how many bytes the two inner joins reported
pub three_calls : (o : ByteOrder) (a b c ab left bc right : List ℕ) → Bytes a → Bytes b → Bytes c
    → (x l y r : JoinAnswer) (n k : ℕ) (ab' left' bc' right' : List ℕ)
    → x ≡ join_answer o a b (length ab) → n ≡ x.length → ab' ≡ join_output o a b ab
    → l ≡ join_answer o (take n ab') c (length left) → left' ≡ join_output o (take n ab') c left
    → y ≡ join_answer o b c (length bc) → k ≡ y.length → bc' ≡ join_output o b c bc
    → r ≡ join_answer o a (take k bc') (length right) → right' ≡ join_output o a (take k bc') right
    → record {
      value : record { ab = x; left = l; bc = y; right = r } ≡ three_answers o a b c ab left bc right;
      ab_after : ab' ≡ join_output o a b ab;
      left_after : left' ≡ join_output o (join_in o a b ab) c left;
      bc_after : bc' ≡ join_output o b c bc;
      right_after : right' ≡ join_output o a (join_in o b c bc) right;
      associative : Joinable3 o a b c ab left bc right
          → Associative o a b c ab left bc right (record { ab = x; left = l; bc = y; right = r }) ab' left' bc' right';
    }
unfolding join_in
three_calls o a b c ab left bc right p q s x l y r n k ab' left' bc' right' ex en eab el eleft ey ek ebc er eright =
    rw (eright, er, ebc, ek, ey, eleft, el, eab, en, ex)
    record {
      value = refl;
      ab_after = refl;
      left_after = refl;
      bc_after = refl;
      right_after = refl;
      associative = demand_3.three_tables o a b c ab left bc right p q s;
    }

-- a table and the one with its sections rearranged
pub rearranged_calls : (o : ByteOrder) (m t u mem other : List ℕ) → Bytes t
    → (a b : Answer) (mem' other' : List ℕ)
    → a ≡ load_answer o m t (length mem) → mem' ≡ load_memory o m t mem
    → b ≡ load_answer o m u (length other) → other' ≡ load_memory o m u other
    → record {
      value : record { original = a; rearranged = b } ≡ rearranged_answers o m t u mem other;
      original_memory_after : mem' ≡ load_memory o m t mem;
      rearranged_memory_after : other' ≡ load_memory o m u other;
      swapped : (x y : Sect) → TwoSections o t m mem x y → u ≡ swap_of o t x y → mem ≡ other
          → Swapped x y (record { original = a; rearranged = b }) mem' other';
      loads_alike : WellFormed o t → RearrangedTable o t u → mem ≡ other
          → LoadsAlike (reading o t).sections (record { original = a; rearranged = b }) mem' other';
    }
rearranged_calls o m t u mem other p a b mem' other' ea eo eb et =
    rw (et, eb, eo, ea) (record { value = refl; original_memory_after = refl; rearranged_memory_after = refl; swapped = two; loads_alike = any })
  where
    two : (x y : Sect) → TwoSections o t m mem x y → u ≡ swap_of o t x y → mem ≡ other
        → Swapped x y (rearranged_answers o m t u mem other) (load_memory o m t mem) (load_memory o m u other)
    two x y sides is same = rw (← same, is) (demand_3.two_swapped o t m mem x y p sides)

    any : WellFormed o t → RearrangedTable o t u → mem ≡ other
        → LoadsAlike (reading o t).sections (rearranged_answers o m t u mem other) (load_memory o m t mem) (load_memory o m u other)
    any form is same = rw (← same) (any_order.loads o t u m mem form is)

-- two tables joined both ways, and both joins loaded; n and k are how many bytes the joins reported
pub both_calls : (o : ByteOrder) (m a b ab ba mem other : List ℕ) → Bytes a → Bytes b
    → (x y : JoinAnswer) (n k : ℕ) (ab' ba' : List ℕ) (f g : Answer) (mem' other' : List ℕ)
    → x ≡ join_answer o a b (length ab) → n ≡ x.length → ab' ≡ join_output o a b ab
    → y ≡ join_answer o b a (length ba) → k ≡ y.length → ba' ≡ join_output o b a ba
    → f ≡ load_answer o m (take n ab') (length mem) → mem' ≡ load_memory o m (take n ab') mem
    → g ≡ load_answer o m (take k ba') (length other) → other' ≡ load_memory o m (take k ba') other
    → record {
      value : record { ab = x; ba = y; ab_loaded = f; ba_loaded = g } ≡ both_ways o m a b ab ba mem other;
      ab_after : ab' ≡ join_output o a b ab;
      ba_after : ba' ≡ join_output o b a ba;
      ab_memory_after : mem' ≡ load_memory o m (join_in o a b ab) mem;
      ba_memory_after : other' ≡ load_memory o m (join_in o b a ba) other;
      joins_alike : Joinable o a b ab → Joinable o b a ba → mem ≡ other
          → JoinsAlike o m a b ab ba (record { ab = x; ba = y; ab_loaded = f; ba_loaded = g }) ab' ba' mem' other';
    }
unfolding join_in
both_calls o m a b ab ba mem other p q x y n k ab' ba' f g mem' other' ex en eab ey ek eba ef em eg eo =
    rw (eo, eg, em, ef, eba, ek, ey, eab, en, ex)
    record {
      value = refl;
      ab_after = refl;
      ba_after = refl;
      ab_memory_after = refl;
      ba_memory_after = refl;
      joins_alike = λ sides turned same. rw (← same) (any_order.joins o a b ab ba m mem p q sides turned);
    }

-- the length that a join reports is within the output
join_within : (o : ByteOrder) (a b : List ℕ) (room : ℕ) → (join_answer o a b room).length ≤ room
unfolding join_answer
join_within o a b room =
    if_cases within (not (eqb (form_of o a).number 0)) _ _ (λ e. omega arith)
    (λ e. if_cases within (not (eqb (form_of o b).number 0)) _ _ (λ f. omega arith)
    (λ f. if_cases within (ltb table_limit (joined_length a b)) _ _ (λ g. omega arith)
    (λ g. if_cases within (ltb room (joined_length a b)) _ _ (λ h. omega arith) (λ h. ltb-false room (joined_length a b) h))))
  where
    within : JoinAnswer → Type 0
    within r = r.length ≤ room

-- so the output's first bytes, as many as a join reported, are a part of it
module _ (o : ByteOrder) (a b out : List ℕ) (j : JoinAnswer) (n : ℕ) (out' : List ℕ) (answer : j ≡ join_answer o a b (length out)) (reported : n ≡ j.length) (kept : length out' ≡ length out) where
  pub part_within : n ≤ length out'
  part_within = omega (arith, reported, ap (λ (r : JoinAnswer). r.length) answer, join_within o a b (length out))

  pub part_length : n ≡ length (take n out')
  part_length = sym (length-take-le n out' part_within)
