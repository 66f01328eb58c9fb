-- Request 11 holds.
use Prim.Native.Nat.{ℕ}
use mathlib.Core.Path.{◌≡◌, sym, ◌∙◌, ap₂}
use mathlib.Core.Logic.{◌↔◌}
use mathlib.Core.List.{List}
use native.Mathlib.Omega.{arith}
use lib.ListN.{length, length-append}
use Rattle.words.specs.declared.ByteOrder.{ByteOrder}
use Rattle.words.specs.Word.{Bytes}
use Rattle.boot_table.specs.Table.{entry_of, reading}
use Rattle.boot_table.specs.Form.{WellFormed}
use Rattle.boot_table.proofs.FormLaws.{total_append}
use Rattle.loader.specs.Load.{accepted, load_answer, load_memory, Accepted}
use Rattle.loader.proofs.LoadLaws.{accepted_iff, accepted_answer}
use Rattle.joiner.specs.Join.{joined_length, join_answer, join_output}
use Rattle.laws.specs.Calls.{join_in, rearranged_answers, both_ways}
use Rattle.laws.specs.Demand3.{IsAccepted, Joinable}
use Rattle.laws.specs.Rearranging.{Rearranged, RearrangedTable, LoadsAlike, join_loaded, JoinsAlike, AnyOrder}
use Rattle.laws.proofs.RearrangedLaws.{permutations, turned, count_rearranged, total_rearranged, near, none_twice, none_by_both, last_rearranged, last_turned}
use Rattle.laws.proofs.RearrangedLaws.{makes_table, only_table, rearranged_accepted, rearranged_number, rearranged_answer, rearranged_memory}
use Rattle.laws.proofs.JoinProof.{in_answer, is_join, in_form, in_reading, in_entry}

-- equal numbers are both 0, or neither is
zero_alike : {m n : ℕ} → m ≡ n → (m ≡ 0) ↔ (n ≡ 0)
zero_alike e = (λ z. sym e ∙ z, λ z. e ∙ z)

-- ---- a table and one with its sections rearranged

module _ (o : ByteOrder) (t u m mem : List ℕ) (form : WellFormed o t) (r : RearrangedTable o t u) where
  loads_alike : LoadsAlike (reading o t).sections (rearranged_answers o m t u mem mem) (load_memory o m t mem) (load_memory o m u mem)
  loads_alike =
      let number = rearranged_number o m t u form r.form r.sections (length mem) in
      record {
        accepted = zero_alike number;
        answer = λ z. rearranged_answer o m t u form r.form r.sections (length mem) r.entry ((accepted_iff o m t (length mem)).0 z);
        number = number;
        memory = λ p. rearranged_memory o m t u form r.form r.sections mem (last_rearranged r.sections p);
      }

-- ---- two joins

module _ (o : ByteOrder) (a b ab ba m mem : List ℕ) (p : Bytes a) (q : Bytes b) (j : Joinable o a b ab) (k : Joinable o b a ba) where
  -- the one's sections are the other's, rearranged
  rearranged : Rearranged (reading o (join_in o a b ab)).sections (reading o (join_in o b a ba)).sections
  rearranged = rw (in_reading o a b ab p q j, in_reading o b a ba q p k) (turned (reading o a).sections (reading o b).sections)

  ab_form : WellFormed o (join_in o a b ab)
  ab_form = in_form o a b ab p q j

  ba_form : WellFormed o (join_in o b a ba)
  ba_form = in_form o b a ba q p k

  same_joined : join_answer o b a (length ba) ≡ join_answer o a b (length ab)
  unfolding joined_length
  same_joined =
      in_answer o b a ba q p k
      ∙ ap₂ (λ (n s : ℕ). record { number = 0; place = 0; which = 0; length = n; sections = s }) (omega arith) (omega arith)
      ∙ sym (in_answer o a b ab p q j)

  joins_number : (load_answer o m (join_in o b a ba) (length mem)).number ≡ (load_answer o m (join_in o a b ab) (length mem)).number
  joins_number = rearranged_number o m (join_in o a b ab) (join_in o b a ba) ab_form ba_form rearranged (length mem)

  module _ (z : IsAccepted (load_answer o m (join_in o a b ab) (length mem))) where
    is_accepted : Accepted o m (join_in o a b ab) (length mem)
    is_accepted = (accepted_iff o m (join_in o a b ab) (length mem)).0 z

    ab_loaded : load_answer o m (join_in o a b ab) (length mem) ≡ join_loaded m (entry_of o b) (reading o a).sections (reading o b).sections
    unfolding accepted
    ab_loaded =
        accepted_answer o m (join_in o a b ab) (length mem) is_accepted
        ∙ rw (in_entry o a b ab p q j, in_reading o a b ab p q j, length-append, total_append)

    ba_loaded : load_answer o m (join_in o b a ba) (length mem) ≡ join_loaded m (entry_of o a) (reading o a).sections (reading o b).sections
    unfolding accepted
    ba_loaded =
        accepted_answer o m (join_in o b a ba) (length mem) ((rearranged_accepted o m (join_in o a b ab) (join_in o b a ba) ab_form ba_form rearranged (length mem)).0 is_accepted)
        ∙ rw (in_entry o b a ba q p k, count_rearranged rearranged, total_rearranged rearranged, in_reading o a b ab p q j, length-append, total_append)

  joins_alike : JoinsAlike o m a b ab ba (both_ways o m a b ab ba mem mem)
      (join_output o a b ab) (join_output o b a ba) (load_memory o m (join_in o a b ab) mem) (load_memory o m (join_in o b a ba) mem)
  joins_alike = record {
    ab_joined = is_join o a b ab p q j;
    ba_joined = is_join o b a ba q p k;
    joined = same_joined;
    accepted = zero_alike joins_number;
    number = joins_number;
    ab_answer = ab_loaded;
    ba_answer = ba_loaded;
    memory = λ s. rearranged_memory o m (join_in o a b ab) (join_in o b a ba) ab_form ba_form rearranged mem
        (λ x. rw (in_reading o a b ab p q j, in_reading o b a ba q p k) (last_turned s x));
  }

pub any_order : AnyOrder
any_order = record {
  permutations = permutations;
  none_twice = none_twice;
  none_by_both = none_by_both;
  near = near;
  tables = makes_table;
  only = only_table;
  loads = loads_alike;
  joins = joins_alike;
}
