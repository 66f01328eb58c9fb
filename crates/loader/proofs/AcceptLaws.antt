-- Laws of acceptance by sections: those of two tables one after the other, and two tables of which one keeps each rule exactly when the other does. m is a map.
use Prim.Native.Nat.{ℕ, ◌+◌}
use mathlib.Core.Path.{◌≡◌, refl, sym, ◌∙◌, ap}
use mathlib.Core.Logic.{◌↔◌, ◌⊎◌, inl, inr, ⊎_elim, by_cases}
use mathlib.Core.List.{List, ◌++◌}
use native.Mathlib.Decide.{ℕ_discrete}
use native.Mathlib.Omega.{arith}
use lib.ListN.{length, length-append}
use Rattle.words.specs.declared.ByteOrder.{ByteOrder}
use Rattle.words.specs.Refusal.{not_open_number, stored_twice_number}
use Rattle.region_map.specs.Map.{map_answer, memory_size}
use Rattle.boot_table.specs.Table.{entry_of, reading}
use Rattle.boot_table.specs.Form.{total, WellFormed}
use Rattle.boot_table.specs.Meaning.{last_byte}
use Rattle.boot_table.specs.Valid.{All}
use Rattle.boot_table.proofs.FormLaws.{total_append}
use Rattle.boot_table.proofs.RoundTrip.{all_append, all_parts}
use Rattle.one_write.specs.Once.{NoneInBoth, StoresOnce}
use Rattle.one_write.proofs.OnceLaws.{once_append}
use Rattle.loader.specs.Store.{store_all}
use Rattle.loader.specs.Load.{Answer, accepted, once_answer, map_rule, load_answer, load_memory, Opens, Accepted}
use Rattle.loader.proofs.StoreLaws.{store_all_append}
use Rattle.loader.proofs.SameLaws.{same_memory}
use Rattle.loader.proofs.RuleLaws.{same_number, opens_rule, rule_number}
use Rattle.loader.proofs.AnswerLaws.{well_judged, load_refused, load_sized, load_judged, once_only, once_if, once_number}
use Rattle.loader.proofs.LoadLaws.{accepted_iff, accepted_answer, accepted_memory, length_load, refusal_keeps}

-- ---- sections one after the other

-- t has the sections of a and then those of b
module _ (o : ByteOrder) (m t a b : List ℕ) (whole : WellFormed o t) (first : WellFormed o a) (second : WellFormed o b)
    (in_turn : (reading o t).sections ≡ (reading o a).sections ++ (reading o b).sections) where
  -- it is accepted exactly when a and b both are and no address of kind 3 is stored by both
  pub append_accepted : (room : ℕ) → (Accepted o m t room)
      ↔ ((Accepted o m a room) × (Accepted o m b room) × (NoneInBoth m (reading o a).sections (reading o b).sections))
  append_accepted room = (
    λ k.
        let p = all_parts (reading o a).sections (reading o b).sections (rw in_turn at k.opens) in
        let q = (once_append m (reading o a).sections (reading o b).sections).0 (rw in_turn at k.once) in (
          record { sound = k.sound; size = k.size; form = first; opens = p.0; once = q.0 },
          record { sound = k.sound; size = k.size; form = second; opens = p.1; once = q.1 },
          q.2,
        ),
    λ k. record {
      sound = k.0.sound;
      size = k.0.size;
      form = whole;
      opens = rw in_turn (all_append k.0.opens k.1.opens);
      once = rw in_turn ((once_append m (reading o a).sections (reading o b).sections).1 (k.0.once, k.1.once, k.2));
    },
  )

  -- loading it accepts exactly when loading a and then b does, and no address of kind 3 is stored by both
  pub append_loads : (mem : List ℕ) → ((load_answer o m t (length mem)).number ≡ 0)
      ↔ (((load_answer o m a (length mem)).number ≡ 0) × ((load_answer o m b (length (load_memory o m a mem))).number ≡ 0)
      × (NoneInBoth m (reading o a).sections (reading o b).sections))
  append_loads mem = rw length_load (
    λ z.
        let k = (append_accepted (length mem)).0 ((accepted_iff o m t (length mem)).0 z) in
        ((accepted_iff o m a (length mem)).1 k.0, (accepted_iff o m b (length mem)).1 k.1, k.2),
    λ z.
        (accepted_iff o m t (length mem)).1
        ((append_accepted (length mem)).1 ((accepted_iff o m a (length mem)).0 z.0, (accepted_iff o m b (length mem)).0 z.1, z.2)),
  )

  module _ (mem : List ℕ) (k : Accepted o m t (length mem)) where
    first_accepted : Accepted o m a (length mem)
    first_accepted = ((append_accepted (length mem)).0 k).0

    second_accepted : Accepted o m b (length (load_memory o m a mem))
    second_accepted = rw length_load ((append_accepted (length mem)).0 k).1

    -- then it leaves what loading a and then b leaves
    pub append_memory : load_memory o m t mem ≡ load_memory o m b (load_memory o m a mem)
    append_memory =
        accepted_memory o m t mem k
        ∙ ap (store_all m mem) in_turn
        ∙ store_all_append m mem (reading o a).sections (reading o b).sections
        ∙ ap (λ (x : List ℕ). store_all m x (reading o b).sections) (sym (accepted_memory o m a mem first_accepted))
        ∙ sym (accepted_memory o m b (load_memory o m a mem) second_accepted)

    -- and with b's entry it has b's yes or no, and the summed counts
    pub append_answer : entry_of o t ≡ entry_of o b
        → load_answer o m t (length mem)
        ≡ record {
          number = 0;
          place = 0;
          address = 0;
          entry = (load_answer o m b (length (load_memory o m a mem))).entry;
          entry_open = (load_answer o m b (length (load_memory o m a mem))).entry_open;
          sections = (load_answer o m a (length mem)).sections + (load_answer o m b (length (load_memory o m a mem))).sections;
          bytes = (load_answer o m a (length mem)).bytes + (load_answer o m b (length (load_memory o m a mem))).bytes;
        }
    unfolding accepted
    append_answer e =
        accepted_answer o m t (length mem) k
        ∙ rw (
          accepted_answer o m a (length mem) first_accepted,
          accepted_answer o m b (length (load_memory o m a mem)) second_accepted,
          e,
          in_turn,
          length-append,
          total_append,
        )

-- ---- two tables: one keeps the map rule exactly when the other does, and the rule of one write

module _ (o : ByteOrder) (m t u : List ℕ) (first : WellFormed o t) (second : WellFormed o u)
    (opens : (All (Opens m) (reading o t).sections) ↔ (All (Opens m) (reading o u).sections))
    (once : (StoresOnce m (reading o t).sections) ↔ (StoresOnce m (reading o u).sections)) where
  -- both are accepted, or neither
  pub rules_accepted : (room : ℕ) → (Accepted o m t room) ↔ (Accepted o m u room)
  rules_accepted room = (
    λ k. record { sound = k.sound; size = k.size; form = second; opens = opens.0 k.opens; once = once.0 k.once },
    λ k. record { sound = k.sound; size = k.size; form = first; opens = opens.1 k.opens; once = once.1 k.once },
  )

  -- with the same counts and entry the answer is the same
  pub rules_answer : (room : ℕ) → entry_of o u ≡ entry_of o t → length (reading o u).sections ≡ length (reading o t).sections
      → total (reading o u).sections ≡ total (reading o t).sections → Accepted o m t room → load_answer o m u room ≡ load_answer o m t room
  unfolding accepted
  rules_answer room e n b k =
      accepted_answer o m u room ((rules_accepted room).0 k) ∙ rw (e, n, b) (sym (accepted_answer o m t room k))

  -- the rule of one write gives the same number
  same_once : (once_answer o m u).number ≡ (once_answer o m t).number
  unfolding accepted
  same_once = go (once_number o m t) (once_number o m u)
    where
      go : ((once_answer o m t).number ≡ 0) ⊎ ((once_answer o m t).number ≡ stored_twice_number)
          → ((once_answer o m u).number ≡ 0) ⊎ ((once_answer o m u).number ≡ stored_twice_number) → (once_answer o m u).number ≡ (once_answer o m t).number
      go (inl p) q = same_number (once_if o m u (once.0 (once_only o m t p))) ∙ sym p
      go (inr p) (inl q) = q ∙ sym (same_number (once_if o m t (once.1 (once_only o m u q))))
      go (inr p) (inr q) = q ∙ sym p

  -- the map rule, and then that one
  abbrev rule : List ℕ → Answer
  rule x = map_rule m (once_answer o m x) 4 (reading o x).sections

  -- they give the same number too
  same_rule : (rule u).number ≡ (rule t).number
  same_rule = go (rule_number m (once_answer o m t) 4 (reading o t).sections) (rule_number m (once_answer o m u) 4 (reading o u).sections)
    where
      is_once : (x : List ℕ) → All (Opens m) (reading o x).sections → (rule x).number ≡ (once_answer o m x).number
      is_once x k = same_number (opens_rule m (once_answer o m x) 4 k)

      not_both : (x : List ℕ) → (rule x).number ≡ not_open_number → All (Opens m) (reading o x).sections → ⊥
      not_both x p k = ⊎_elim (λ q. omega (arith, is_once x k)) (λ q. omega (arith, is_once x k)) (once_number o m x)

      go : ((rule t).number ≡ not_open_number) ⊎ (All (Opens m) (reading o t).sections) → ((rule u).number ≡ not_open_number) ⊎ (All (Opens m) (reading o u).sections)
          → (rule u).number ≡ (rule t).number
      go (inl p) (inl q) = q ∙ sym p
      go (inl p) (inr k) = absurd (not_both t p (opens.1 k))
      go (inr h) (inl q) = absurd (not_both u q (opens.0 h))
      go (inr h) (inr k) = is_once u k ∙ same_once ∙ sym (is_once t h)

  -- so under every map they are answered with the same number
  pub rules_number : (room : ℕ) → (load_answer o m u room).number ≡ (load_answer o m t room).number
  rules_number room =
      by_cases (ℕ_discrete (map_answer m).number 0)
      (λ s. by_cases (ℕ_discrete room (memory_size m))
      (λ e. same_number (sym (judged u second s e)) ∙ same_rule ∙ same_number (judged t first s e))
      (λ n. same_number (sym (load_sized o m u room (map_answer m) refl s n) ∙ load_sized o m t room (map_answer m) refl s n)))
      (λ n. same_number (sym (load_refused o m u room (map_answer m) refl n) ∙ load_refused o m t room (map_answer m) refl n))
    where
      judged : (x : List ℕ) → WellFormed o x → (map_answer m).number ≡ 0 → room ≡ memory_size m → rule x ≡ load_answer o m x room
      judged x w s e = well_judged o m x w ∙ load_judged o m x room (map_answer m) refl s e

  -- and with the same last bytes they leave the same memory
  pub rules_memory : (mem : List ℕ) → ((a : ℕ) → last_byte (reading o u).sections a ≡ last_byte (reading o t).sections a)
      → load_memory o m u mem ≡ load_memory o m t mem
  rules_memory mem same =
      by_cases (ℕ_discrete (load_answer o m t (length mem)).number 0)
      (λ z.
      let k = (accepted_iff o m t (length mem)).0 z in
      let l = (rules_accepted (length mem)).0 k in
      accepted_memory o m u mem l
      ∙ same_memory m k.sound mem k.size (reading o u).sections (reading o t).sections l.opens k.opens same
      ∙ sym (accepted_memory o m t mem k))
      (λ n. refusal_keeps o m u mem (λ z. n (sym (rules_number (length mem)) ∙ z)) ∙ sym (refusal_keeps o m t mem n))
