-- Laws of judging and loading: when a table is accepted, and what memory holds afterwards.
use mathlib.Core.Path.{◌≡◌, refl, sym, ◌∙◌, ap}
use mathlib.Core.Logic.{◌≢◌, ◌↔◌, by_cases}
use mathlib.Core.List.{List, [], ◌∷◌}
use mathlib.Core.Bool.{true, false, not}
use mathlib.Core.Option
use mathlib.Core.Option.{Option as Maybe, none, some}
use Prim.Native.Nat.{ℕ, ◌<◌}
use native.Mathlib.Decide.{ℕ_discrete}
use native.Mathlib.Omega.{arith}
use lib.ListN.{length, get_or}
use lib.Dec.{eqb}
use Rattle.words.specs.declared.ByteOrder.{ByteOrder}
use Rattle.words.specs.Choice.{if}
use Rattle.words.specs.Refusal.{memory_length_number, not_open_number, stored_twice_number}
use Rattle.words.proofs.ChoiceLaws.{if_both}
use Rattle.region_map.specs.Map.{MapAnswer, count, one_write, map_answer, memory_size, is_open, closed_from, place_of}
use Rattle.region_map.proofs.FaultLaws.{answer_sound, sound_answer}
use Rattle.region_map.proofs.OnceLaws.{plain_once}
use Rattle.boot_table.specs.Table.{Sect, next_of, reading}
use Rattle.boot_table.specs.Form.{form_of}
use Rattle.boot_table.specs.Meaning.{last_byte}
use Rattle.one_write.specs.Once.{first_repeat}
use Rattle.one_write.proofs.OnceLaws.{plain_nowhere}
use Rattle.loader.specs.Store.{store_all}
use Rattle.loader.specs.Load.{Answer, refused, on_closed, accepted, on_repeat, once_answer, map_rule, form_first, open_answer, table_answer, map_first, judge_answer, load_answer, load_memory, Accepted}
use Rattle.loader.proofs.StoreLaws.{length_store_all, store_all_at, store_all_miss}
use Rattle.loader.proofs.RuleLaws.{same_number}
use Rattle.loader.proofs.AnswerLaws.{map_refused, map_judged, load_refused, load_sized, load_judged, memory_kept, memory_stored, table_only, table_if}
use Rattle.std.specs.Prelude.{Option, None, Some}

-- ---- acceptance

module _ (o : ByteOrder) (m t : List ℕ) (room : ℕ) where
  accept_only : (load_answer o m t room).number ≡ 0 → Accepted o m t room
  accept_only z =
      by_cases (ℕ_discrete (map_answer m).number 0)
      (λ s. by_cases (ℕ_discrete room (memory_size m))
      (λ e.
      let q = table_only o m t (same_number (load_judged o m t room (map_answer m) refl s e) ∙ z) in
      record { sound = answer_sound m s; size = e; form = q.0; opens = q.1; once = q.2 })
      (λ n. absurd (three (same_number (load_sized o m t room (map_answer m) refl s n) ∙ z))))
      (λ n. absurd (n (same_number (load_refused o m t room (map_answer m) refl n) ∙ z)))
    where
      three : ◌≡◌ {A = ℕ} 3 0 → ⊥
      three e = omega arith

  -- an accepted table's answer
  pub accepted_answer : Accepted o m t room → load_answer o m t room ≡ accepted o m t
  accepted_answer a =
      sym (load_judged o m t room (map_answer m) refl (ap (λ (r : MapAnswer). r.number) (sound_answer m a.sound)) a.size) ∙ table_if o m t a.form a.opens a.once

  -- a table is accepted exactly when the map is sound, memory has the map's size, and the table is well-formed, keeps the map rule, and stores no address of kind 3 twice
  pub accepted_iff : ((load_answer o m t room).number ≡ 0) ↔ (Accepted o m t room)
  unfolding accepted
  accepted_iff = (accept_only, λ a. same_number (accepted_answer a))

-- ---- maps without a record of kind 3

-- the answers are those by the map, the memory, the form and the map rule: the rule of one write adds none. The `plain-..` laws of
-- region_map are the other half: what such a map opens and where its bytes stand goes by kind 1 alone. So nothing changes from before
module _ (o : ByteOrder) (m t : List ℕ) (plain : (i : ℕ) → i < count m → one_write m i ≡ false) where
  plain_repeat : first_repeat o m t ≡ None
  unfolding first_repeat
  plain_repeat = plain_nowhere m (plain_once m plain) 4 (reading o t).sections

  plain_answer : table_answer o m t ≡ open_answer o m t
  unfolding table_answer once_answer open_answer
  plain_answer = rw plain_repeat refl

  pub plain_judged : judge_answer o m t ≡ map_first m (open_answer o m t)
  unfolding judge_answer
  plain_judged = rw plain_answer refl

  pub plain_loaded : (room : ℕ) → load_answer o m t room ≡ map_first m (if (not (eqb room (memory_size m))) (refused memory_length_number 0) (open_answer o m t))
  unfolding load_answer
  plain_loaded room = rw plain_answer refl

  pub plain_memory : (mem : List ℕ) → load_memory o m t mem
      ≡ if (eqb (map_first m (if (not (eqb (length mem) (memory_size m))) (refused memory_length_number 0) (open_answer o m t))).number 0) (store_all m mem (reading o t).sections) mem
  unfolding load_memory
  plain_memory mem = rw (plain_loaded (length mem)) refl

-- ---- refusals

-- all fields of a refusal but its number and place are zero, and so is its address, except for an address that is not open
pub record Blank (r : Answer) : Type 0 where
  pub address : (r.number ≡ not_open_number → ⊥) → r.address ≡ 0
  pub entry : r.entry ≡ 0
  pub entry_open : r.entry_open ≡ false
  pub sections : r.sections ≡ 0
  pub bytes : r.bytes ≡ 0

-- an answer that is blank where it is a refusal
abbrev Fair : Answer → Type 0
Fair r = (r.number ≡ 0 → ⊥) → Blank r

fair_refused : (number place : ℕ) → Fair (refused number place)
fair_refused number place n = record { address = λ h. refl; entry = refl; entry_open = refl; sections = refl; bytes = refl }

fair_closed : (at : ℕ) (later : Answer) (c : Maybe ℕ) → Fair later → Fair (on_closed at later c)
fair_closed at later none f = f
fair_closed at later (some a) f = λ n. record { address = λ h. absurd (h refl); entry = refl; entry_open = refl; sections = refl; bytes = refl }

fair_rule : (m : List ℕ) (fine : Answer) (at : ℕ) (ss : List Sect) → Fair fine → Fair (map_rule m fine at ss)
unfolding map_rule
fair_rule m fine at [] f = f
fair_rule m fine at (s ∷ ss) f =
    fair_closed at (map_rule m fine (next_of at (length s.body)) ss) (closed_from m (length s.body) s.address) (fair_rule m fine (next_of at (length s.body)) ss f)

fair_repeat : (later : Answer) (r : Option ℕ) → Fair later → Fair (on_repeat later r)
fair_repeat later None f = f
fair_repeat later (Some at) f = fair_refused stored_twice_number at

fair_table : (o : ByteOrder) (m t : List ℕ) → Fair (table_answer o m t)
unfolding table_answer form_first once_answer accepted
fair_table o m t =
    if_both Fair (not (eqb (form_of o t).number 0)) _ _ (fair_refused (form_of o t).number (form_of o t).place)
    (fair_rule m (once_answer o m t) 4 (reading o t).sections (fair_repeat (accepted o m t) (first_repeat o m t) (λ n. absurd (n refl))))

-- a refusal has its number and place, and all else zero
pub refusal_blank : (o : ByteOrder) (m t : List ℕ) (room : ℕ) → ((load_answer o m t room).number ≡ 0 → ⊥) → Blank (load_answer o m t room)
unfolding load_answer
refusal_blank o m t room =
    if_both Fair (not (eqb (map_answer m).number 0)) _ _ (fair_refused (map_answer m).number (map_answer m).place)
    (if_both Fair (not (eqb room (memory_size m))) _ _ (fair_refused memory_length_number 0) (fair_table o m t))

-- and changes no byte
pub refusal_keeps : (o : ByteOrder) (m t mem : List ℕ) → ((load_answer o m t (length mem)).number ≡ 0 → ⊥) → load_memory o m t mem ≡ mem
refusal_keeps o m t mem n = sym (memory_kept o m t mem (load_answer o m t (length mem)) refl n)

-- ---- judging and loading

-- judging answers as loading does wherever the memory has the map's size
pub judge_as_load : (o : ByteOrder) (m t : List ℕ) (room : ℕ) → room ≡ memory_size m → judge_answer o m t ≡ load_answer o m t room
judge_as_load o m t room e =
    by_cases (ℕ_discrete (map_answer m).number 0)
    (λ s. sym (map_judged o m t (map_answer m) refl s) ∙ load_judged o m t room (map_answer m) refl s e)
    (λ n. sym (map_refused o m t (map_answer m) refl n) ∙ load_refused o m t room (map_answer m) refl n)

-- so a table is accepted by judging exactly where loading it into memory of the map's size accepts it
pub judged_iff : (o : ByteOrder) (m t : List ℕ) → ((judge_answer o m t).number ≡ 0) ↔ (Accepted o m t (memory_size m))
judged_iff o m t = rw (judge_as_load o m t (memory_size m) refl) (accepted_iff o m t (memory_size m))

-- the answer does not depend on the bytes that memory holds
pub any_memory : (o : ByteOrder) (m t mem other : List ℕ) → length mem ≡ length other → load_answer o m t (length mem) ≡ load_answer o m t (length other)
any_memory o m t mem other e = ap (load_answer o m t) e

-- ---- memory after a load

-- memory keeps its length
pub length_load : (o : ByteOrder) (m t mem : List ℕ) → length (load_memory o m t mem) ≡ length mem
unfolding load_memory
length_load o m t mem =
    if_both (λ (x : List ℕ). length x ≡ length mem) (eqb (load_answer o m t (length mem)).number 0) _ _ (length_store_all m mem (reading o t).sections) refl

module _ (o : ByteOrder) (m t mem : List ℕ) (a : Accepted o m t (length mem)) where
  -- the sections stored in table order
  pub accepted_memory : load_memory o m t mem ≡ store_all m mem (reading o t).sections
  accepted_memory = sym (memory_stored o m t mem (load_answer o m t (length mem)) refl ((accepted_iff o m t (length mem)).1 a))

  -- at the place of an open address: the byte of the last section that covers it, else the old one
  pub loaded_at : (x : ℕ) → is_open m x ≡ true
      → get_or (load_memory o m t mem) (place_of m x) 0 ≡ Option.get_or (last_byte (reading o t).sections x) (get_or mem (place_of m x) 0)
  loaded_at x is = rw accepted_memory (store_all_at m a.sound mem a.size a.opens x is)

  -- every other place keeps its byte
  pub loaded_else : (p : ℕ) → ((x : ℕ) → is_open m x ≡ true → p ≢ place_of m x) → get_or (load_memory o m t mem) p 0 ≡ get_or mem p 0
  loaded_else p away = rw accepted_memory (store_all_miss m mem a.opens p away)
