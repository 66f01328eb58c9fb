-- Tables that are alike but for their pads have the same answers and leave the same memory, each in its own byte order; so do tables that differ in pad bytes alone. m is a map, t and u are tables, o and p byte orders.
use Prim.Native.Nat.{ℕ}
use mathlib.Core.Path.{◌≡◌, refl, ap}
use mathlib.Core.List.{List, [], ◌∷◌, map}
use lib.ListN.{length, length-map}
use Rattle.words.specs.declared.ByteOrder.{ByteOrder}
use Rattle.region_map.specs.Map.{closed_from}
use Rattle.boot_table.specs.Table.{Sect, entry_of, next_of, reading}
use Rattle.boot_table.specs.Form.{total, form_of}
use Rattle.boot_table.specs.Pads.{DifferInPads, bare}
use Rattle.boot_table.proofs.PadLaws.{by_bare, total_bare, pads_entry, pads_sections, pads_form}
use Rattle.one_write.specs.Once.{repeat_from, first_repeat}
use Rattle.one_write.proofs.OnceLaws.{repeat_bare}
use Rattle.loader.specs.Store.{store_bytes, store_all}
use Rattle.loader.specs.Load.{Answer, on_closed, accepted, once_answer, map_rule, form_first, table_answer, judge_answer, load_answer, load_memory}

-- ---- the rule and storing do not look at pads

rule_bare : (m : List ℕ) (fine : Answer) (at : ℕ) (ss : List Sect) → map_rule m fine at (map bare ss) ≡ map_rule m fine at ss
unfolding map_rule bare
rule_bare m fine at [] = refl
rule_bare m fine at (s ∷ ss) =
    ap (λ (later : Answer). on_closed at later (closed_from m (length s.body) s.address)) (rule_bare m fine (next_of at (length s.body)) ss)

store_bare : (m mem : List ℕ) (ss : List Sect) → store_all m mem (map bare ss) ≡ store_all m mem ss
unfolding store_all bare
store_bare m mem [] = refl
store_bare m mem (s ∷ ss) = store_bare m (store_bytes m mem s.address s.body) ss

-- ---- tables of one form and one entry, whose sections differ in their pads at most, load alike; each has its own byte order

module _ (o p : ByteOrder) (m t u : List ℕ) (form : form_of o t ≡ form_of p u) (entry : entry_of o t ≡ entry_of p u)
    (sections : map bare (reading o t).sections ≡ map bare (reading p u).sections) where
  alike_accepted : accepted o m t ≡ accepted p m u
  unfolding accepted
  alike_accepted =
      let count : length (reading o t).sections ≡ length (reading p u).sections =
      by_bare length (λ ss. length-map ss bare) (reading o t).sections (reading p u).sections sections in
      rw (entry, count, by_bare total total_bare (reading o t).sections (reading p u).sections sections) refl

  alike_once : once_answer o m t ≡ once_answer p m u
  unfolding once_answer first_repeat
  alike_once =
      rw (alike_accepted, by_bare (repeat_from m 4 []) (repeat_bare m 4 []) (reading o t).sections (reading p u).sections sections) refl

  alike_answer : table_answer o m t ≡ table_answer p m u
  unfolding table_answer form_first
  alike_answer =
      rw (form, alike_once, by_bare (map_rule m (once_answer p m u) 4) (rule_bare m (once_answer p m u) 4) (reading o t).sections (reading p u).sections sections) refl

  -- judging answers the same
  pub alike_judged : judge_answer o m t ≡ judge_answer p m u
  unfolding judge_answer
  alike_judged = rw alike_answer refl

  -- loading answers the same, whatever the memory's length
  pub alike_loaded : (room : ℕ) → load_answer o m t room ≡ load_answer p m u room
  unfolding load_answer
  alike_loaded room = rw alike_answer refl

  -- and it leaves the same memory
  pub alike_memory : (mem : List ℕ) → load_memory o m t mem ≡ load_memory p m u mem
  unfolding load_memory
  alike_memory mem = rw (alike_loaded (length mem), by_bare (store_all m mem) (store_bare m mem) (reading o t).sections (reading p u).sections sections) refl

-- ---- so do tables that differ in pad bytes alone

module _ (o : ByteOrder) (m t u : List ℕ) (d : DifferInPads o t u) where
  pub pads_judged : judge_answer o m t ≡ judge_answer o m u
  pads_judged = alike_judged o o m t u (pads_form o t u d) (pads_entry o t u d) (pads_sections o t u d)

  pub pads_loaded : (room : ℕ) → load_answer o m t room ≡ load_answer o m u room
  pads_loaded = alike_loaded o o m t u (pads_form o t u d) (pads_entry o t u d) (pads_sections o t u d)

  pub pads_memory : (mem : List ℕ) → load_memory o m t mem ≡ load_memory o m u mem
  pads_memory = alike_memory o o m t u (pads_form o t u d) (pads_entry o t u d) (pads_sections o t u d)
