-- What judging and loading answer, by the tests that lead to each answer.
use mathlib.Core.Path.{◌≡◌, refl, sym, ◌∙◌, ap}
use mathlib.Core.Logic.{◌⊎◌, inl, inr, by_cases}
use mathlib.Core.List.{List, []}
use mathlib.Core.Bool.{Bool}
use Prim.Native.Nat.{ℕ}
use native.Mathlib.Decide.{ℕ_discrete}
use native.Mathlib.Omega.{arith}
use borrow.Author.Tests.{eq-eqb, ne_eqb}
use lib.ListN.{length}
use Rattle.words.specs.declared.ByteOrder.{ByteOrder}
use Rattle.words.specs.Refusal.{memory_length_number, stored_twice_number}
use Rattle.region_map.specs.Map.{MapAnswer, map_answer, memory_size, is_open}
use Rattle.region_map.proofs.FaultLaws.{answer_sound, sound_answer}
use Rattle.boot_table.specs.Table.{entry_of, reading}
use Rattle.boot_table.specs.Form.{Form, total, formed, form_of, WellFormed}
use Rattle.boot_table.proofs.FormLaws.{form_well, well_form}
use Rattle.boot_table.specs.Valid.{All}
use Rattle.one_write.specs.Once.{repeat_from, first_repeat, StoresOnce}
use Rattle.one_write.proofs.OnceLaws.{nowhere_iff}
use Rattle.loader.specs.Store.{store_all}
use Rattle.words.specs.declared.refusal.Refusal.{Refusal}
use Rattle.words.proofs.RefusalLaws.{same_refusal, number_some}
use Rattle.loader.specs.declared.Summary.{Summary}
use Rattle.loader.specs.Judging.{once_result}
use Rattle.loader.specs.Load.{answer_of, Answer, refused, accepted, on_repeat, once_answer, map_rule, form_first, open_answer, table_answer, judge_answer, load_answer, load_memory, Opens}
use Rattle.loader.proofs.RuleLaws.{same_number, opens_rule, rule_opens, rule_refused}
use Rattle.std.specs.Prelude.{⊤, Result, Ok, Err, Option, None, Some}

-- ---- the form goes first, by its number

module _ (o : ByteOrder) (t : List ℕ) (later : Answer) (f : Form) (e : f ≡ form_of o t) where
  pub first_refused : (f.number ≡ 0 → ⊥) → refused f.number f.place ≡ form_first o t later
  unfolding form_first
  first_refused n = rw (← e) (simp (ne_eqb _ _ n))

  pub first_later : f.number ≡ 0 → later ≡ form_first o t later
  unfolding form_first
  first_later z = rw (← e) (simp (eq-eqb _ _ z))

-- ---- each answer, by the tests that lead to it: j is the map's, f the table's form

module _ (o : ByteOrder) (m t : List ℕ) where
  pub map_refused : (j : MapAnswer) → j ≡ map_answer m → (j.number ≡ 0 → ⊥) → refused j.number j.place ≡ judge_answer o m t
  unfolding judge_answer
  map_refused j e n = rw (← e) (simp (ne_eqb _ _ n))

  pub map_judged : (j : MapAnswer) → j ≡ map_answer m → j.number ≡ 0 → table_answer o m t ≡ judge_answer o m t
  unfolding judge_answer
  map_judged j e z = rw (← e) (simp (eq-eqb _ _ z))

  pub form_refused : (f : Form) → f ≡ form_of o t → (f.number ≡ 0 → ⊥) → refused f.number f.place ≡ table_answer o m t
  unfolding table_answer
  form_refused f e n = first_refused o t _ f e n

  pub form_judged : (f : Form) → f ≡ form_of o t → f.number ≡ 0 → map_rule m (once_answer o m t) 4 (reading o t).sections ≡ table_answer o m t
  unfolding table_answer
  form_judged f e z = first_later o t (map_rule m (once_answer o m t) 4 (reading o t).sections) f e z

  -- the same without the rule of one write
  pub open_refused : (f : Form) → f ≡ form_of o t → (f.number ≡ 0 → ⊥) → refused f.number f.place ≡ open_answer o m t
  unfolding open_answer
  open_refused f e n = first_refused o t _ f e n

  pub open_judged : (f : Form) → f ≡ form_of o t → f.number ≡ 0 → map_rule m (accepted o m t) 4 (reading o t).sections ≡ open_answer o m t
  unfolding open_answer
  open_judged f e z = first_later o t (map_rule m (accepted o m t) 4 (reading o t).sections) f e z

  module _ (room : ℕ) (j : MapAnswer) (e : j ≡ map_answer m) where
    pub load_refused : (j.number ≡ 0 → ⊥) → refused j.number j.place ≡ load_answer o m t room
    unfolding load_answer
    load_refused n = rw (← e) (simp (ne_eqb _ _ n))

    pub load_sized : j.number ≡ 0 → (room ≡ memory_size m → ⊥) → refused memory_length_number 0 ≡ load_answer o m t room
    unfolding load_answer
    load_sized z n = rw (← e) (simp (eq-eqb _ _ z, ne_eqb _ _ n))

    pub load_judged : j.number ≡ 0 → room ≡ memory_size m → table_answer o m t ≡ load_answer o m t room
    unfolding load_answer
    load_judged z s = rw (← e) (simp (eq-eqb _ _ z, eq-eqb _ _ s))

-- ---- memory, by the answer r

module _ (o : ByteOrder) (m t mem : List ℕ) (r : Answer) (e : r ≡ load_answer o m t (length mem)) where
  pub memory_kept : (r.number ≡ 0 → ⊥) → mem ≡ load_memory o m t mem
  unfolding load_memory
  memory_kept n = rw (← e) (simp (ne_eqb _ _ n))

  pub memory_stored : r.number ≡ 0 → store_all m mem (reading o t).sections ≡ load_memory o m t mem
  unfolding load_memory
  memory_stored z = rw (← e) (simp (eq-eqb _ _ z))

-- ---- the parts of an answer

-- the bytes of a sound map's answer
pub answer_bytes : (m : List ℕ) (j : MapAnswer) → j ≡ map_answer m → j.number ≡ 0 → j.bytes ≡ memory_size m
answer_bytes m j e z =
    ap (λ (r : MapAnswer). r.bytes) (e ∙ sound_answer m (answer_sound m (ap (λ (r : MapAnswer). r.number) (sym e) ∙ z)))

-- a form without a fault is a well-formed table's
pub form_formed : (o : ByteOrder) (t : List ℕ) (f : Form) → f ≡ form_of o t → f.number ≡ 0 → WellFormed o t
form_formed o t f e z = form_well o t (ap (λ (r : Form). r.number) (sym e) ∙ z)

-- the answer that is put together from the entry and the counts
pub fine_is : (o : ByteOrder) (m t : List ℕ) (sections bytes entry : ℕ) (opens : Bool) → form_of o t ≡ formed sections bytes → entry ≡ entry_of o t → opens ≡ is_open m entry
    → record { number = 0; place = 0; address = 0; entry = entry; entry_open = opens; sections = sections; bytes = bytes } ≡ accepted o m t
unfolding accepted
fine_is o m t sections bytes entry opens e p q =
    let f : formed sections bytes ≡ formed (length (reading o t).sections) (total (reading o t).sections) = sym e ∙ well_form o t (form_formed o t (formed sections bytes) (sym e) refl) in
    rw (q, p, ap (λ (r : Form). r.sections) f, ap (λ (r : Form). r.bytes) f)

-- ---- acceptance

-- what a well-formed table is answered: the map rule, and then the rule of one write
pub well_judged : (o : ByteOrder) (m t : List ℕ) → WellFormed o t → map_rule m (once_answer o m t) 4 (reading o t).sections ≡ table_answer o m t
well_judged o m t w = form_judged o m t (form_of o t) refl (ap (λ (f : Form). f.number) (well_form o t w))

-- a table that keeps the map rule is accepted exactly where it stores no address of kind 3 twice
pub once_only : (o : ByteOrder) (m t : List ℕ) → (once_answer o m t).number ≡ 0 → StoresOnce m (reading o t).sections
unfolding once_answer first_repeat
once_only o m t z = (nowhere_iff m 4 (reading o t).sections).0 (go (repeat_from m 4 [] (reading o t).sections) z)
  where
    go : (r : Option ℕ) → (on_repeat (accepted o m t) r).number ≡ 0 → r ≡ None
    go None e = refl
    go (Some at) e = absurd (omega arith)

pub once_if : (o : ByteOrder) (m t : List ℕ) → StoresOnce m (reading o t).sections → once_answer o m t ≡ accepted o m t
unfolding once_answer first_repeat
once_if o m t k = ap (on_repeat (accepted o m t)) ((nowhere_iff m 4 (reading o t).sections).1 k)

-- and else refused with 29
pub once_number : (o : ByteOrder) (m t : List ℕ) → ((once_answer o m t).number ≡ 0) ⊎ ((once_answer o m t).number ≡ stored_twice_number)
unfolding once_answer accepted
once_number o m t = go (first_repeat o m t)
  where
    go : (r : Option ℕ) → ((on_repeat (accepted o m t) r).number ≡ 0) ⊎ ((on_repeat (accepted o m t) r).number ≡ stored_twice_number)
    go None = inl refl
    go (Some at) = inr refl

-- under a sound map a table is accepted exactly where it is well-formed, keeps the map rule, and stores no address of kind 3 twice
pub table_only : (o : ByteOrder) (m t : List ℕ) → (table_answer o m t).number ≡ 0
    → (WellFormed o t) × (All (Opens m) (reading o t).sections) × (StoresOnce m (reading o t).sections)
table_only o m t z =
    by_cases (ℕ_discrete (form_of o t).number 0)
    (λ f.
    let rule = same_number (form_judged o m t (form_of o t) refl f) ∙ z in
    let opens = rule_opens m (once_answer o m t) 4 (reading o t).sections rule in
    (form_well o t f, opens, once_only o m t (same_number (sym (opens_rule m (once_answer o m t) 4 opens)) ∙ rule)))
    (λ n. absurd (n (same_number (form_refused o m t (form_of o t) refl n) ∙ z)))

pub table_if : (o : ByteOrder) (m t : List ℕ) → WellFormed o t → All (Opens m) (reading o t).sections → StoresOnce m (reading o t).sections
    → table_answer o m t ≡ accepted o m t
table_if o m t w opens once =
    sym (well_judged o m t w)
    ∙ opens_rule m (once_answer o m t) 4 opens
    ∙ once_if o m t once

-- ---- one write, after the form and the map rule: r is the answer for these

module _ (o : ByteOrder) (m t : List ℕ) (r : Answer) (e : r ≡ open_answer o m t) where
  -- a refusal stays
  pub once_refused : (r.number ≡ 0 → ⊥) → r ≡ table_answer o m t
  unfolding accepted
  once_refused n =
      e
      ∙ by_cases (ℕ_discrete (form_of o t).number 0)
      (λ f.
      let rule = open_judged o m t (form_of o t) refl f in
      sym rule
      ∙ rule_refused m 4 (reading o t).sections (accepted o m t) (once_answer o m t) refl
      (λ z. n (same_number (e ∙ sym rule) ∙ z))
      ∙ form_judged o m t (form_of o t) refl f)
      (λ f. sym (open_refused o m t (form_of o t) refl f) ∙ form_refused o m t (form_of o t) refl f)

  -- a table that is not refused so far is well-formed and keeps the map rule
  module _ (z : r.number ≡ 0) where
    pub once_formed : WellFormed o t
    once_formed =
        by_cases (ℕ_discrete (form_of o t).number 0) (form_well o t)
        (λ n. absurd (n (same_number (open_refused o m t (form_of o t) refl n ∙ sym e) ∙ z)))

    form_zero : (form_of o t).number ≡ 0
    form_zero = ap (λ (f : Form). f.number) (well_form o t once_formed)

    opens : All (Opens m) (reading o t).sections
    opens =
        rule_opens m (accepted o m t) 4 (reading o t).sections
        (same_number (open_judged o m t (form_of o t) refl form_zero ∙ sym e) ∙ z)

    -- and its sections decide
    pub once_judged : on_repeat r (first_repeat o m t) ≡ table_answer o m t
    unfolding once_answer
    once_judged =
        ap (λ (a : Answer). on_repeat a (first_repeat o m t))
        (e ∙ sym (open_judged o m t (form_of o t) refl form_zero) ∙ opens_rule m (accepted o m t) 4 opens)
        ∙ sym (opens_rule m (once_answer o m t) 4 opens)
        ∙ form_judged o m t (form_of o t) refl form_zero

-- ---- the rule of one write, as the code answers it

-- a later answer, or the refusal before it
abbrev pub told : Answer → Result ⊤ Refusal → Answer
told later (Ok u) = later
told later (Err refusal) = answer_of (Err refusal)

pub once_told : (later : Answer) (f : Option ℕ) → told later (once_result f) ≡ on_repeat later f
once_told later None = refl
once_told later (Some at) = refl

-- ---- the numbers tell the answer

-- answers of the code that come to the same numbers are the same
pub answer_inj : (a b : Result Summary Refusal) → answer_of a ≡ answer_of b → a ≡ b
answer_inj (Ok s) (Ok t) e = ap Ok (ap (λ (r : Answer). record { entry = r.entry; entry_open = r.entry_open; sections = r.sections; bytes = r.bytes }) e)
answer_inj (Ok s) (Err r) e = absurd (number_some r (sym (ap (λ (r : Answer). r.number) e)))
answer_inj (Err q) (Ok t) e = absurd (number_some q (ap (λ (r : Answer). r.number) e))
answer_inj (Err q) (Err r) e =
    ap Err (same_refusal q r (ap (λ (r : Answer). r.number) e) (ap (λ (r : Answer). r.place) e) (ap (λ (r : Answer). r.address) e))
