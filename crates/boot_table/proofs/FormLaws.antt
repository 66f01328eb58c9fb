-- The form of a table: as a walk over its steps finds it, and what a well-formed table is.
use Prim.Native.Nat.{ℕ, suc, ◌+◌, ◌*◌, ◌≤◌, ◌<◌}
use mathlib.Core.Path.{◌≡◌, sym, ap, ◌∙◌}
use mathlib.Core.List.{List, [], ◌∷◌, ◌++◌}
use mathlib.Core.Logic.{by_cases}
use native.Mathlib.Nat.{zero-add, add-zero}
use native.Mathlib.Omega.{arith}
use native.Mathlib.Decide.{dec_le, ℕ_discrete}
use borrow.Author.Tests.{eq-eqb, ne_eqb, lt-ltb, le-ltb, ltb-false}
use lib.ListN.{length}
use lib.Dec.{ltb, eqb}
use Rattle.words.specs.declared.ByteOrder.{ByteOrder}
use Rattle.words.specs.Refusal.{table_long_number, table_cut_number}
use Rattle.words.proofs.ChoiceLaws.{if_cases}
use Rattle.words.proofs.WordLaws.{pad_aligns}
use Rattle.boot_table.specs.Table.{Section, End, Fault, Sect, Reading, step_at, section_at, before, read_on, reading}
use Rattle.boot_table.specs.Form.{Form, table_limit, total, misformed, formed, read_form, form_of, WellFormed}
use Rattle.boot_table.specs.Walk.{tally}
use Rattle.boot_table.proofs.StepLaws.{section_of, end_of, length_body, fault_number}
use Rattle.boot_table.proofs.ReadLaws.{read_section, read_end, read_fault, read_placed, read_room, read_begins, whole_ind}

-- ---- the walk

-- a section more was passed
tally_before : (k b : ℕ) (s : Sect) (r : Reading) → tally k b (before s r) ≡ tally (k + 1) (b + length s.body) r
unfolding tally before total
tally_before k b s r =
    let e1 : k + suc (length r.sections) ≡ k + 1 + length r.sections = omega arith in
    let e2 : b + (length s.body + total r.sections) ≡ b + length s.body + total r.sections = omega arith in
    rw (e1, e2)

module _ (o : ByteOrder) (t : List ℕ) where
  -- a table over the limit
  pub form_long : table_limit < length t → form_of o t ≡ misformed table_long_number 0
  unfolding form_of
  form_long h = simp (lt-ltb _ _ h)

  -- a table without its entry word
  pub form_cut : length t ≤ table_limit → length t < 4 → form_of o t ≡ misformed table_cut_number 0
  unfolding form_of reading read_form
  form_cut h k = simp (le-ltb _ _ h, lt-ltb _ _ k)

  -- the walk begins behind the entry word with nothing passed
  pub form_start : length t ≤ table_limit → 4 ≤ length t → form_of o t ≡ tally 0 0 (read_on o t 4)
  unfolding form_of reading read_form tally
  form_start h k = simp (le-ltb _ _ h, le-ltb _ _ k, zero-add)

  module _ (k b at : ℕ) where
    -- a section is passed
    pub form_section : {address size start next : ℕ} → step_at o t at ≡ Section address size start next → tally k b (read_on o t at) ≡ tally (k + 1) (b + size) (read_on o t next)
    form_section {address} {size} {start} {next} e =
        ap (tally k b) (read_section o t at e)
        ∙ tally_before k b (section_at t at address size) (read_on o t next)
        ∙ ap (λ (m : ℕ). tally (k + 1) (b + m) (read_on o t next)) (length_body o t at (section_of o t at e))

    -- at the end what was passed is the form
    pub form_end : step_at o t at ≡ End → tally k b (read_on o t at) ≡ formed k b
    unfolding tally total
    form_end e = ap (tally k b) (read_end o t at e) ∙ simp add-zero

    -- a fault is the form
    pub form_fault : {number place : ℕ} → step_at o t at ≡ Fault number place → tally k b (read_on o t at) ≡ misformed number place
    unfolding tally
    form_fault {number} {place} e = ap (tally k b) (read_fault o t at e) ∙ simp (ne_eqb _ _ (fault_number o t at e))

-- ---- well-formed tables

not_zero : {n : ℕ} → suc n ≡ 0 → ⊥
not_zero e = omega arith

-- a table of number 0 is well-formed
pub form_well : (o : ByteOrder) (t : List ℕ) → (form_of o t).number ≡ 0 → WellFormed o t
unfolding form_of read_form
form_well o t z =
    by_cases (dec_le (length t) table_limit)
    (λ h. by_cases (ℕ_discrete (reading o t).fault 0)
    (λ f. record { short = h; whole = f })
    (λ f. absurd (f (simp (le-ltb _ _ h, ne_eqb _ _ f) at z))))
    (λ h. absurd (not_zero (simp (lt-ltb table_limit (length t) (omega arith)) at z)))

-- the form of a well-formed table counts its sections and their data bytes
pub well_form : (o : ByteOrder) (t : List ℕ) → WellFormed o t → form_of o t ≡ formed (length (reading o t).sections) (total (reading o t).sections)
unfolding form_of read_form
well_form o t w = simp (le-ltb _ _ w.short, eq-eqb _ _ w.whole)

-- a well-formed table is read from offset 4 on, without a fault
pub well_read : (o : ByteOrder) (t : List ℕ) → WellFormed o t → (reading o t ≡ read_on o t 4) × ((read_on o t 4).fault ≡ 0)
unfolding reading
well_read o t w =
    by_cases (dec_le 4 (length t))
    (λ h. let e = read_begins o t h in (e, ap (λ (r : Reading). r.fault) (sym e) ∙ w.whole))
    (λ h. absurd (not_zero (simp (lt-ltb (length t) 4 (omega arith)) at w.whole)))

-- a well-formed table has its entry and its zero word
pub well_long : (o : ByteOrder) (t : List ℕ) → WellFormed o t → 8 ≤ length t
well_long o t w = read_room o t 4 (well_read o t w).1

-- and no more sections and data bytes than bytes
pub well_few : (o : ByteOrder) (t : List ℕ) → WellFormed o t → length (reading o t).sections + total (reading o t).sections ≤ length t
unfolding before total
well_few o t w =
    let r = well_read o t w in
    let few : 4 + (length (read_on o t 4).sections + total (read_on o t 4).sections) ≤ length t =
    whole_ind o t (λ (at : ℕ). at + (length (read_on o t at).sections + total (read_on o t at).sections) ≤ length t)
    (λ at e. rw (read_end o t at e) (omega (arith, end_of o t at e)))
    (λ at address size start next e g on.
    let i = section_of o t at e in
    rw (read_section o t at e) (omega (arith, i.next_is, length_body o t at i))) 4 r.1 in
    rw r.0 (omega arith)

-- each section takes at least 12 bytes
pub well_sections : (o : ByteOrder) (t : List ℕ) → WellFormed o t → 8 + 12 * length (reading o t).sections ≤ length t
unfolding before
well_sections o t w =
    let r = well_read o t w in
    let few : 8 + 12 * length (read_on o t 4).sections ≤ length t =
    whole_ind o t (λ (at : ℕ). at + 4 + 12 * length (read_on o t at).sections ≤ length t)
    (λ at e. rw (read_end o t at e) (omega (arith, end_of o t at e)))
    (λ at address size start next e g on.
    let i = section_of o t at e in
    rw (read_section o t at e) (omega (arith, i.next_is, i.some, pad_aligns size))) 4 r.1 in
    rw r.0 few

-- a table's number is at most 8, and its place within the table
pub form_placed : (o : ByteOrder) (t : List ℕ) → ((form_of o t).number ≤ 8) × ((form_of o t).place ≤ length t)
unfolding form_of read_form reading
form_placed o t =
    if_cases placed (ltb table_limit (length t)) _ _ (λ e. (omega arith, omega arith))
    (λ e. if_cases placed (eqb (reading o t).fault 0) _ _ (λ f. (omega arith, omega arith))
    (λ f. if_cases (λ (r : Reading). (r.fault ≤ 8) × (r.place ≤ length t)) (ltb (length t) 4) _ _ (λ g. (omega arith, omega arith))
    (λ g. read_placed o t 4 (ltb-false _ _ g))))
  where
    placed : Form → Type 0
    placed f = (f.number ≤ 8) × (f.place ≤ length t)

-- data bytes of sections in turn are summed
pub total_append : (xs ys : List Sect) → total (xs ++ ys) ≡ total xs + total ys
unfolding total
total_append [] ys = sym (zero-add (total ys))
total_append (x ∷ xs) ys = rw (total_append xs ys) (omega arith)
