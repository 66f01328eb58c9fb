-- Laws of the text of a table: how long it is, and what listing leaves in a buffer.
use Prim.Native.Nat.{ℕ, ◌+◌, ◌*◌, ◌≤◌, ◌<◌}
use mathlib.Core.Path.{◌≡◌, refl, sym, ap, ◌∙◌}
use mathlib.Core.List.{List, [], ◌∷◌, ◌++◌}
use mathlib.Core.Logic.{by_cases}
use native.Mathlib.Nat.{zero-add}
use native.Mathlib.Omega.{arith}
use native.Mathlib.Decide.{dec_le, ℕ_discrete}
use borrow.Author.Tests.{eq-eqb, ne_eqb, lt-ltb, le-ltb, ltb-false}
use lib.ListN.{length, take, drop, length-append}
use lib.Seq.{take_at, drop_at}
use lib.Dec.{ltb}
use Rattle.words.specs.declared.ByteOrder.{ByteOrder}
use Rattle.words.proofs.ChoiceLaws.{if_cases}
use Rattle.words.proofs.RunLaws.{over_front}
use Rattle.boot_table.specs.Table.{Section, End, entry_of, Sect, reading, read_on, step_at, section_at, before}
use Rattle.boot_table.specs.Form.{Form, total, form_of, WellFormed}
use Rattle.boot_table.proofs.StepLaws.{section_of, length_body}
use Rattle.boot_table.proofs.ReadLaws.{read_section, read_end}
use Rattle.boot_table.proofs.FormLaws.{form_well, well_form, well_few, well_sections, form_placed}
use Rattle.listing.specs.Text.{hex_text, decimal_text}
use Rattle.listing.specs.Listing.{entry_line, section_line, end_line, refused_line, too_long, section_lines, list_limit, text, text_bound, list_length, list_output}
use Rattle.listing.proofs.TextLaws.{Put, decimal_few}

-- ---- the lengths of the lines

pub length_entry : (entry : ℕ) → length (entry_line entry) ≡ 15
unfolding entry_line hex_text
length_entry entry = refl

pub length_section : (address size : ℕ) → length (section_line address size) ≡ 18 + length (decimal_text size)
unfolding section_line hex_text
length_section address size = simp length-append (omega arith)

pub length_end : (sections bytes : ℕ) → length (end_line sections bytes) ≡ 6 + length (decimal_text sections) + length (decimal_text bytes)
unfolding end_line
length_end sections bytes = simp length-append (omega arith)

pub length_refused : (number place : ℕ) → length (refused_line number place) ≡ 13 + length (decimal_text number) + length (decimal_text place)
unfolding refused_line
length_refused number place = simp length-append (omega arith)

-- sections of fewer than 100,000 data bytes have lines of at most 23 bytes
lines_few : (ss : List Sect) → total ss < 100000 → length (section_lines ss) ≤ 23 * length ss
unfolding section_lines total
lines_few [] h = omega arith
lines_few (s ∷ ss) h =
    simp length-append
    (omega (arith, length_section s.address (length s.body), decimal_few 5 (length s.body) (omega arith) (omega arith), lines_few ss (omega arith)))

-- ---- the lines of the sections from an offset on

module _ (o : ByteOrder) (t : List ℕ) (at : ℕ) where
  -- the line of a section, and then those from the next offset on
  pub lines_section : {address size start next : ℕ} → step_at o t at ≡ Section address size start next
      → section_lines (read_on o t at).sections ≡ section_line address size ++ section_lines (read_on o t next).sections
  unfolding section_lines before section_at
  lines_section {address} {size} {start} {next} e =
      rw (read_section o t at e)
      (ap (λ (n : ℕ). section_line address n ++ section_lines (read_on o t next).sections) (length_body o t at (section_of o t at e)))

  -- none at the end
  pub lines_end : step_at o t at ≡ End → section_lines (read_on o t at).sections ≡ []
  unfolding section_lines
  lines_end e = rw (read_end o t at e)

-- ---- the text and its bound, by the tests that lead there

-- how long a buffer has to be, by the length of the table
pub bound_long : (t : List ℕ) → list_limit < length t → text_bound t ≡ 9
unfolding text_bound
bound_long t h = simp (lt-ltb _ _ h)

pub bound_within : (t : List ℕ) → length t ≤ list_limit → text_bound t ≡ 32 + 2 * length t
unfolding text_bound
bound_within t h = simp (le-ltb _ _ h)

module _ (o : ByteOrder) (t : List ℕ) where
  -- a table over the limit
  pub text_long : list_limit < length t → text o t ≡ too_long
  unfolding text
  text_long h = simp (lt-ltb _ _ h)

  module _ (h : length t ≤ list_limit) where
    module _ (f : Form) (e : f ≡ form_of o t) where
      -- a table that is refused
      pub text_refused : (f.number ≡ 0 → ⊥) → text o t ≡ refused_line f.number f.place
      unfolding text
      text_refused n = rw (← e) (simp (le-ltb _ _ h, ne_eqb _ _ n))

      -- its number has one digit, and its place at most five
      pub refused_few : length (decimal_text f.number) + length (decimal_text f.place) ≤ 6
      refused_few =
          let p : (f.number ≤ 8) × (f.place ≤ length t) = rw e (form_placed o t) in
          omega (arith, decimal_few 1 f.number (omega arith) (omega arith), decimal_few 5 f.place (omega arith) (omega arith))

      -- a table that is listed is well-formed
      pub listed_well : f.number ≡ 0 → WellFormed o t
      listed_well z = form_well o t (ap (λ (x : Form). x.number) (sym e) ∙ z)

      pub text_listed : f.number ≡ 0 → text o t ≡ entry_line (entry_of o t) ++ section_lines (reading o t).sections ++ end_line f.sections f.bytes
      unfolding text
      text_listed z =
          let n : (form_of o t).number ≡ 0 = ap (λ (x : Form). x.number) (sym e) ∙ z in
          rw (e ∙ well_form o t (listed_well z)) (simp (le-ltb _ _ h, eq-eqb _ _ n))

      -- its lines have at most 15 bytes more than twice the table
      pub listed_room : f.number ≡ 0
          → 21 + length (section_lines (reading o t).sections) + length (decimal_text f.sections) + length (decimal_text f.bytes) ≤ 15 + 2 * length t
      listed_room z =
          let w = listed_well z in
          let ss = (reading o t).sections in
          let g = e ∙ well_form o t w in
          let i : f.sections ≡ length ss = ap (λ (x : Form). x.sections) g in
          let j : f.bytes ≡ total ss = ap (λ (x : Form). x.bytes) g in
          let few = well_few o t w in
          omega (
            arith,
            well_sections o t w,
            lines_few ss (omega arith),
            decimal_few 5 f.sections (omega arith) (omega arith),
            decimal_few 5 f.bytes (omega arith) (omega arith),
          )

      listed_few : f.number ≡ 0 → length (text o t) ≤ 32 + 2 * length t
      listed_few z = rw (text_listed z) (simp length-append (omega (arith, length_entry (entry_of o t), length_end f.sections f.bytes, listed_room z)))

-- the text is no longer than its bound
pub text_bound_lem : (o : ByteOrder) (t : List ℕ) → length (text o t) ≤ text_bound t
text_bound_lem o t =
    by_cases (dec_le (length t) list_limit)
    (λ h. rw (bound_within t h) (by_cases (ℕ_discrete (form_of o t).number 0)
    (listed_few o t h _ refl)
    (λ n. rw (text_refused o t h _ refl n, length_refused) (omega (arith, refused_few o t h _ refl)))))
    (λ h. let k : list_limit < length t = omega arith in rw (text_long o t k, bound_long t k) (omega arith))

-- it is never empty
pub text_some : (o : ByteOrder) (t : List ℕ) → 1 ≤ length (text o t)
text_some o t =
    by_cases (dec_le (length t) list_limit)
    (λ h. by_cases (ℕ_discrete (form_of o t).number 0)
    (λ z. rw (text_listed o t h _ refl z) (simp length-append (omega (arith, length_entry (entry_of o t)))))
    (λ n. rw (text_refused o t h _ refl n) (omega (arith, length_refused (form_of o t).number (form_of o t).place))))
    (λ h. rw (text_long o t (omega arith)) (omega arith))

-- ---- what listing answers and leaves

-- the answer n and the buffer b are those of listing t into out
abbrev pub Answered : ByteOrder → List ℕ → List ℕ → ℕ → List ℕ → Type 0
Answered o t out n b = record { value : n ≡ list_length o t (length out); buffer_after : b ≡ list_output o t out }

module _ (o : ByteOrder) (t out : List ℕ) where
  -- a buffer that is too short is left as it was
  pub list_none : length out < text_bound t → Answered o t out 0 out
  unfolding list_length list_output
  list_none h = record { value = simp (lt-ltb _ _ h); buffer_after = simp (lt-ltb _ _ h) }

  -- any other gets the text at its front
  pub list_put : text_bound t ≤ length out → (to : ℕ) (b : List ℕ) → Put out 0 (text o t) to b → Answered o t out to b
  unfolding list_length list_output
  list_put h to b p = record { value = p.value ∙ simp (zero-add, le-ltb _ _ h); buffer_after = p.buffer_after ∙ simp (le-ltb _ _ h) }

  pub list_kept : length out < text_bound t → list_output o t out ≡ out
  list_kept h = sym (list_none h).buffer_after

  module _ (h : text_bound t ≤ length out) where
    -- the answer is the length of the text
    pub list_length_lem : list_length o t (length out) ≡ length (text o t)
    unfolding list_length
    list_length_lem = simp (le-ltb _ _ h)

    list_is : list_output o t out ≡ text o t ++ drop (length (text o t)) out
    unfolding list_output
    list_is = simp (le-ltb _ _ h) (over_front out (text o t))

    -- the text stands at the front
    pub list_front : take (list_length o t (length out)) (list_output o t out) ≡ text o t
    list_front = rw (list_length_lem, list_is) (take_at (text o t) _ (length (text o t)) refl)

    -- the bytes past it are as they were
    pub list_rest : drop (list_length o t (length out)) (list_output o t out) ≡ drop (list_length o t (length out)) out
    list_rest = rw (list_length_lem, list_is) (drop_at (text o t) _ (length (text o t)) refl)

-- the answer is within the buffer
pub list_within : (o : ByteOrder) (t : List ℕ) (room n : ℕ) → n ≡ list_length o t room → n ≤ room
unfolding list_length
list_within o t room n e =
    rw e (if_cases (λ (k : ℕ). k ≤ room) (ltb room (text_bound t)) _ _ (λ f. omega arith) (λ f. omega (arith, ltb-false room (text_bound t) f, text_bound_lem o t)))

-- a buffer of 131,104 bytes is enough for any table
pub bound_most : (t : List ℕ) → text_bound t ≤ 131104
bound_most t =
    by_cases (dec_le (length t) list_limit) (λ h. omega (arith, bound_within t h)) (λ h. omega (arith, bound_long t (omega arith)))
