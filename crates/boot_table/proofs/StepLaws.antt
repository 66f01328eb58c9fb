-- The walk step: what each outcome says of the table, and when it comes out.
use Prim.Native.Nat.{ℕ, ◌+◌, ◌^◌, ◌≤◌, ◌<◌}
use mathlib.Core.Path.{◌≡◌, refl, sym, ap, ◌∙◌, subst}
use mathlib.Core.List.{List}
use native.Mathlib.Omega.{arith}
use borrow.Author.Tests.{eq-eqb, ne_eqb, lt-ltb, le-ltb, ltb-true, ltb-false, eqb-true, eqb-false}
use lib.ListN.{length, take, drop, length-drop}
use lib.Seq.{length-take-le}
use lib.Dec.{ltb, eqb}
use Rattle.std.specs.Prelude.{Option, Some, None, Ok}
use Rattle.words.specs.declared.ByteOrder.{ByteOrder}
use Rattle.words.specs.Word.{pad_count}
use Rattle.words.specs.Header.{header_at}
use Rattle.words.specs.Refusal.{table_cut_number, bytes_after_number, past_top_number}
use Rattle.words.proofs.ChoiceLaws.{if_split}
use Rattle.boot_table.specs.declared.Section.{Section as Found}
use Rattle.boot_table.specs.Table.{Step, Section, End, Fault, next_of, end_step, section_step, step_at, section_at, step_of}

-- ---- when a step comes out as a fault

-- no room for the size word
pub step_cut : (o : ByteOrder) (t : List ℕ) (at : ℕ) → length t < at + 4 → step_at o t at ≡ Fault table_cut_number at
unfolding step_at
step_cut o t at h = simp (lt-ltb _ _ h)

-- room for it: the step goes by the size
step_zero : (o : ByteOrder) (t : List ℕ) (at size : ℕ) → at + 4 ≤ length t → size ≡ header_at o t at → size ≡ 0 → step_at o t at ≡ end_step t at
unfolding step_at
step_zero o t at size head es z = rw (← es) (simp (le-ltb _ _ head, eq-eqb _ _ z))

step_some : (o : ByteOrder) (t : List ℕ) (at size : ℕ) → at + 4 ≤ length t → size ≡ header_at o t at → (size ≡ 0 → ⊥) → step_at o t at ≡ section_step t at size (header_at o t (at + 4))
unfolding step_at
step_some o t at size head es z = rw (← es) (simp (le-ltb _ _ head, ne_eqb _ _ z))

module _ (o : ByteOrder) (t : List ℕ) (at size : ℕ) (head : at + 4 ≤ length t) (es : size ≡ header_at o t at) where
  -- bytes after the zero word
  pub step_after : size ≡ 0 → at + 4 < length t → step_at o t at ≡ Fault bytes_after_number (at + 4)
  unfolding end_step
  step_after z h = step_zero o t at size head es z ∙ simp (lt-ltb _ _ h)

  -- no room for the section
  pub step_short : (size ≡ 0 → ⊥) → length t < next_of at size → step_at o t at ≡ Fault table_cut_number at
  unfolding section_step
  step_short z h = step_some o t at size head es z ∙ simp (lt-ltb _ _ h)

  module _ (address : ℕ) (z : size ≡ 0 → ⊥) (within : next_of at size ≤ length t) (ea : address ≡ header_at o t (at + 4)) where
    -- addresses past the top
    pub step_high : 2 ^ 32 < address + size → step_at o t at ≡ Fault past_top_number at
    unfolding section_step
    step_high h = step_some o t at size head es z ∙ rw (← ea) (simp (le-ltb _ _ within, lt-ltb _ _ h))

-- ---- what a step depends on

-- the length of the table and two header words, and no other byte
pub step_same : (o : ByteOrder) (t u : List ℕ) (at : ℕ) → length t ≡ length u → header_at o t at ≡ header_at o u at → header_at o t (at + 4) ≡ header_at o u (at + 4)
    → step_at o t at ≡ step_at o u at
unfolding step_at end_step section_step
step_same o t u at long size address = rw (long, size, address) refl

-- ---- sections and the end, as facts

-- the facts of a section at an offset
pub record IsSection (o : ByteOrder) (t : List ℕ) (at address size start next : ℕ) : Type 0 where
  pub start_is : start ≡ at + 8
  pub next_is : next ≡ at + 8 + size + pad_count size
  pub within : next ≤ length t
  pub some : 1 ≤ size
  pub head : at + 8 ≤ length t
  pub size_is : size ≡ header_at o t at
  pub address_is : address ≡ header_at o t (at + 4)
  pub top : address + size ≤ 2 ^ 32

-- the facts of a fault: a number from 1 to 8, and a place within the table; bytes after the zero word stand after a zero word
pub record IsFault (o : ByteOrder) (t : List ℕ) (at number place : ℕ) : Type 0 where
  pub least : 1 ≤ number
  pub most : number ≤ 8
  pub within : at ≤ length t → place ≤ length t
  pub after : number ≡ bytes_after_number → (at + 4 ≤ length t) × (header_at o t at ≡ 0)

-- where the facts of a section hold the step finds it
pub section_step_lem : (o : ByteOrder) (t : List ℕ) (at : ℕ) {address size start next : ℕ} → IsSection o t at address size start next → step_at o t at ≡ Section address size start next
unfolding section_step next_of
section_step_lem o t at {address} {size} i =
    step_some o t at size (omega (arith, i.head)) i.size_is (λ z. omega (arith, i.some))
    ∙ rw (← i.address_is, i.start_is, i.next_is)
    (simp (
      le-ltb (length t) (at + 8 + size + pad_count size) (omega (arith, i.within, i.next_is)),
      le-ltb (2 ^ 32) (address + size) i.top,
    ))

-- a zero word at the end of the table is its end
pub end_step_lem : (o : ByteOrder) (t : List ℕ) (at : ℕ) → length t ≡ at + 4 → header_at o t at ≡ 0 → step_at o t at ≡ End
unfolding end_step
end_step_lem o t at l z = step_zero o t at (header_at o t at) (omega arith) refl z ∙ simp (le-ltb (at + 4) (length t) (omega arith))

-- ---- what an outcome says of the table

-- the facts of each outcome
Says : ByteOrder → List ℕ → ℕ → Step → Type 0
Says o t at (Section address size start next) = IsSection o t at address size start next
Says o t at End = (length t ≡ at + 4) × (header_at o t at ≡ 0)
Says o t at (Fault number place) = IsFault o t at number place

section_says : (o : ByteOrder) (t : List ℕ) (at address size start next : ℕ) (s : Step) → IsSection o t at address size start next → Section address size start next ≡ s → Says o t at s
unfolding Says
section_says o t at address size start next s i e = subst (Says o t at) e i

end_says : (o : ByteOrder) (t : List ℕ) (at : ℕ) (s : Step) → length t ≡ at + 4 → header_at o t at ≡ 0 → End ≡ s → Says o t at s
unfolding Says
end_says o t at s l z e = subst (Says o t at) e (l, z)

fault_says : (o : ByteOrder) (t : List ℕ) (at number place : ℕ) (s : Step) → IsFault o t at number place → Fault number place ≡ s → Says o t at s
unfolding Says
fault_says o t at number place s h e = subst (Says o t at) e h

-- a step is followed down its tests
step_says : (o : ByteOrder) (t : List ℕ) (at : ℕ) (s : Step) → step_at o t at ≡ s → Says o t at s
unfolding step_at end_step section_step next_of
step_says o t at s e =
    if_split (ltb (length t) (at + 4)) _ _ s e
    (λ h1. fault_says o t at _ _ s (record { least = omega arith; most = omega arith; within = λ h. h; after = λ z. absurd (omega arith) }))
    (λ h1 e1. if_split (eqb (header_at o t at) 0) _ _ s e1
    (λ h2 e2. if_split (ltb (at + 4) (length t)) _ _ s e2
    (λ h3. fault_says o t at _ _ s (record {
      least = omega arith;
      most = omega arith;
      within = λ h. omega (arith, ltb-true (at + 4) (length t) h3);
      after = λ z. (ltb-false _ _ h1, eqb-true _ _ h2);
    }))
    (λ h3. end_says o t at s (omega (arith, ltb-false (length t) (at + 4) h1, ltb-false (at + 4) (length t) h3)) (eqb-true _ _ h2)))
    (λ h2 e2. if_split (ltb (length t) (next_of at (header_at o t at))) _ _ s e2
    (λ h3. fault_says o t at _ _ s (record { least = omega arith; most = omega arith; within = λ h. h; after = λ z. absurd (omega arith) }))
    (λ h3 e3. if_split (ltb (2 ^ 32) (header_at o t (at + 4) + header_at o t at)) _ _ s e3
    (λ h4. fault_says o t at _ _ s (record { least = omega arith; most = omega arith; within = λ h. h; after = λ z. absurd (omega arith) }))
    (λ h4. section_says o t at _ _ _ _ s (record {
      start_is = refl;
      next_is = refl;
      within = ltb-false _ _ h3;
      some = omega (arith, eqb-false (header_at o t at) 0 h2);
      head = omega (arith, ltb-false (length t) (at + 8 + header_at o t at + pad_count (header_at o t at)) h3);
      size_is = refl;
      address_is = refl;
      top = ltb-false _ _ h4;
    })))))

-- a section that the step finds has its facts
pub section_of : (o : ByteOrder) (t : List ℕ) (at : ℕ) {address size start next : ℕ} → step_at o t at ≡ Section address size start next → IsSection o t at address size start next
unfolding Says
section_of o t at {address} {size} {start} {next} e = step_says o t at (Section address size start next) e

-- the end is the end of the table, at a zero word
pub end_of : (o : ByteOrder) (t : List ℕ) (at : ℕ) → step_at o t at ≡ End → (length t ≡ at + 4) × (header_at o t at ≡ 0)
unfolding Says
end_of o t at e = step_says o t at End e

-- a fault that the step finds has its facts
pub fault_of : (o : ByteOrder) (t : List ℕ) (at : ℕ) {number place : ℕ} → step_at o t at ≡ Fault number place → IsFault o t at number place
unfolding Says
fault_of o t at {number} {place} e = step_says o t at (Fault number place) e

pub fault_number : (o : ByteOrder) (t : List ℕ) (at : ℕ) {number place : ℕ} → step_at o t at ≡ Fault number place → number ≡ 0 → ⊥
fault_number o t at e z = omega (arith, (fault_of o t at e).least)

-- neither a section nor a fault
pub end_left : (s : Step) → ((address size start next : ℕ) → s ≡ Section address size start next → ⊥) → ((number place : ℕ) → s ≡ Fault number place → ⊥) → s ≡ End
end_left (Section address size start next) p q = absurd (p address size start next refl)
end_left End p q = refl
end_left (Fault number place) p q = absurd (q number place refl)

-- ---- the step that the code answers

-- a section
pub section_found : (o : ByteOrder) (t : List ℕ) (at : ℕ) (r : Option Found) (s : Found) → step_of (Ok r) ≡ step_at o t at → r ≡ Some s → step_at o t at ≡ Section s.address s.size s.start s.next
section_found o t at r s e i = sym e ∙ ap (λ (r : Option Found). step_of (Ok r)) i

-- nothing: the end
pub end_found : (o : ByteOrder) (t : List ℕ) (at : ℕ) (r : Option Found) → step_of (Ok r) ≡ step_at o t at → r ≡ None → step_at o t at ≡ End
end_found o t at r e i = sym e ∙ ap (λ (r : Option Found). step_of (Ok r)) i

-- ---- the section itself

module _ (o : ByteOrder) (t : List ℕ) (at : ℕ) {address size start next : ℕ} (i : IsSection o t at address size start next) where
  -- its data stands at start
  pub body_is : (section_at t at address size).body ≡ take size (drop start t)
  unfolding section_at
  body_is = rw i.start_is

  -- it has as many data bytes as its size says
  pub length_body : length (section_at t at address size).body ≡ size
  unfolding section_at
  length_body = length-take-le size (drop (at + 8) t) (simp length-drop (omega (arith, i.next_is, i.within)))

  -- and as many pads as follow from its size
  pub length_pads : length (section_at t at address size).pads ≡ pad_count size
  unfolding section_at
  length_pads = length-take-le (pad_count size) (drop (at + 8 + size) t) (simp length-drop (omega (arith, i.next_is, i.within)))

  -- what stands next is right after it
  pub next_at : next_of at (length (section_at t at address size).body) ≡ next
  unfolding next_of
  next_at = rw length_body (sym i.next_is)
