-- Reading on from an offset: by the step that stands there, however many steps are allowed.
use Prim.Native.Nat.{ℕ, zero, suc, ◌+◌, ◌≤◌, ◌<◌}
use mathlib.Core.Path.{◌≡◌, refl, sym, ap, ◌∙◌}
use mathlib.Core.List.{List}
use mathlib.Core.Logic.{by_cases}
use native.Mathlib.Omega.{arith}
use native.Mathlib.Decide.{dec_le}
use borrow.Author.Tests.{le-ltb}
use lib.ListN.{length}
use Rattle.words.specs.declared.ByteOrder.{ByteOrder}
use Rattle.words.specs.Word.{pad_count}
use Rattle.words.specs.Header.{header_at}
use Rattle.words.specs.Refusal.{table_cut_number}
use Rattle.boot_table.specs.Table.{Step, Section, End, Fault, Reading, stop, step_at, section_at, before, on_step, read_from, read_on, reading}
use Rattle.boot_table.proofs.StepLaws.{IsSection, step_cut, section_of, end_of, fault_of, fault_number}

-- ---- how many steps are allowed does not matter where they are enough

-- two ways to read on that agree past this offset find the same here
same_step : (o : ByteOrder) (f g : ℕ → Reading) (t : List ℕ) (at : ℕ) (s : Step) → step_at o t at ≡ s
    → ((next : ℕ) → at < next → f next ≡ g next) → on_step f t at s ≡ on_step g t at s
unfolding on_step
same_step o f g t at (Section address size start next) e same =
    ap (before (section_at t at address size)) (same next (omega (arith, (section_of o t at e).next_is)))
same_step o f g t at End e same = refl
same_step o f g t at (Fault number place) e same = refl

enough : (o : ByteOrder) (n m : ℕ) (t : List ℕ) (at : ℕ) → length t ≤ at + n → length t ≤ at + m → read_from o n t at ≡ read_from o m t at
unfolding read_from on_step
enough o zero zero t at p q = refl
enough o zero (suc m) t at p q = sym (ap (on_step (read_from o m t) t at) (step_cut o t at (omega arith)))
enough o (suc n) zero t at p q = ap (on_step (read_from o n t) t at) (step_cut o t at (omega arith))
enough o (suc n) (suc m) t at p q = same_step o (read_from o n t) (read_from o m t) t at (step_at o t at) refl (λ next l. enough o n m t next (omega arith) (omega arith))

-- what is read is what the step finds, and then what is read from the next offset
read_step : (o : ByteOrder) (t : List ℕ) (at : ℕ) → read_on o t at ≡ on_step (read_on o t) t at (step_at o t at)
unfolding read_on read_from
read_step o t at = enough o (length t) (suc (length t)) t at (omega arith) (omega arith)

-- a fault that is read has a number up to 8, and a place within the table
Placed : List ℕ → Reading → Type 0
Placed t r = (r.fault ≤ 8) × (r.place ≤ length t)

step_placed : (o : ByteOrder) (f : ℕ → Reading) (t : List ℕ) (at : ℕ) (s : Step) → step_at o t at ≡ s → at ≤ length t
    → ((next : ℕ) → next ≤ length t → Placed t (f next)) → Placed t (on_step f t at s)
unfolding on_step before Placed
step_placed o f t at (Section address size start next) e h on = on next (section_of o t at e).within
step_placed o f t at End e h on = (omega arith, omega arith)
step_placed o f t at (Fault number place) e h on = let i = fault_of o t at e in (i.most, i.within h)

from_placed : (o : ByteOrder) (n : ℕ) (t : List ℕ) (at : ℕ) → at ≤ length t → Placed t (read_from o n t at)
unfolding read_from Placed
from_placed o zero t at h = (omega arith, h)
from_placed o (suc n) t at h = step_placed o (read_from o n t) t at (step_at o t at) refl h (from_placed o n t)

pub read_placed : (o : ByteOrder) (t : List ℕ) (at : ℕ) → at ≤ length t → ((read_on o t at).fault ≤ 8) × ((read_on o t at).place ≤ length t)
unfolding read_on Placed
read_placed o t at h = from_placed o (length t) t at h

-- ---- reading on, by what the step finds

module _ (o : ByteOrder) (t : List ℕ) (at : ℕ) where
  -- a section comes before what its next offset reads
  pub read_section : {address size start next : ℕ} → step_at o t at ≡ Section address size start next → read_on o t at ≡ before (section_at t at address size) (read_on o t next)
  unfolding on_step
  read_section e = read_step o t at ∙ ap (on_step (read_on o t) t at) e

  -- the end ends it without a fault
  pub read_end : step_at o t at ≡ End → read_on o t at ≡ stop 0 0
  unfolding on_step
  read_end e = read_step o t at ∙ ap (on_step (read_on o t) t at) e

  -- a fault ends it
  pub read_fault : {number place : ℕ} → step_at o t at ≡ Fault number place → read_on o t at ≡ stop number place
  unfolding on_step
  read_fault e = read_step o t at ∙ ap (on_step (read_on o t) t at) e

  -- ---- a table that reads without a fault from offset at

  -- the step finds none
  pub read_no_fault : {number place : ℕ} → step_at o t at ≡ Fault number place → (read_on o t at).fault ≡ 0 → ⊥
  read_no_fault e f = fault_number o t at e (sym (ap (λ (r : Reading). r.fault) (read_fault e)) ∙ f)

  -- a step that is no section is then the end
  pub read_else : (s : Step) → s ≡ step_at o t at → ((address size start next : ℕ) → s ≡ Section address size start next → ⊥) → (read_on o t at).fault ≡ 0 → step_at o t at ≡ End
  read_else (Section address size start next) e left f = absurd (left address size start next refl)
  read_else End e left f = sym e
  read_else (Fault number place) e left f = absurd (read_no_fault (sym e) f)

  -- the zero word has room
  pub read_room : (read_on o t at).fault ≡ 0 → at + 4 ≤ length t
  read_room f = by_cases (dec_le (at + 4) (length t)) (λ h. h) (λ n. absurd (read_no_fault (step_cut o t at (omega arith)) f))

  -- nor is there a fault at a section's next offset
  pub read_next : {address size start next : ℕ} → step_at o t at ≡ Section address size start next → (read_on o t at).fault ≡ 0 → (read_on o t next).fault ≡ 0
  unfolding before
  read_next e f = sym (ap (λ (r : Reading). r.fault) (read_section e)) ∙ f

  -- the size word alone tells a section from the end: where it is zero the end stands there
  pub whole_end : header_at o t at ≡ 0 → (read_on o t at).fault ≡ 0 → step_at o t at ≡ End
  whole_end z f = go (step_at o t at) refl
    where
      go : (s : Step) → step_at o t at ≡ s → s ≡ End
      go (Section address size start next) e = let i = section_of o t at e in absurd (omega (arith, i.some, i.size_is))
      go End e = refl
      go (Fault number place) e = absurd (read_no_fault e f)

  -- and where not, a section
  pub whole_section : (header_at o t at ≡ 0 → ⊥) → (read_on o t at).fault ≡ 0
      → IsSection o t at (header_at o t (at + 4)) (header_at o t at) (at + 8) (at + 8 + header_at o t at + pad_count (header_at o t at))
  whole_section n f = go (step_at o t at) refl
    where
      go : (s : Step) → step_at o t at ≡ s → IsSection o t at (header_at o t (at + 4)) (header_at o t at) (at + 8) (at + 8 + header_at o t at + pad_count (header_at o t at))
      go (Section address size start next) e =
          let i = section_of o t at e in
          rw (← i.address_is, ← i.size_is, ← i.next_is, ← i.start_is) i
      go End e = absurd (n (end_of o t at e).1)
      go (Fault number place) e = absurd (read_no_fault e f)

-- a table with its entry word is read from offset 4 on
pub read_begins : (o : ByteOrder) (t : List ℕ) → 4 ≤ length t → reading o t ≡ read_on o t 4
unfolding reading
read_begins o t h = simp (le-ltb _ _ h)

-- ---- induction over the steps

-- what holds at the end, at a fault, and at each section where it holds at the next offset, holds at every offset
module _ (o : ByteOrder) (t : List ℕ) (P : ℕ → Type 0)
    (end : (at : ℕ) → step_at o t at ≡ End → P at)
    (fault : (at number place : ℕ) → step_at o t at ≡ Fault number place → P at)
    (section : (at address size start next : ℕ) → step_at o t at ≡ Section address size start next → P next → P at) where
  step_on : (at : ℕ) (s : Step) → step_at o t at ≡ s → ((next : ℕ) → at < next → P next) → P at
  step_on at (Section address size start next) e on =
      section at address size start next e (on next (omega (arith, (section_of o t at e).next_is)))
  step_on at End e on = end at e
  step_on at (Fault number place) e on = fault at number place e

  step_in : (n at : ℕ) → length t ≤ at + n → P at
  step_in zero at h = fault at table_cut_number at (step_cut o t at (omega arith))
  step_in (suc n) at h = step_on at (step_at o t at) refl (λ next l. step_in n next (omega arith))

  pub step_ind : (at : ℕ) → P at
  step_ind at = step_in (length t) at (omega arith)

-- what holds at the end, and at each section where it holds at the next offset, holds where reading finds no fault
module _ (o : ByteOrder) (t : List ℕ) (P : ℕ → Type 0)
    (end : (at : ℕ) → step_at o t at ≡ End → P at)
    (section : (at address size start next : ℕ) → step_at o t at ≡ Section address size start next → (read_on o t next).fault ≡ 0 → P next → P at) where
  pub whole_ind : (at : ℕ) → (read_on o t at).fault ≡ 0 → P at
  whole_ind = step_ind o t (λ (at : ℕ). (read_on o t at).fault ≡ 0 → P at)
      (λ at e f. end at e)
      (λ at number place e f. absurd (read_no_fault o t at e f))
      (λ at address size start next e on f. let g = read_next o t at e f in section at address size start next e g (on g))
