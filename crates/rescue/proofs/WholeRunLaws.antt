-- The whole sections from a table's start: as a walk over its steps finds them, and as the front of the table.
use Prim.Native.Nat.{ℕ, suc, ◌+◌, ◌-◌, ◌≤◌}
use mathlib.Core.Path.{◌≡◌, refl, sym, ap, ◌∙◌}
use mathlib.Core.List.{List, ◌++◌}
use mathlib.Core.Logic.{by_cases}
use mathlib.Core.Bool.{Bool, true, false, not}
use native.Mathlib.Nat.{add-zero}
use native.Mathlib.Omega.{arith}
use native.Mathlib.Decide.{ℕ_discrete}
use borrow.Author.Tests.{eq-eqb, ne_eqb}
use lib.ListN.{length, take, drop, length-append}
use lib.Seq.{take_at}
use Rattle.words.specs.declared.ByteOrder.{ByteOrder}
use Rattle.words.specs.Choice.{if}
use Rattle.words.specs.Word.{Bytes}
use Rattle.words.specs.Header.{header_at, header_bytes}
use Rattle.words.specs.Refusal.{bytes_after_number}
use Rattle.words.proofs.ChoiceLaws.{both_ways}
use Rattle.words.proofs.HeaderLaws.{length_header}
use Rattle.boot_table.specs.Table.{Section, End, Fault, entry_of, chunks, table_of, stop, step_at, before, read_on, reading}
use Rattle.boot_table.proofs.StepLaws.{section_of, end_of, fault_of}
use Rattle.boot_table.proofs.ReadLaws.{read_section, read_end, read_fault, read_begins}
use Rattle.boot_table.proofs.RoundTrip.{length_table}
use Rattle.boot_table.proofs.FrontLaws.{behind, behind_section, behind_within, read_stops, table_front}
use Rattle.rescue.specs.declared.Run.{Run}
use Rattle.rescue.specs.Rescue.{kept, rescued, has_zero, zero_added, used_bytes}
use Rattle.rescue.specs.WholeRun.{run_on, whole_run, used_to}

-- ---- the walk

module _ (o : ByteOrder) (t : List ℕ) where
  -- it begins behind the entry word with nothing passed
  pub run_starts : 4 ≤ length t → whole_run o t ≡ run_on o 0 4 (read_on o t 4)
  unfolding whole_run
  run_starts h = ap (run_on o 0 4) (read_begins o t h)

  module _ (k at : ℕ) where
    -- a section is passed
    pub run_section : {address size start next : ℕ} → step_at o t at ≡ Section address size start next
        → run_on o k at (read_on o t at) ≡ run_on o (k + 1) next (read_on o t next)
    unfolding run_on before chunks has_zero
    run_section {address} {size} {start} {next} e =
        let r = read_on o t next in
        let n : k + suc (length r.sections) ≡ k + 1 + length r.sections = omega arith in
        let m = behind_section o t at (section_of o t at e) in
        ap (run_on o k at) (read_section o t at e) ∙ (λ i. record { sections = n i; end = m i; zero = has_zero r })

    -- the end ends it, at a zero word
    pub run_end : step_at o t at ≡ End → run_on o k at (read_on o t at) ≡ record { sections = k; end = at; zero = true }
    unfolding run_on chunks has_zero
    run_end e = ap (run_on o k at) (read_end o t at e) ∙ (λ i. record { sections = add-zero k i; end = add-zero at i; zero = true })

    -- a fault ends it, and says whether at a zero word
    pub run_fault : {number place : ℕ} → step_at o t at ≡ Fault number place
        → run_on o k at (read_on o t at) ≡ record { sections = k; end = at; zero = has_zero (stop number place) }
    unfolding run_on chunks
    run_fault {number} {place} e =
        ap (run_on o k at) (read_fault o t at e) ∙ (λ i. record { sections = add-zero k i; end = add-zero at i; zero = has_zero (stop number place) })

-- ---- the front of the table

-- the rescued table is a zero word longer than the run
pub length_rescued : (o : ByteOrder) (t : List ℕ) → length (rescued o t) ≡ (whole_run o t).end + 4
unfolding rescued whole_run run_on
length_rescued o t = length_table o _ _ ∙ omega arith

-- the run ends behind the sections that are read, within the table
run_behind : (o : ByteOrder) (t : List ℕ) → 4 ≤ length t → (whole_run o t).end ≡ behind o t 4
unfolding whole_run run_on
run_behind o t long = rw (read_begins o t long) refl

pub run_within : (o : ByteOrder) (t : List ℕ) → 4 ≤ length t → (whole_run o t).end ≤ length t
run_within o t long = rw (run_behind o t long) (behind_within o t 4 long)

run_zero : (o : ByteOrder) (t : List ℕ) → (whole_run o t).zero ≡ has_zero (reading o t)
unfolding whole_run run_on
run_zero o t = refl

module _ (o : ByteOrder) (t : List ℕ) (b : Bytes t) (long : 4 ≤ length t) where
  -- the rescued table is the table's bytes up to there, as they stand, and a zero word
  pub rescued_front : rescued o t ≡ take (whole_run o t).end t ++ header_bytes o 0
  unfolding rescued table_of whole_run run_on
  rescued_front =
      let front : List ℕ = header_bytes o (entry_of o t) ++ chunks o (kept o t) in
      let n : length front ≡ 4 + length (chunks o (kept o t)) = simp (length-append, length_header) in
      let e : take (4 + length (chunks o (kept o t))) t ≡ front =
      ap (take (4 + length (chunks o (kept o t)))) (table_front o t b long) ∙ take_at front (drop (behind o t 4) t) (4 + length (chunks o (kept o t))) n in
      ap (◌++ header_bytes o 0) (sym e)

  -- of the faults, bytes after the zero word alone ends at a zero word
  zero_fault : (n place : ℕ) → (n ≡ 0 → ⊥) → has_zero (stop n place) ≡ true → n ≡ bytes_after_number
  unfolding has_zero
  zero_fault n place some z =
      by_cases (ℕ_discrete n bytes_after_number) (λ e. e) (λ other. absurd (both_ways _ z (simp (ne_eqb n 0 some, ne_eqb n bytes_after_number other))))

  -- a reading that ends at a zero word has that word behind the run
  pub zero_stands : has_zero (reading o t) ≡ true → ((whole_run o t).end + 4 ≤ length t) × (header_at o t (whole_run o t).end ≡ 0)
  unfolding has_zero
  zero_stands z =
      let r = read_on o t 4 in
      rw (run_behind o t long)
      (by_cases (ℕ_discrete r.fault 0)
      (λ f. let e = end_of o t _ (read_stops o t 4 ∙ rw (eq-eqb _ _ f) refl) in (omega arith, e.1))
      (λ f.
      let s : step_at o t (behind o t 4) ≡ Fault r.fault r.place = read_stops o t 4 ∙ rw (ne_eqb _ _ f) refl in
      (fault_of o t _ s).after (zero_fault r.fault r.place f (ap has_zero (sym (read_begins o t long)) ∙ z))))

  -- the bytes used end there, or behind that word
  pub run_used : used_to (whole_run o t).end (whole_run o t).zero ≡ used_bytes o t
  unfolding used_to used_bytes
  run_used = rw (length_rescued o t, run_zero o t) (go (whole_run o t).end (has_zero (reading o t)))
    where
      go : (end : ℕ) (zero : Bool) → if zero (end + 4) end ≡ end + 4 - if (not zero) 4 0
      go end true = omega arith
      go end false = omega arith

  pub used_within : used_bytes o t ≤ length t
  unfolding used_to whole_run run_on
  used_within = rw (← run_used) (go (has_zero (reading o t)) refl)
    where
      go : (zero : Bool) → has_zero (reading o t) ≡ zero → used_to (whole_run o t).end zero ≤ length t
      go true e = (zero_stands e).0
      go false e = run_within o t long

-- what a run says of the rescued table
pub record Front (o : ByteOrder) (t : List ℕ) (r : Run) : Type 0 where
  pub size : length (rescued o t) ≡ r.end + 4
  pub within : r.end ≤ length t
  pub is : rescued o t ≡ take r.end t ++ header_bytes o 0
  pub used : used_to r.end r.zero ≡ used_bytes o t
  pub enough : used_bytes o t ≤ length t
  pub count : r.sections ≡ length (kept o t)
  pub added : not r.zero ≡ zero_added o t

pub run_front : (o : ByteOrder) (t : List ℕ) → Bytes t → 4 ≤ length t → (r : Run) → r ≡ whole_run o t → Front o t r
unfolding whole_run run_on
run_front o t b long r e =
    rw e
    (record {
      size = length_rescued o t;
      within = run_within o t long;
      is = rescued_front o t b long;
      used = run_used o t b long;
      enough = used_within o t b long;
      count = omega arith;
      added = refl;
    })
