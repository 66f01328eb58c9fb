-- The header walk over a table, as a walk over its steps finds it.
use Prim.Native.Nat.{ℕ, ◌+◌, ◌-◌, ◌%◌, ◌^◌, ◌≤◌, ◌<◌}
use mathlib.Core.Path.{◌≡◌, refl, ap, ◌∙◌}
use mathlib.Core.List.{List}
use mathlib.Core.Logic.{by_cases}
use native.Mathlib.Nat.{zero-add}
use native.Mathlib.Omega.{arith}
use native.Mathlib.Decide.{dec_le, ℕ_discrete}
use borrow.Author.Tests.{eq-eqb, ne_eqb, lt-leb, le-leb, lt-ltb, le-ltb}
use lib.ListN.{length}
use lib.Dec.{eqb}
use Rattle.words.specs.declared.ByteOrder.{ByteOrder}
use Rattle.words.specs.Choice.{if}
use Rattle.words.specs.Refusal.{table_long_number, table_cut_number}
use Rattle.std.specs.Prelude.{Option, Some, None}
use Rattle.boot_table.specs.Table.{Section, End, Fault, Sect, Reading, next_of, step_at, section_at, before, read_on, reading}
use Rattle.boot_table.specs.Form.{table_limit}
use Rattle.boot_table.specs.Meaning.{covers}
use Rattle.boot_table.specs.Walk.{tally}
use Rattle.boot_table.proofs.StepLaws.{IsSection, section_of, length_body, next_at, fault_number}
use Rattle.boot_table.proofs.ReadLaws.{read_section, read_end, read_fault}
use Rattle.boot_table.proofs.FormLaws.{form_long, form_cut, form_start}
use Rattle.query.specs.declared.Hit.{Hit}
use Rattle.query.specs.Find.{Walk, Whole, Faulty, hit_of, latest, passing, walk_from, header_walk, walked}
use Rattle.query.specs.OneSection.{hit_in}

-- ---- the later of two hits

pub latest_none : (h : Option Hit) → latest None h ≡ h
latest_none None = refl
latest_none (Some hit) = refl

pub latest_latest : (x y z : Option Hit) → latest x (latest y z) ≡ latest (latest x y) z
latest_latest x y None = refl
latest_latest x y (Some hit) = refl

-- ---- the hit in a section

section_address : (t : List ℕ) (at address size : ℕ) → (section_at t at address size).address ≡ address
unfolding section_at
section_address t at address size = refl

-- a section that stands at an offset has its hit by its numbers
pub hit_in_lem : (o : ByteOrder) (t : List ℕ) (at : ℕ) {address size start next : ℕ} → IsSection o t at address size start next
    → (a : ℕ) → hit_of at (section_at t at address size) a ≡ hit_in address size start a
unfolding hit_of hit_in covers
hit_in_lem o t at {address} {size} i a = rw (section_address t at address size, length_body o t at i, i.start_is) refl

-- how far an address a is past the first one of a section of size bytes, which is not past the top, modulo 2^32: an address that
-- the section does not cover is its size or more past it
module _ (first size start a : ℕ) (top : first + size ≤ 2 ^ 32) (word : a < 2 ^ 32) where
  abbrev past : ℕ
  past = (2 ^ 32 + a - first) % 2 ^ 32

  pub not_covered : size ≤ past → hit_in first size start a ≡ None
  unfolding hit_in
  not_covered h =
      by_cases (dec_le first a)
      (λ k. simp (le-leb first a k, le-ltb a (first + size) (omega arith)))
      (λ n. simp (lt-leb first a (omega arith)))

  pub covered : past < size → hit_in first size start a ≡ Some (record { offset = start + past; length = size - past })
  unfolding hit_in
  covered h =
      let k : first ≤ a = omega arith in
      let e : past ≡ a - first = omega arith in
      rw e (simp (le-leb first a k, lt-ltb a (first + size) (omega arith)))

-- ---- the walk

-- what a walk comes to that has a hit and has read so many bytes, where r is what reading on from offset at finds
unfoldable pub resume : ℕ → Option Hit → ℕ → ℕ → Reading → Walk
resume a hit read at r =
    if (eqb r.fault 0) (Whole (latest hit (walk_from at r.sections a).hit) (read + (walk_from at r.sections a).read))
    (Faulty r.fault r.place)

-- a section was passed
resume_before : (a : ℕ) (hit : Option Hit) (read at : ℕ) (s : Sect) (r : Reading)
    → resume a hit read at (before s r) ≡ resume a (latest hit (hit_of at s a)) (read + 8) (next_of at (length s.body)) r
unfolding resume before walk_from passing
resume_before a hit read at s r =
    let later = walk_from (next_of at (length s.body)) r.sections a in
    let sum : read + (8 + later.read) ≡ read + 8 + later.read = omega arith in
    ap (λ (w : Walk). if (eqb r.fault 0) w (Faulty r.fault r.place)) (λ i. Whole (latest_latest hit (hit_of at s a) later.hit i) (sum i))

module _ (o : ByteOrder) (t : List ℕ) (a : ℕ) where
  -- a table over the limit
  pub walk_long : table_limit < length t → walked o t a ≡ Faulty table_long_number 0
  unfolding walked
  walk_long h = rw (form_long o t h) refl

  -- a table without its entry word
  pub walk_cut : length t ≤ table_limit → length t < 4 → walked o t a ≡ Faulty table_cut_number 0
  unfolding walked
  walk_cut h k = rw (form_cut o t h k) refl

  -- the walk begins behind the entry word, with no hit and nothing read
  pub walk_start : length t ≤ table_limit → 4 ≤ length t → walked o t a ≡ resume a None 0 4 (read_on o t 4)
  unfolding walked resume tally header_walk reading
  walk_start h k =
      by_cases (ℕ_discrete (read_on o t 4).fault 0)
      (λ z. rw (form_start o t h k) (simp (eq-eqb _ _ z, le-ltb _ _ k, latest_none, zero-add)))
      (λ n. rw (form_start o t h k) (simp (ne_eqb _ _ n)))

  module _ (hit : Option Hit) (read at : ℕ) where
    -- a section is passed
    pub walk_section : {address size start next : ℕ} → step_at o t at ≡ Section address size start next
        → resume a hit read at (read_on o t at) ≡ resume a (latest hit (hit_in address size start a)) (read + 8) next (read_on o t next)
    walk_section {address} {size} {start} {next} e =
        let i = section_of o t at e in
        ap (resume a hit read at) (read_section o t at e) ∙ resume_before a hit read at (section_at t at address size) (read_on o t next)
        ∙ rw (hit_in_lem o t at i a, next_at o t at i) refl

    -- at the end the hit is the last one, and the end word was read
    pub walk_end : step_at o t at ≡ End → resume a hit read at (read_on o t at) ≡ Whole hit (read + 4)
    unfolding resume walk_from
    walk_end e = ap (resume a hit read at) (read_end o t at e)

    -- a fault is the table's
    pub walk_fault : {number place : ℕ} → step_at o t at ≡ Fault number place → resume a hit read at (read_on o t at) ≡ Faulty number place
    unfolding resume
    walk_fault e = ap (resume a hit read at) (read_fault o t at e) ∙ simp (ne_eqb _ _ (fault_number o t at e))
