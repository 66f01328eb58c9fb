-- Finding reads size and address words alone: tables that have the same ones are walked alike.
use Prim.Native.Nat.{ℕ, ◌+◌, ◌≤◌, ◌<◌}
use mathlib.Core.Path.{◌≡◌, refl, sym, ◌∙◌}
use mathlib.Core.List.{List, [], ◌∷◌}
use mathlib.Core.Bool.{true, ◌&&◌}
use mathlib.Core.Logic.{by_cases}
use native.Mathlib.Omega.{arith}
use native.Mathlib.Decide.{dec_le, ℕ_discrete}
use borrow.Author.Tests.{ne_eqb, le-leb, lt-ltb}
use lib.ListN.{length, get_or}
use lib.Dec.{leb, ltb, eqb}
use Rattle.std.specs.Prelude.{Option, None}
use Rattle.words.specs.declared.ByteOrder.{ByteOrder}
use Rattle.words.specs.Header.{header_at}
use Rattle.words.proofs.ChoiceLaws.{or_yes, if_both}
use Rattle.words.proofs.HeaderLaws.{header_same}
use Rattle.boot_table.specs.Table.{Sect, next_of, end_step, step_at, section_at, before, read_on}
use Rattle.boot_table.specs.Form.{table_limit}
use Rattle.boot_table.proofs.StepLaws.{IsSection, step_same, section_of, next_at}
use Rattle.boot_table.proofs.ReadLaws.{read_section, read_begins, step_ind}
use Rattle.query.specs.declared.Hit.{Hit}
use Rattle.query.specs.Find.{latest, walked, find_answer}
use Rattle.query.specs.OneSection.{hit_in}
use Rattle.query.specs.Headers.{in_header, header_from, SameHeaders, HeadersOnly}
use Rattle.query.proofs.WalkLaws.{resume, walk_long, walk_cut, walk_start, walk_section, walk_end, walk_fault}

-- ---- the bytes of a header

-- an offset among n from at on
pub in_span : (at i n : ℕ) → at ≤ i → i < at + n → (leb at i && ltb i (at + n)) ≡ true
in_span at i n h k = simp (le-leb at i h, lt-ltb i (at + n) k)

-- the size word is one
pub in_size : (o : ByteOrder) (t : List ℕ) (at k : ℕ) → k < 4 → in_header o t at (at + k) ≡ true
unfolding in_header
in_size o t at k h =
    if_both (λ (n : ℕ). (leb at (at + k) && ltb (at + k) (at + n)) ≡ true) (eqb (header_at o t at) 0) _ _
    (in_span at (at + k) _ (omega arith) (omega arith)) (in_span at (at + k) _ (omega arith) (omega arith))

-- and where it is not zero the address word
in_address : (o : ByteOrder) (t : List ℕ) (at k : ℕ) → (header_at o t at ≡ 0 → ⊥) → k < 4 → in_header o t at (at + 4 + k) ≡ true
unfolding in_header
in_address o t at k n h = rw (ne_eqb _ _ n) (in_span at (at + 4 + k) _ (omega arith) (omega arith))

-- the header that stands next is one of those from there on
next_header : (o : ByteOrder) (t : List ℕ) (at : ℕ) (ss : List Sect) (i : ℕ) → in_header o t at i ≡ true → header_from o t at ss i ≡ true
unfolding header_from
next_header o t at [] i e = e
next_header o t at (s ∷ ss) i e = rw e refl

-- ---- two tables of one length

module _ (o : ByteOrder) (t u : List ℕ) (long : length t ≡ length u) where
  -- from offset at on, where t has the sections ss, the bytes of its headers are the same in u
  abbrev Same : ℕ → List Sect → Type 0
  Same at ss = (i : ℕ) → header_from o t at ss i ≡ true → get_or t i 0 ≡ get_or u i 0

  -- so is the step
  next_step : (at : ℕ) (ss : List Sect) → Same at ss → step_at o t at ≡ step_at o u at
  unfolding step_at end_step
  next_step at ss same =
      let size : header_at o t at ≡ header_at o u at = header_same o t u at at (λ k h. same (at + k) (next_header o t at ss (at + k) (in_size o t at k h))) in
      by_cases (ℕ_discrete (header_at o t at) 0)
      (λ z. let y : header_at o u at ≡ 0 = sym size ∙ z in rw (z, y, long) refl)
      (λ n. step_same o t u at long size
      (header_same o t u (at + 4) (at + 4) (λ k h. same (at + 4 + k) (next_header o t at ss (at + 4 + k) (in_address o t at k n h)))))

  -- and what stands after a section
  same_on : (at : ℕ) {address size start next : ℕ} → IsSection o t at address size start next → (ss : List Sect) → Same at (section_at t at address size ∷ ss) → Same next ss
  unfolding header_from
  same_on at {address} {size} i ss same k e =
      same k (or_yes (in_header o t at k) (header_from o t (next_of at (length (section_at t at address size).body)) ss k) (rw (next_at o t at i) e))

  -- so both are walked alike from there on
  walked_alike : (a at : ℕ) → Same at (read_on o t at).sections → (hit : Option Hit) (read : ℕ) → resume a hit read at (read_on o t at) ≡ resume a hit read at (read_on o u at)
  unfolding before
  walked_alike a = step_ind o t (λ (at : ℕ). Same at (read_on o t at).sections → (hit : Option Hit) (read : ℕ) → resume a hit read at (read_on o t at) ≡ resume a hit read at (read_on o u at))
      (λ at e same hit read. walk_end o t a hit read at e ∙ sym (walk_end o u a hit read at (sym (next_step at (read_on o t at).sections same) ∙ e)))
      (λ at number place e same hit read. walk_fault o t a hit read at e ∙ sym (walk_fault o u a hit read at (sym (next_step at (read_on o t at).sections same) ∙ e)))
      (λ at address size start next e on same hit read.
      let there : Same at (section_at t at address size ∷ (read_on o t next).sections) = rw (read_section o t at e) at same in
      walk_section o t a hit read at e
      ∙ on (same_on at (section_of o t at e) (read_on o t next).sections there) (latest hit (hit_in address size start a)) (read + 8)
      ∙ sym (walk_section o u a hit read at (sym (next_step at (read_on o t at).sections same) ∙ e)))

-- tables with the same headers are walked alike
same_walked : (o : ByteOrder) (t u : List ℕ) (a : ℕ) → SameHeaders o t u → walked o t a ≡ walked o u a
same_walked o t u a s =
    by_cases (dec_le (length t) table_limit)
    (λ h. by_cases (dec_le 4 (length t))
    (λ k.
    let r = read_begins o t k in
    walk_start o t a h k ∙ walked_alike o t u s.long a 4 (λ i e. s.same i (rw r e)) None 0
    ∙ sym (walk_start o u a (omega (arith, s.long)) (omega (arith, s.long))))
    (λ n. walk_cut o t a h (omega arith) ∙ sym (walk_cut o u a (omega (arith, s.long)) (omega (arith, s.long)))))
    (λ n. walk_long o t a (omega arith) ∙ sym (walk_long o u a (omega (arith, s.long))))

-- Only size and address words are read.
pub headers_only : HeadersOnly
unfolding find_answer
headers_only o older older' newer newer' a s z = rw (same_walked o older older' a s, same_walked o newer newer' a z) refl
