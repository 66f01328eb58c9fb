-- The header walk counts the bytes of size words, address words and the end word.
use Prim.Native.Nat.{ℕ, zero, suc, ◌+◌, ◌-◌, ◌≤◌, ◌<◌}
use mathlib.Core.Path.{◌≡◌, refl, sym, ap, ◌∙◌}
use mathlib.Core.List.{List, [], ◌∷◌}
use mathlib.Core.Bool.{Bool, true, false}
use native.Mathlib.Nat.{zero-add, add-zero, suc-add}
use native.Mathlib.Omega.{arith}
use borrow.Author.Tests.{ne_eqb, lt-leb, le-ltb}
use lib.ListN.{length}
use lib.Dec.{leb, ltb, eqb}
use Rattle.words.specs.declared.ByteOrder.{ByteOrder}
use Rattle.words.specs.Header.{header_at}
use Rattle.words.proofs.ChoiceLaws.{and_no, if_both}
use Rattle.boot_table.specs.Table.{Sect, next_of, section_at, before, read_on, reading}
use Rattle.boot_table.proofs.StepLaws.{IsSection, section_of, end_of, next_at}
use Rattle.boot_table.proofs.ReadLaws.{read_section, read_end, whole_ind}
use Rattle.boot_table.proofs.FormLaws.{well_read, well_long}
use Rattle.query.specs.Find.{passing, walk_from, header_walk}
use Rattle.query.specs.Headers.{in_header, header_from, how_many, CountsHeaders}
use Rattle.query.proofs.HeaderLaws.{in_span, in_size}

-- ---- counting offsets

-- in two ranges, one behind the other
many_add : (f : ℕ → Bool) (n m i : ℕ) → how_many f (n + m) i ≡ how_many f n i + how_many f m (i + n)
unfolding how_many
many_add f zero m i = rw (zero-add m, add-zero i) (sym (zero-add (how_many f m i)))
many_add f (suc n) m i =
    let on = many_add f n m (suc i) in
    let there : suc i + n ≡ i + suc n = omega arith in
    rw (suc-add n m, ← there) (omega arith)

-- where all pass, and where none does
many_all : (f : ℕ → Bool) (n i : ℕ) → ((k : ℕ) → i ≤ k → k < i + n → f k ≡ true) → how_many f n i ≡ n
unfolding how_many
many_all f zero i all = refl
many_all f (suc n) i all = rw (all i (omega arith) (omega arith), many_all f n (suc i) (λ k h l. all k (omega arith) (omega arith))) (omega arith)

many_none : (f : ℕ → Bool) (n i : ℕ) → ((k : ℕ) → i ≤ k → k < i + n → f k ≡ false) → how_many f n i ≡ 0
unfolding how_many
many_none f zero i none = refl
many_none f (suc n) i none = rw (none i (omega arith) (omega arith), many_none f n (suc i) (λ k h l. none k (omega arith) (omega arith))) refl

-- two tests that agree
many_same : (f g : ℕ → Bool) (n i : ℕ) → ((k : ℕ) → i ≤ k → k < i + n → f k ≡ g k) → how_many f n i ≡ how_many g n i
unfolding how_many
many_same f g zero i same = refl
many_same f g (suc n) i same = rw (same i (omega arith) (omega arith), many_same f g n (suc i) (λ k h l. same k (omega arith) (omega arith))) refl

-- eight that pass, some that do not, and what is left
many_parts : (f : ℕ → Bool) (at gap left total next : ℕ) → total ≡ 8 + (gap + left) → at + 8 + gap ≡ next → how_many f 8 at ≡ 8 → how_many f gap (at + 8) ≡ 0
    → how_many f total at ≡ 8 + how_many f left next
many_parts f at gap left total next e there words none =
    let one : how_many f (8 + (gap + left)) at ≡ how_many f 8 at + how_many f (gap + left) (at + 8) = many_add f 8 (gap + left) at in
    let two : how_many f (gap + left) (at + 8) ≡ how_many f gap (at + 8) + how_many f left (at + 8 + gap) = many_add f gap left (at + 8) in
    rw (e, ← there) (omega arith)

-- none among the first four
many_later : (f : ℕ → Bool) (n : ℕ) → 4 ≤ n → how_many f 4 0 ≡ 0 → how_many f n 0 ≡ how_many f (n - 4) 4
many_later f n h none =
    let e : n ≡ 4 + (n - 4) = omega arith in
    let two : how_many f (4 + (n - 4)) 0 ≡ how_many f 4 0 + how_many f (n - 4) (0 + 4) = many_add f 4 (n - 4) 0 in
    ap (λ (m : ℕ). how_many f m 0) e ∙ two ∙ rw none (zero-add (how_many f (n - 4) 4))

-- ---- which offsets are none of a header

module _ (o : ByteOrder) (t : List ℕ) where
  -- those before it, and those from eight on
  below_header : (at i : ℕ) → i < at → in_header o t at i ≡ false
  unfolding in_header
  below_header at i h = rw (lt-leb at i h) refl

  past_header : (at i : ℕ) → at + 8 ≤ i → in_header o t at i ≡ false
  unfolding in_header
  past_header at i h = and_no (leb at i) _ (if_both (λ (n : ℕ). ltb i (at + n) ≡ false) (eqb (header_at o t at) 0) _ _ (le-ltb i (at + 4) (omega arith)) (le-ltb i (at + 8) (omega arith)))

  -- so those before all of them
  below_headers : (at : ℕ) (ss : List Sect) (i : ℕ) → i < at → header_from o t at ss i ≡ false
  unfolding header_from next_of
  below_headers at [] i h = below_header at i h
  below_headers at (s ∷ ss) i h = rw (below_header at i h) (below_headers (next_of at (length s.body)) ss i (omega arith))

  -- the eight offsets of a section's header, and the four of the end word
  in_section : (at : ℕ) {address size start next : ℕ} → IsSection o t at address size start next → (k : ℕ) → at ≤ k → k < at + 8 → in_header o t at k ≡ true
  unfolding in_header
  in_section at i k h l = rw (ne_eqb (header_at o t at) 0 (λ z. omega (arith, i.some, i.size_is))) (in_span at k 8 h l)

  end_word : (at k : ℕ) → at ≤ k → k < at + 4 → header_from o t at [] k ≡ true
  unfolding header_from
  end_word at k h l = let e : at + (k - at) ≡ k = omega arith in rw e at (in_size o t at (k - at) (omega arith))

  -- ---- the count

  -- the headers from an offset on, to the end of the table
  abbrev Headers : ℕ → List Sect → ℕ
  Headers at ss = how_many (header_from o t at ss) (length t - at) at

  -- a section has eight, and then come those of what stands next
  section_headers : (at : ℕ) {address size start next : ℕ} → IsSection o t at address size start next → (ss : List Sect) → Headers at (section_at t at address size ∷ ss) ≡ 8 + Headers next ss
  unfolding header_from
  section_headers at {address} {size} {start} {next} i ss =
      let f : ℕ → Bool = header_from o t at (section_at t at address size ∷ ss) in
      many_parts f at (next - (at + 8)) (length t - next) (length t - at) next
      (omega (arith, i.next_is, i.within)) (omega (arith, i.next_is))
      (many_all f 8 at (λ k h l. rw (in_section at i k h l) refl))
      (many_none f (next - (at + 8)) (at + 8) (λ k h l. rw (past_header at k h, next_at o t at i) (below_headers next ss k (omega arith))))
      ∙ ap (λ (n : ℕ). 8 + n)
      (many_same f (header_from o t next ss) (length t - next) next (λ k h l. rw (past_header at k (omega (arith, i.next_is)), next_at o t at i) refl))

  -- the headers from an offset on are as many as the walk reads from there
  walk_headers : (a at : ℕ) → (read_on o t at).fault ≡ 0 → (walk_from at (read_on o t at).sections a).read ≡ Headers at (read_on o t at).sections
  unfolding walk_from passing before
  walk_headers a = whole_ind o t (λ (at : ℕ). (walk_from at (read_on o t at).sections a).read ≡ Headers at (read_on o t at).sections)
      (λ at e.
      let four : length t - at ≡ 4 = omega (arith, end_of o t at e) in
      rw (read_end o t at e, four) (sym (many_all (header_from o t at []) 4 at (λ k h l. end_word at k h l))))
      (λ at address size start next e g on.
      let i = section_of o t at e in
      rw (read_section o t at e, section_headers at i (read_on o t next).sections, next_at o t at i) (ap (λ (n : ℕ). 8 + n) on))

-- The count is the number of bytes in size words, address words and the end word.
pub counts_headers : CountsHeaders
unfolding header_walk
counts_headers o t a w =
    let r = well_read o t w in
    let from-four : (walk_from 4 (reading o t).sections a).read ≡ how_many (header_from o t 4 (reading o t).sections) (length t - 4) 4 = rw r.0 (walk_headers o t a 4 r.1) in
    from-four
    ∙ sym (many_later (header_from o t 4 (reading o t).sections) (length t) (omega (arith, well_long o t w))
    (many_none (header_from o t 4 (reading o t).sections) 4 0 (λ k h l. below_headers o t 4 (reading o t).sections k (omega arith))))
