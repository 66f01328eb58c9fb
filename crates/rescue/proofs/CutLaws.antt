-- A well-formed table that is cut: what is read from the part that is left.
use Prim.Native.Nat.{ℕ, ◌+◌, ◌≤◌, ◌<◌}
use mathlib.Core.Path.{◌≡◌, refl, sym, ap, ◌∙◌}
use mathlib.Core.List.{List, [], ◌∷◌, ◌++◌}
use mathlib.Core.Bool.{Bool}
use mathlib.Core.Logic.{by_cases}
use native.Mathlib.Omega.{arith}
use native.Mathlib.Decide.{dec_le}
use borrow.Author.Tests.{lt-ltb, le-ltb}
use lib.ListN.{length, take, drop, length-append, length-drop, take-append-drop}
use lib.Seq.{get_or-take, length-take-le, take-append-le, drop-append-le}
use lib.Dec.{ltb}
use Rattle.words.specs.declared.ByteOrder.{ByteOrder}
use Rattle.words.specs.Choice.{if}
use Rattle.words.specs.Word.{pad_count}
use Rattle.words.specs.Header.{header_at}
use Rattle.words.specs.Refusal.{table_cut_number}
use Rattle.words.proofs.ChoiceLaws.{if_both}
use Rattle.words.proofs.HeaderLaws.{header_same}
use Rattle.boot_table.specs.Table.{Section, Fault, Sect, Reading, chunk, chunks, next_of, step_at, section_at, before, read_on}
use Rattle.boot_table.proofs.StepLaws.{IsSection, step_cut, step_short, section_step_lem, section_of, end_of, next_at}
use Rattle.boot_table.proofs.ReadLaws.{read_section, read_end, read_fault, whole_ind}
use Rattle.rescue.specs.Rescuing.{if_ended, ending_by}

-- ---- sections that end at or before a cut

-- one that ends at it or before it is one of them
ended_kept : (cut end : ℕ) (s : Sect) (rest : List Sect) → end ≤ cut → if_ended cut end s rest ≡ s ∷ rest
unfolding if_ended
ended_kept cut end s rest h = ap (λ (b : Bool). if b rest (s ∷ rest)) (le-ltb cut end h)

-- one that ends behind it is not
ended_lost : (cut end : ℕ) (s : Sect) (rest : List Sect) → cut < end → if_ended cut end s rest ≡ rest
unfolding if_ended
ended_lost cut end s rest h = ap (λ (b : Bool). if b rest (s ∷ rest)) (lt-ltb cut end h)

-- of those that stand behind it there is none
none_behind : (cut at : ℕ) (ss : List Sect) → cut < at → ending_by cut at ss ≡ []
unfolding ending_by next_of
none_behind cut at [] h = refl
none_behind cut at (s ∷ ss) h = ended_lost cut _ s _ (omega arith) ∙ none_behind cut (next_of at (length s.body)) ss (omega arith)

-- ---- the part that is left

-- a part of it is that part of the table
part_left : (t : List ℕ) (cut a k : ℕ) → cut ≤ length t → a + k ≤ cut → take k (drop a (take cut t)) ≡ take k (drop a t)
part_left t cut a k h fits =
    let n : length (take cut t) ≡ cut = length-take-le cut t h in
    let d : drop a t ≡ drop a (take cut t) ++ drop cut t =
    ap (drop a) (sym (take-append-drop cut t)) ∙ drop-append-le a (take cut t) (drop cut t) (omega arith) in
    sym (ap (take k) d ∙ take-append-le k (drop a (take cut t)) (drop cut t) (simp length-drop (omega arith)))

module _ (o : ByteOrder) (t : List ℕ) (cut : ℕ) (within : cut < length t) where
  length_left : length (take cut t) ≡ cut
  length_left = length-take-le cut t (omega arith)

  -- a header word that is left whole
  pub header_left : (at : ℕ) → at + 4 ≤ cut → header_at o (take cut t) at ≡ header_at o t at
  header_left at h = header_same o (take cut t) t at at (λ k l. get_or-take cut t (at + k) 0 (omega arith))

  module _ (at : ℕ) {address size start next : ℕ} (i : IsSection o t at address size start next) where
    -- a section that ends at or before the cut is left whole
    section_left : next ≤ cut → step_at o (take cut t) at ≡ Section address size start next
    section_left h =
        section_step_lem o (take cut t) at
        (record {
          start_is = i.start_is;
          next_is = i.next_is;
          within = omega (arith, length_left);
          some = i.some;
          head = omega (arith, length_left, i.next_is);
          size_is = i.size_is ∙ sym (header_left at (omega (arith, i.next_is)));
          address_is = i.address_is ∙ sym (header_left (at + 4) (omega (arith, i.next_is)));
          top = i.top;
        })

    same_left : next ≤ cut → section_at (take cut t) at address size ≡ section_at t at address size
    unfolding section_at
    same_left h = λ j. record {
      address = address;
      body = part_left t cut (at + 8) size (omega arith) (omega (arith, i.next_is)) j;
      pads = part_left t cut (at + 8 + size) (pad_count size) (omega arith) (omega (arith, i.next_is)) j;
    }

    -- one that ends behind it is cut short
    section_cut : cut < next → step_at o (take cut t) at ≡ Fault table_cut_number at
    unfolding next_of
    section_cut h =
        by_cases (dec_le (at + 4) cut)
        (λ k. step_short o (take cut t) at size (omega (arith, length_left)) (i.size_is ∙ sym (header_left at k)) (λ z. omega (arith, i.some))
        (omega (arith, length_left, i.next_is)))
        (λ k. step_cut o (take cut t) at (omega (arith, length_left)))

  -- what is read on from an offset at or before the cut
  pub record Left (at : ℕ) : Type 0 where
    pub sections : (read_on o (take cut t) at).sections ≡ ending_by cut at (read_on o t at).sections
    pub fault : (read_on o (take cut t) at).fault ≡ table_cut_number

  left_end : (at : ℕ) → length t ≡ at + 4 → (read_on o t at).sections ≡ [] → Left at
  unfolding ending_by
  left_end at l e =
      let r = read_fault o (take cut t) at (step_cut o (take cut t) at (omega (arith, length_left))) in
      record { sections = rw (r, e) refl; fault = rw r refl }

  left_section : (at address size start next : ℕ) → step_at o t at ≡ Section address size start next → (next ≤ cut → Left next) → Left at
  unfolding ending_by before
  left_section at address size start next e on =
      let i = section_of o t at e in
      let s = section_at t at address size in
      by_cases (dec_le next cut)
      (λ h.
      let r = read_section o (take cut t) at (section_left at i h) in
      let l = on h in
      record {
        sections = rw (r, read_section o t at e, same_left at i h, l.sections, next_at o t at i) (sym (ended_kept cut _ s _ (omega arith)));
        fault = rw r l.fault;
      })
      (λ h.
      let r = read_fault o (take cut t) at (section_cut at i (omega arith)) in
      let none : ending_by cut next (read_on o t next).sections ≡ [] = none_behind cut next (read_on o t next).sections (omega arith) in
      record {
        sections = rw (r, read_section o t at e, next_at o t at i) (sym (ended_lost cut _ s _ (omega arith) ∙ none));
        fault = rw r refl;
      })

  pub read_left : (at : ℕ) → (read_on o t at).fault ≡ 0 → at ≤ cut → Left at
  read_left = whole_ind o t (λ (at : ℕ). at ≤ cut → Left at)
      (λ at e h. left_end at (end_of o t at e).0 (ap (λ (r : Reading). r.sections) (read_end o t at e)))
      (λ at address size start next e g on h. left_section at address size start next e on)

-- ---- bytes

-- the sections that end at or before a cut have no more bytes than all
ended_bytes : (o : ByteOrder) (cut end : ℕ) (s : Sect) (rest : List Sect) → length (chunks o (if_ended cut end s rest)) ≤ length (chunk o s) + length (chunks o rest)
unfolding if_ended chunks
ended_bytes o cut end s rest =
    if_both (λ (rs : List Sect). length (chunks o rs) ≤ length (chunk o s) + length (chunks o rest)) (ltb cut end) rest (s ∷ rest)
    (omega arith) (simp length-append (omega arith))

pub ending_bytes : (o : ByteOrder) (cut at : ℕ) (ss : List Sect) → length (chunks o (ending_by cut at ss)) ≤ length (chunks o ss)
unfolding ending_by chunks
ending_bytes o cut at [] = omega arith
ending_bytes o cut at (s ∷ ss) =
    let next = next_of at (length s.body) in
    simp length-append (omega (arith, ending_bytes o cut next ss, ended_bytes o cut next s (ending_by cut next ss)))
