-- What a hit of the header walk says of the sections, and how many bytes the walk reads.
use Prim.Native.Nat.{ℕ, ◌+◌, ◌-◌, ◌*◌, ◌≤◌}
use mathlib.Core.Path.{◌≡◌, refl, sym, ap, ◌∙◌}
use mathlib.Core.List.{List, [], ◌∷◌, ◌++◌}
use mathlib.Core.Bool.{Bool, true, false}
use mathlib.Core.Option.{some}
use native.Mathlib.Nat.{add-zero}
use native.Mathlib.Omega.{arith}
use lib.ListN.{length, get_or, take, drop, length-drop}
use lib.Seq.{length-take-le, take-add, drop_at, drop-drop, get_or-drop}
use Rattle.std.specs.Prelude.{Option, Some, None}
use Rattle.words.specs.declared.ByteOrder.{ByteOrder}
use Rattle.boot_table.specs.Table.{Sect, next_of, section_at, before, read_on, reading}
use Rattle.boot_table.specs.Form.{WellFormed}
use Rattle.boot_table.specs.Meaning.{covers, times, byte_for, last_byte}
use Rattle.boot_table.proofs.StepLaws.{IsSection, section_of, length_body, body_is, next_at}
use Rattle.boot_table.proofs.ReadLaws.{read_section, read_end, read_fault, step_ind}
use Rattle.boot_table.proofs.FormLaws.{well_read}
use Rattle.boot_table.proofs.MeaningLaws.{covers_true, times_no, last_append, uncovered_none}
use Rattle.query.specs.declared.Hit.{Hit}
use Rattle.query.specs.Find.{hit_of, latest, passing, walk_from, header_walk}
use Rattle.query.specs.Covering.{Uncovered, offset_after, LastCovers}

-- ---- the bytes that are read

-- 8 for each section, and 4 for the end word
pub read_count : (at : ℕ) (ss : List Sect) (a : ℕ) → (walk_from at ss a).read ≡ 8 * length ss + 4
unfolding walk_from passing
read_count at [] a = refl
read_count at (s ∷ ss) a = let more = read_count (next_of at (length s.body)) ss a in omega arith

-- ---- the hit

-- what a hit in the table t says of the sections ss from offset at on
abbrev pub HitSays : ℕ → List Sect → List ℕ → ℕ → Option Hit → Type 0
HitSays at ss t a None = Uncovered ss a
HitSays at ss t a (Some hit) = (LastCovers at ss a hit.offset (take hit.length (drop hit.offset t))) × (hit.offset + hit.length ≤ length t)

-- a later section covers it, so a section before those changes nothing
covers_later : (at next : ℕ) (s : Sect) → next_of at (length s.body) ≡ next → {ss : List Sect} {a offset : ℕ} {bytes : List ℕ}
    → LastCovers next ss a offset bytes → LastCovers at (s ∷ ss) a offset bytes
unfolding offset_after
covers_later at next s e l = record {
  section = l.section;
  earlier = s ∷ l.earlier;
  later = l.later;
  among = ap (λ (xs : List Sect). s ∷ xs) l.among;
  covered = l.covered;
  last = l.last;
  offset_is = rw e l.offset_is;
  bytes_are = l.bytes_are;
}

-- what is left of a run of size bytes from start on behind its first k
rest_of_run : (t : List ℕ) (start size k : ℕ) → k ≤ size → start + size ≤ length t → take (size - k) (drop (start + k) t) ≡ drop k (take size (drop start t))
rest_of_run t start size k h within =
    let run : List ℕ = drop start t in
    let n : size ≡ k + (size - k) = omega arith in
    let l : length (take k run) ≡ k = length-take-le k run (simp length-drop (omega arith)) in
    let cut : take size run ≡ take k run ++ take (size - k) (drop k run) = ap (λ (m : ℕ). take m run) n ∙ take-add k (size - k) run in
    sym (ap (drop k) cut ∙ drop_at (take k run) (take (size - k) (drop k run)) k l ∙ rw (drop-drop k start t) refl)

-- a section at offset at of the table t, before sections ss of which none covers the address
module _ (o : ByteOrder) (t : List ℕ) (at : ℕ) {address size start next : ℕ} (i : IsSection o t at address size start next) (ss : List Sect) (a : ℕ)
    (none-later : Uncovered ss a) where
  abbrev here : Sect
  here = section_at t at address size

  -- it covers the address
  covers_here : covers here a ≡ true → HitSays at (here ∷ ss) t a (hit_of at here a)
  unfolding hit_of offset_after
  covers_here e =
      let l = length_body o t at i in
      let b = covers_true here a e in
      let k : ℕ = a - here.address in
      let d : start + k ≡ at + 8 + k = omega (arith, i.start_is) in
      let bytes : take (size - k) (drop (start + k) t) ≡ drop k here.body =
      rest_of_run t start size k (omega arith) (omega (arith, i.start_is, i.next_is, i.within)) ∙ ap (drop k) (sym (body_is o t at i)) in
      rw (e, l) (
        record { section = here; earlier = []; later = ss; among = refl; covered = e; last = none-later; offset_is = refl; bytes_are = rw (← d) bytes },
        omega (arith, i.next_is, i.within),
      )

  -- it does not
  misses_here : covers here a ≡ false → HitSays at (here ∷ ss) t a (hit_of at here a)
  unfolding hit_of
  misses_here e = rw e (times_no here ss a e ∙ none-later)

  hit_here : HitSays at (here ∷ ss) t a (hit_of at here a)
  hit_here = go (covers here a) refl
    where
      go : (b : Bool) → covers here a ≡ b → HitSays at (here ∷ ss) t a (hit_of at here a)
      go true e = covers_here e
      go false e = misses_here e

-- the hit of the walk from an offset on says what it does of the sections that are read there
hit_says : (o : ByteOrder) (t : List ℕ) (a at : ℕ) → HitSays at (read_on o t at).sections t a (walk_from at (read_on o t at).sections a).hit
unfolding walk_from before passing times
hit_says o t a = step_ind o t (λ (at : ℕ). HitSays at (read_on o t at).sections t a (walk_from at (read_on o t at).sections a).hit)
    (λ at e. rw (read_end o t at e) refl)
    (λ at number place e. rw (read_fault o t at e) refl)
    (λ at address size start next e on.
    let i = section_of o t at e in
    let rest : List Sect = (read_on o t next).sections in
    rw (read_section o t at e, next_at o t at i) (go at i rest (walk_from next rest a).hit on))
  where
    go : (at : ℕ) {address size start next : ℕ} → IsSection o t at address size start next → (rest : List Sect) (h : Option Hit) → HitSays next rest t a h
        → HitSays at (section_at t at address size ∷ rest) t a (latest (hit_of at (section_at t at address size) a) h)
    go at i rest None none-later = hit_here o t at i rest a none-later
    go at {address} {size} {start} {next} i rest (Some hit) (l, within) = (covers_later at next (section_at t at address size) (next_at o t at i) l, within)

-- so in a well-formed table
pub walk_says : (o : ByteOrder) (t : List ℕ) (a : ℕ) → WellFormed o t → HitSays 4 (reading o t).sections t a (header_walk o t a).hit
unfolding header_walk
walk_says o t a w = rw (well_read o t w).0 (hit_says o t a 4)

-- the part begins with the last byte that the sections have for the address
pub covers_byte : (at : ℕ) (ss : List Sect) (a offset : ℕ) (bytes : List ℕ) → LastCovers at ss a offset bytes → (last_byte ss a ≡ some (get_or bytes 0 0)) × (1 ≤ length bytes)
unfolding last_byte byte_for
covers_byte at ss a offset bytes l =
    let s = l.section in
    let k : ℕ = a - s.address in
    let b = covers_true s a l.covered in
    let first : get_or bytes 0 0 ≡ get_or s.body k 0 = rw l.bytes_are (get_or-drop k s.body 0 0 ∙ rw (add-zero k) refl) in (
      rw (l.among, first) (last_append l.earlier (s ∷ l.later) a ∙ rw (uncovered_none l.later a l.last, l.covered) refl),
      rw l.bytes_are (omega (arith, length-drop k s.body)),
    )
