-- Tables that differ in pad bytes alone read alike: the same entry, the same fault, and the same sections but for their pads; and
-- well-formed tables that read alike differ in pad bytes alone.
use Prim.Native.Nat.{ℕ, suc, ◌+◌, ◌-◌, ◌≤◌, ◌<◌}
use mathlib.Core.Path.{◌≡◌, refl, sym, ap, ◌∙◌, subst}
use mathlib.Core.List.{List, [], ◌∷◌, ◌++◌, map, append_assoc}
use mathlib.Core.Bool.{Bool, true, false, ◌||◌}
use mathlib.Core.Logic.{◌↔◌, by_cases}
use native.Mathlib.Omega.{arith}
use native.Mathlib.Decide.{dec_le}
use borrow.Author.Tests.{le-leb, lt-leb, lt-ltb, le-ltb}
use lib.ListN.{length, get_or, take, drop, length-append, length-take, length-drop, length-map}
use lib.Seq.{ext_get_or, get_or-take, get_or-drop, get_or-append-add, take_at}
use lib.Dec.{leb}
use Rattle.words.specs.declared.ByteOrder.{ByteOrder}
use Rattle.words.specs.Word.{Bytes, pad_count}
use Rattle.words.specs.Header.{header_at, header_bytes}
use Rattle.words.proofs.ChoiceLaws.{both_ways, and_no, or_no}
use Rattle.words.proofs.HeaderLaws.{header_same, length_header}
use Rattle.boot_table.specs.Table.{entry_of, Sect, chunk, chunks, table_of, next_of, step_at, Reading, section_at, before, read_on, reading}
use Rattle.boot_table.specs.Form.{total, read_form, form_of, WellFormed}
use Rattle.boot_table.specs.Pads.{in_pads, pad_from, DifferInPads, bare}
use Rattle.boot_table.specs.Valid.{Valid, All, also}
use Rattle.boot_table.proofs.StepLaws.{IsSection, step_same, section_of, length_body, next_at}
use Rattle.boot_table.proofs.ReadLaws.{read_section, read_end, read_fault, read_begins, step_ind}
use Rattle.boot_table.proofs.RoundTrip.{length_chunk, length_table, read_table, table_read, valid_read}

-- ---- which offsets are no pads

-- a section that stands before others, and an offset that is no pad of theirs
module _ (at : ℕ) (s : Sect) (ss : List Sect) (i : ℕ) (later : pad_from (next_of at (length s.body)) ss i ≡ false) where
  -- before the end of the section's data it is no pad
  pad_front : i < at + 8 + length s.body → pad_from at (s ∷ ss) i ≡ false
  unfolding pad_from in_pads
  pad_front h = simp (lt-leb (at + 8 + length s.body) i h, later)

  -- and none from the next offset on
  pad_later : next_of at (length s.body) ≤ i → pad_from at (s ∷ ss) i ≡ false
  unfolding pad_from in_pads
  pad_later h = simp (le-ltb i (next_of at (length s.body)) h, and_no (leb (at + 8 + length s.body) i) false refl, later)

-- nor is a byte that was passed, or one of the two header words that stand next
pad_low : (at : ℕ) (ss : List Sect) (i : ℕ) → i < at + 8 → pad_from at ss i ≡ false
unfolding pad_from next_of
pad_low at [] i h = refl
pad_low at (s ∷ ss) i h = pad_front at s ss i (pad_low (next_of at (length s.body)) ss i (omega arith)) (omega arith)

-- ---- reading on

-- a reading without the pads of its sections
unfoldable bare_reading : Reading → Reading
bare_reading r = record { sections = map bare r.sections; fault = r.fault; place = r.place }

-- two tables of one length
module _ (o : ByteOrder) (t u : List ℕ) (long : length t ≡ length u) where
  -- from offset at on, where t has the sections ss, each byte that is no pad is the same in u
  abbrev Same : ℕ → List Sect → Type 0
  Same at ss = (i : ℕ) → at ≤ i → pad_from at ss i ≡ false → get_or t i 0 ≡ get_or u i 0

  -- the header words that stand next are the same, and so is the step
  next_header : (at : ℕ) (ss : List Sect) → Same at ss → (i : ℕ) → at ≤ i → i ≤ at + 4 → header_at o t i ≡ header_at o u i
  next_header at ss same i h k = header_same o t u i i (λ j l. same (i + j) (omega arith) (pad_low at ss (i + j) (omega arith)))

  next_step : (at : ℕ) (ss : List Sect) → Same at ss → step_at o t at ≡ step_at o u at
  next_step at ss same = step_same o t u at long (next_header at ss same at (omega arith) (omega arith)) (next_header at ss same (at + 4) (omega arith) (omega arith))

  -- a section of t at offset at, before sections ss
  module _ (at : ℕ) {address size start next : ℕ} (i : IsSection o t at address size start next) (ss : List Sect) (same : Same at (section_at t at address size ∷ ss)) where
    -- its data is the same in u
    same_byte : (k : ℕ) → k < size → get_or t (at + 8 + k) 0 ≡ get_or u (at + 8 + k) 0
    same_byte k h =
        same (at + 8 + k) (omega arith)
        (pad_front at (section_at t at address size) ss (at + 8 + k) (rw (next_at o t at i) (pad_low next ss (at + 8 + k) (omega (arith, i.next_is)))) (omega (arith, length_body o t at i)))

    same_body : take size (drop (at + 8) t) ≡ take size (drop (at + 8) u)
    same_body =
        ext_get_or 0 (take size (drop (at + 8) t)) (take size (drop (at + 8) u)) (simp (length-take, length-drop, long))
        (λ k h.
        let l : k < size = omega (arith, length-take size (drop (at + 8) t)) in
        rw (get_or-take size (drop (at + 8) t) k 0 l, get_or-take size (drop (at + 8) u) k 0 l, get_or-drop (at + 8) t k 0, get_or-drop (at + 8) u k 0) (same_byte k l))

    same_bare : bare (section_at t at address size) ≡ bare (section_at u at address size)
    unfolding bare section_at
    same_bare = λ j. record { address = address; body = same_body j; pads = [] }

    -- and so is what stands after it
    same_on : Same next ss
    same_on k h p =
        same k (omega (arith, i.next_is)) (pad_later at (section_at t at address size) ss k (rw (next_at o t at i) p) (rw (next_at o t at i) h))

  -- both read alike from there on
  read_alike : (at : ℕ) → Same at (read_on o t at).sections → bare_reading (read_on o t at) ≡ bare_reading (read_on o u at)
  unfolding before bare_reading
  read_alike = step_ind o t (λ (at : ℕ). Same at (read_on o t at).sections → bare_reading (read_on o t at) ≡ bare_reading (read_on o u at))
      (λ at e same. rw (read_end o t at e, read_end o u at (sym (next_step at (read_on o t at).sections same) ∙ e)) refl)
      (λ at number place e same. rw (read_fault o t at e, read_fault o u at (sym (next_step at (read_on o t at).sections same) ∙ e)) refl)
      (λ at address size start next e on same.
      let there : Same at (section_at t at address size ∷ (read_on o t next).sections) = rw (read_section o t at e) at same in
      let b = same_bare at (section_of o t at e) (read_on o t next).sections there in
      let r = on (same_on at (section_of o t at e) (read_on o t next).sections there) in
      rw (read_section o t at e, read_section o u at (sym (next_step at (read_on o t at).sections same) ∙ e)) (λ j. before (b j) (r j)))

-- ---- what does not look at pads

-- comes out the same for sections that are the same but for their pads
pub by_bare : {A : Type 0} (f : List Sect → A) → ((ss : List Sect) → f (map bare ss) ≡ f ss) → (xs ys : List Sect) → map bare xs ≡ map bare ys → f xs ≡ f ys
by_bare f same xs ys e = sym (same xs) ∙ ap f e ∙ same ys

-- where pads stand
pad_bare : (at : ℕ) (ss : List Sect) (i : ℕ) → pad_from at (map bare ss) i ≡ pad_from at ss i
unfolding pad_from bare
pad_bare at [] i = refl
pad_bare at (s ∷ ss) i = ap (λ (b : Bool). in_pads at (length s.body) i || b) (pad_bare (next_of at (length s.body)) ss i)

-- the data bytes of sections
pub total_bare : (ss : List Sect) → total (map bare ss) ≡ total ss
unfolding total bare
total_bare [] = refl
total_bare (s ∷ ss) = ap (λ (n : ℕ). length s.body + n) (total_bare ss)

-- and the form
form_bare : (r : Reading) → read_form (bare_reading r) ≡ read_form r
unfolding read_form bare_reading
form_bare r = rw (total_bare r.sections, length-map) refl

-- ---- tables that differ in pad bytes alone

module _ (o : ByteOrder) (t u : List ℕ) (d : DifferInPads o t u) where
  -- have one entry
  pub pads_entry : entry_of o t ≡ entry_of o u
  pads_entry = header_same o t u _ _ (λ k l. d.same _ (pad_low 4 (reading o t).sections _ (omega arith)))

  pads_reading : bare_reading (reading o t) ≡ bare_reading (reading o u)
  unfolding reading
  pads_reading =
      by_cases (dec_le 4 (length t))
      (λ h.
      let r = read_begins o t h in
      let q = read_begins o u (omega (arith, d.long)) in
      ap bare_reading r ∙ read_alike o t u d.long 4 (λ i l p. d.same i (rw r p)) ∙ sym (ap bare_reading q))
      (λ h. simp (lt-ltb (length t) 4 (omega arith), lt-ltb (length u) 4 (omega (arith, d.long))))

  -- the same sections but for their pads
  pub pads_sections : map bare (reading o t).sections ≡ map bare (reading o u).sections
  unfolding bare_reading
  pads_sections = ap (λ (r : Reading). r.sections) pads_reading

  -- and the same form: the same fault, or the same counts
  pub pads_form : form_of o t ≡ form_of o u
  unfolding form_of
  pads_form =
      let r : read_form (reading o t) ≡ read_form (reading o u) = sym (form_bare (reading o t)) ∙ ap read_form pads_reading ∙ form_bare (reading o u) in
      rw (d.long, r) refl

  -- so that the second is well-formed where the first is
  pub pads_well : WellFormed o t → WellFormed o u
  unfolding bare_reading
  pads_well w = record { short = omega (arith, w.short, d.long); whole = sym (ap (λ (r : Reading). r.fault) pads_reading) ∙ w.whole }

  -- and the other way round they differ in pad bytes alone too
  pub pads_sym : DifferInPads o u t
  pads_sym = record {
    long = sym d.long;
    same = λ i p. sym (d.same i (by_bare (λ (ss : List Sect). pad_from 4 ss i) (λ ss. pad_bare 4 ss i) (reading o t).sections (reading o u).sections pads_sections ∙ p));
  }

-- ---- sections that are the same but for their pads

-- an offset between the end of a section's data and what stands next is a pad
pad_in : (at size i : ℕ) → 8 + size ≤ i → i < 8 + size + pad_count size → in_pads at size (at + i) ≡ true
unfolding in_pads next_of
pad_in at size i h k = simp (le-leb (at + 8 + size) (at + i) (omega arith), lt-ltb (at + i) (at + 8 + size + pad_count size) (omega arith))

-- an offset behind a section of n bytes
next_on : (at size i n : ℕ) → n ≡ 8 + size + pad_count size → n ≤ i → next_of at size + (i - n) ≡ at + i
unfolding next_of
next_on at size i n e h = omega arith

-- a byte of two lists one after the other: in the first, and behind it
get_front : (h z : List ℕ) (i : ℕ) → i < length h → get_or (h ++ z) i 0 ≡ get_or h i 0
get_front h z i l = sym (get_or-take (length h) (h ++ z) i 0 l) ∙ ap (λ (x : List ℕ). get_or x i 0) (take_at h z (length h) refl)

get_behind : (h z : List ℕ) (i j : ℕ) → i ≡ length h + j → get_or (h ++ z) i 0 ≡ get_or z j 0
get_behind h z i j e = rw e (get_or-append-add h z j 0)

-- two valid sections with one address and the same data, before bytes q and r
module _ (o : ByteOrder) (x y : Sect) (v : Valid x) (w : Valid y) (alike : bare x ≡ bare y) where
  same_data : x.body ≡ y.body
  unfolding bare
  same_data = ap (λ (s : Sect). s.body) alike

  -- they have as many bytes
  same_length : length (chunk o x) ≡ length (chunk o y)
  same_length = length_chunk o x v ∙ rw same_data (sym (length_chunk o y w))

  -- and up to their pads the same
  same_front : (q r : List ℕ) (i : ℕ) → i < 8 + length x.body → get_or (chunk o x ++ q) i 0 ≡ get_or (chunk o y ++ r) i 0
  unfolding chunk bare
  same_front q r i h =
      let head : List ℕ = header_bytes o (length x.body) ++ header_bytes o x.address ++ x.body in
      let l : i < length head = simp (length-append, length_header) (omega arith) in
      let e : header_bytes o (length y.body) ++ header_bytes o y.address ++ y.body ≡ head =
      rw (same_data, ap (λ (s : Sect). s.address) alike) refl in
      let f : chunk o x ++ q ≡ head ++ (x.pads ++ q) = simp append_assoc in
      let g : chunk o y ++ r ≡ head ++ (y.pads ++ r) = rw (← e) (simp append_assoc) in
      rw (f, g, get_front head (x.pads ++ q) i l, get_front head (y.pads ++ r) i l) refl

  -- and after them what follows
  same_behind : (q r : List ℕ) (i j : ℕ) → i ≡ length (chunk o x) + j → get_or q j 0 ≡ get_or r j 0 → get_or (chunk o x ++ q) i 0 ≡ get_or (chunk o y ++ r) i 0
  same_behind q r i j e same =
      get_behind (chunk o x) q i j e ∙ same ∙ sym (get_behind (chunk o y) r i j (e ∙ ap (λ (n : ℕ). n + j) same_length))

-- two lists of valid sections that are the same but for their pads have as many bytes
chunks_length : (o : ByteOrder) (xs ys : List Sect) → All Valid xs → All Valid ys → map bare xs ≡ map bare ys → length (chunks o xs) ≡ length (chunks o ys)
unfolding chunks
chunks_length o [] [] vs ws e = refl
chunks_length o [] (y ∷ ys) vs ws e = absurd (omega (arith, ap length e))
chunks_length o (x ∷ xs) [] vs ws e = absurd (omega (arith, ap length e))
chunks_length o (x ∷ xs) (y ∷ ys) (also v vs) (also w ws) e =
    simp length-append (omega (arith, same_length o x y v w (cc), chunks_length o xs ys vs ws (cc)))

-- and at each offset that is no pad the same byte
chunks_same : (o : ByteOrder) (at : ℕ) (xs ys : List Sect) (z : List ℕ) → All Valid xs → All Valid ys → map bare xs ≡ map bare ys
    → (i : ℕ) → pad_from at xs (at + i) ≡ false → get_or (chunks o xs ++ z) i 0 ≡ get_or (chunks o ys ++ z) i 0
unfolding chunks pad_from
chunks_same o at [] [] z vs ws e i p = refl
chunks_same o at [] (y ∷ ys) z vs ws e i p = absurd (omega (arith, ap length e))
chunks_same o at (x ∷ xs) [] z vs ws e i p = absurd (omega (arith, ap length e))
chunks_same o at (x ∷ xs) (y ∷ ys) z (also v vs) (also w ws) e i p =
    let alike : bare x ≡ bare y = cc in
    let n : length (chunk o x) ≡ 8 + length x.body + pad_count (length x.body) = length_chunk o x v in
    let none_of = or_no (in_pads at (length x.body) (at + i)) (pad_from (next_of at (length x.body)) xs (at + i)) p in
    simp append_assoc
    (by_cases (dec_le (suc i) (8 + length x.body))
    (λ h. same_front o x y v w alike (chunks o xs ++ z) (chunks o ys ++ z) i h)
    (λ h. by_cases (dec_le (length (chunk o x)) i)
    (λ k.
    let j : ℕ = i - length (chunk o x) in
    let there : next_of at (length x.body) + j ≡ at + i = next_on at (length x.body) i (length (chunk o x)) n k in
    same_behind o x y v w alike (chunks o xs ++ z) (chunks o ys ++ z) i j (omega arith)
    (chunks_same o (next_of at (length x.body)) xs ys z vs ws (cc) j (rw there none_of.1)))
    (λ k. absurd (both_ways _ (pad_in at (length x.body) i (omega arith) (omega arith)) none_of.0))))

table_same : (o : ByteOrder) (entry : ℕ) (xs ys : List Sect) → All Valid xs → All Valid ys → map bare xs ≡ map bare ys
    → (i : ℕ) → pad_from 4 xs i ≡ false → get_or (table_of o entry xs) i 0 ≡ get_or (table_of o entry ys) i 0
unfolding table_of
table_same o entry xs ys vs ws e i p =
    let h : List ℕ = header_bytes o entry in
    let q : List ℕ = chunks o xs ++ header_bytes o 0 in
    let r : List ℕ = chunks o ys ++ header_bytes o 0 in
    simp append_assoc
    (by_cases (dec_le (suc i) 4)
    (λ l.
    let k : i < length h = rw length_header l in
    get_front h q i k ∙ sym (get_front h r i k))
    (λ l.
    let k : i ≡ length h + (i - 4) = rw length_header (omega arith) in
    let n : 4 + (i - 4) ≡ i = omega arith in
    get_behind h q i (i - 4) k ∙ chunks_same o 4 xs ys (header_bytes o 0) vs ws e (i - 4) (rw n p) ∙ sym (get_behind h r i (i - 4) k)))

-- Valid sections that are the same but for their pads make tables that differ in pad bytes alone.
pub pads_differ : (o : ByteOrder) (entry : ℕ) (xs ys : List Sect) → All Valid xs → All Valid ys → map bare xs ≡ map bare ys → DifferInPads o (table_of o entry xs) (table_of o entry ys)
pads_differ o entry xs ys vs ws e = record {
  long = length_table o entry xs ∙ rw (chunks_length o xs ys vs ws e) (sym (length_table o entry ys));
  same = λ i p. table_same o entry xs ys vs ws e i (rw (read_table o entry xs vs) at p);
}

-- Two well-formed tables of bytes differ in pad bytes alone exactly when they have one entry and the same sections but for their pads.
pub pads_iff : (o : ByteOrder) (t u : List ℕ) → Bytes t → Bytes u → WellFormed o t → WellFormed o u
    → (DifferInPads o t u) ↔ ((entry_of o t ≡ entry_of o u) × (map bare (reading o t).sections ≡ map bare (reading o u).sections))
pads_iff o t u b c v w = (
  λ d. (pads_entry o t u d, pads_sections o t u d),
  λ s.
      let there : table_of o (entry_of o t) (reading o u).sections ≡ u = ap (λ (n : ℕ). table_of o n (reading o u).sections) s.0 ∙ table_read o u c w in
      let d = pads_differ o (entry_of o t) (reading o t).sections (reading o u).sections (valid_read o t b v) (valid_read o u c w) s.1 in
      subst (λ (x : List ℕ). DifferInPads o x u) (table_read o t b v) (subst (DifferInPads o (table_of o (entry_of o t) (reading o t).sections)) there d),
)
