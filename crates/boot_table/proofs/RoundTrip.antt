-- The round trips between a table and its sections.
use Prim.Native.Nat.{ℕ, ◌+◌, ◌-◌, ◌<◌, ◌^◌}
use mathlib.Core.Path.{◌≡◌, refl, sym, ap, ◌∙◌}
use mathlib.Core.List.{List, [], ◌∷◌, ◌++◌, append_assoc, append-nil}
use native.Mathlib.Nat.{add-zero}
use native.Mathlib.Omega.{arith}
use borrow.Author.Tests.{eq-eqb}
use lib.ListN.{length, take, drop, length-append, length-drop, take-append-drop}
use lib.Seq.{take_all, take_at, drop_at, drop-drop}
use Rattle.words.specs.declared.ByteOrder.{ByteOrder}
use Rattle.words.specs.Word.{Bytes, pad_count}
use Rattle.words.specs.Header.{header_at, header_bytes}
use Rattle.words.proofs.HeaderLaws.{header_seam, header_bytes_lem, header_between, length_header}
use Rattle.boot_table.specs.Table.{entry_of, Sect, Reading, chunk, chunks, table_of, section_at, before, read_on, reading}
use Rattle.boot_table.specs.Form.{WellFormed}
use Rattle.boot_table.specs.Valid.{Valid, All, none, also}
use Rattle.boot_table.proofs.StepLaws.{IsSection, section_step_lem, end_of, end_step_lem}
use Rattle.boot_table.proofs.ReadLaws.{read_section, read_end, read_begins}
use Rattle.boot_table.proofs.FormLaws.{well_read, well_long}
use Rattle.boot_table.proofs.FrontLaws.{behind, entry_bytes, read_stops, read_front, zero_word, read_valid}

-- ---- lengths, and sections one after another

-- the bytes of sections stand one after another
pub chunks_append : (o : ByteOrder) (xs ys : List Sect) → chunks o (xs ++ ys) ≡ chunks o xs ++ chunks o ys
unfolding chunks
chunks_append o [] ys = refl
chunks_append o (x ∷ xs) ys = rw (chunks_append o xs ys) (simp append_assoc)

-- a table has its entry word and its zero word besides its sections
pub length_table : (o : ByteOrder) (e : ℕ) (ss : List Sect) → length (table_of o e ss) ≡ 8 + length (chunks o ss)
unfolding table_of
length_table o e ss = simp (length-append, length_header) (omega arith)

-- in every byte order the same sections have as many bytes
chunks_orders : (o p : ByteOrder) (ss : List Sect) → length (chunks o ss) ≡ length (chunks p ss)
unfolding chunks chunk
chunks_orders o p [] = refl
chunks_orders o p (s ∷ ss) = simp (length-append, length_header) (omega (arith, chunks_orders o p ss))

pub length_orders : (o p : ByteOrder) (entry : ℕ) (ss : List Sect) → length (table_of o entry ss) ≡ length (table_of p entry ss)
length_orders o p entry ss = length_table o entry ss ∙ rw (chunks_orders o p ss) (sym (length_table p entry ss))

-- sections of two lists with a property have it one after another
pub all_append : {P : Sect → Type 0} {xs ys : List Sect} → All P xs → All P ys → All P (xs ++ ys)
all_append none q = q
all_append (also p ps) q = also p (all_append ps q)

pub all_parts : {P : Sect → Type 0} (xs ys : List Sect) → All P (xs ++ ys) → (All P xs) × (All P ys)
all_parts [] ys q = (none, q)
all_parts (x ∷ xs) ys (also p ps) = let r = all_parts xs ys ps in (also p r.0, r.1)

-- ---- written, then read

-- a valid section has its two header words, its data, and as many pads as follow from its size
pub length_chunk : (o : ByteOrder) (s : Sect) → Valid s → length (chunk o s) ≡ 8 + length s.body + pad_count (length s.body)
unfolding chunk
length_chunk o s v = simp (length-append, length_header) (omega (arith, v.padded))

-- a valid section that stands between p and q
module _ (o : ByteOrder) (p q : List ℕ) (s : Sect) (v : Valid s) where
  -- the bytes cut before its address, before its data, and before its pads
  cut_address : p ++ (chunk o s ++ q) ≡ (p ++ header_bytes o (length s.body)) ++ (header_bytes o s.address ++ (s.body ++ s.pads ++ q))
  unfolding chunk
  cut_address = simp append_assoc

  cut_body : p ++ (chunk o s ++ q) ≡ (p ++ header_bytes o (length s.body) ++ header_bytes o s.address) ++ (s.body ++ (s.pads ++ q))
  unfolding chunk
  cut_body = simp append_assoc

  cut_pads : p ++ (chunk o s ++ q) ≡ (p ++ header_bytes o (length s.body) ++ header_bytes o s.address ++ s.body) ++ (s.pads ++ q)
  unfolding chunk
  cut_pads = simp append_assoc

  -- its words, data and pads as they are read
  size_at : header_at o (p ++ (chunk o s ++ q)) (length p) ≡ length s.body
  unfolding chunk
  size_at = header_seam o p (chunk o s ++ q) ∙ simp append_assoc (header_bytes_lem o (length s.body) _ v.small)

  address_at : header_at o (p ++ (chunk o s ++ q)) (length p + 4) ≡ s.address
  address_at =
      let l : length (p ++ header_bytes o (length s.body)) ≡ length p + 4 = simp (length-append, length_header) in
      let e = header_between o (p ++ header_bytes o (length s.body)) (s.body ++ s.pads ++ q) s.address (omega (arith, v.some, v.top)) in
      cc (cut_address)

  body_at : take (length s.body) (drop (length p + 8) (p ++ (chunk o s ++ q))) ≡ s.body
  body_at =
      rw (
        cut_body,
        drop_at (p ++ header_bytes o (length s.body) ++ header_bytes o s.address) _ (length p + 8) (simp (length-append, length_header) (omega arith)),
        take_at s.body _ (length s.body) refl,
      ) refl

  pads_at : take (pad_count (length s.body)) (drop (length p + 8 + length s.body) (p ++ (chunk o s ++ q))) ≡ s.pads
  pads_at =
      rw (
        cut_pads,
        drop_at (p ++ header_bytes o (length s.body) ++ header_bytes o s.address ++ s.body) _ (length p + 8 + length s.body) (simp (length-append, length_header) (omega arith)),
        take_at s.pads q (pad_count (length s.body)) v.padded,
      ) refl

  -- so the section stands there, and is read
  chunk_at : IsSection o (p ++ (chunk o s ++ q)) (length p) s.address (length s.body) (length p + 8) (length p + length (chunk o s))
  chunk_at = record {
    start_is = refl;
    next_is = omega (arith, length_chunk o s v);
    within = simp length-append (omega arith);
    some = v.some;
    head = simp length-append (omega (arith, length_chunk o s v));
    size_is = sym size_at;
    address_is = sym address_at;
    top = v.top;
  }

  section_at_lem : section_at (p ++ (chunk o s ++ q)) (length p) s.address (length s.body) ≡ s
  unfolding section_at
  section_at_lem = λ i. record { address = s.address; body = body_at i; pads = pads_at i }

-- sections, and behind them those of a reading
abbrev pub and_then : List Sect → Reading → Reading
and_then ss r = record { sections = ss ++ r.sections; fault = r.fault; place = r.place }

-- valid sections that stand between p and q are read, and then what is read behind them; t is a variable, so that nothing rewrites it
pub read_run : (o : ByteOrder) (t p q : List ℕ) (at : ℕ) {ss : List Sect} → All Valid ss → t ≡ p ++ (chunks o ss ++ q) → at ≡ length p
    → read_on o t at ≡ and_then ss (read_on o t (at + length (chunks o ss)))
unfolding chunks before
read_run o t p q at none e l = rw add-zero refl
read_run o t p q at (also {s = s} {ss = ss} v vs) e l =
    let f : t ≡ p ++ (chunk o s ++ (chunks o ss ++ q)) = e ∙ simp append_assoc in
    let i : IsSection o t at s.address (length s.body) (at + 8) (at + length (chunk o s)) = rw (f, l) (chunk_at o p (chunks o ss ++ q) s v) in
    let b : section_at t at s.address (length s.body) ≡ s = rw (f, l) (section_at_lem o p (chunks o ss ++ q) s v) in
    let n : at + length (chunk o s ++ chunks o ss) ≡ at + length (chunk o s) + length (chunks o ss) = simp length-append (omega arith) in
    let r = read_run o t (p ++ chunk o s) q (at + length (chunk o s)) vs (f ∙ simp append_assoc) (simp length-append (omega arith)) in
    read_section o t at (section_step_lem o t at i) ∙ rw (b, r, n) refl

-- up to the zero word they are all that is read
read_chunks : (o : ByteOrder) (t p : List ℕ) (at : ℕ) {ss : List Sect} → All Valid ss → t ≡ p ++ (chunks o ss ++ header_bytes o 0) → at ≡ length p
    → read_on o t at ≡ record { sections = ss; fault = 0; place = 0 }
read_chunks o t p at {ss} v e l =
    let f : t ≡ (p ++ chunks o ss) ++ (header_bytes o 0 ++ []) = e ∙ simp (append_assoc, append-nil) in
    let n : at + length (chunks o ss) ≡ length (p ++ chunks o ss) = simp length-append (omega arith) in
    let zero : header_at o t (at + length (chunks o ss)) ≡ 0 =
    rw (f, n) (header_between o (p ++ chunks o ss) [] 0 (omega arith)) in
    let end = end_step_lem o t (at + length (chunks o ss)) (rw f (simp (length-append, length_header) (omega arith))) zero in
    read_run o t p (header_bytes o 0) at v e l ∙ rw (read_end o t (at + length (chunks o ss)) end, append-nil) refl

-- Valid sections that are written as a table are read back from it, pads too, without a fault.
pub read_table : (o : ByteOrder) (entry : ℕ) (ss : List Sect) → All Valid ss → reading o (table_of o entry ss) ≡ record { sections = ss; fault = 0; place = 0 }
unfolding table_of
read_table o entry ss v =
    read_begins o (table_of o entry ss) (simp (length-append, length_header) (omega arith))
    ∙ (read_chunks o (table_of o entry ss) (header_bytes o entry) 4 v (simp append_assoc) (sym (length_header o entry)))

-- The entry is read back too.
pub entry_table : (o : ByteOrder) (entry : ℕ) (ss : List Sect) → entry < 2 ^ 32 → entry_of o (table_of o entry ss) ≡ entry
unfolding table_of
entry_table o entry ss h = simp append_assoc (header_bytes_lem o entry (chunks o ss ++ header_bytes o 0) h)

-- ---- read, then written

module _ (o : ByteOrder) (t : List ℕ) (b : Bytes t) (w : WellFormed o t) where
  -- the entry word of a well-formed table
  pub read_head : take 4 t ≡ header_bytes o (entry_of o t)
  read_head = entry_bytes o t b (omega (arith, well_long o t w))

  -- its sections and its zero word
  past_head : drop 4 t ≡ chunks o (reading o t).sections ++ header_bytes o 0
  past_head =
      let r = well_read o t w in
      let at = behind o t 4 in
      let z = end_of o t at (read_stops o t 4 ∙ rw (eq-eqb _ _ r.1) refl) in
      let a : take 4 (drop at t) ≡ drop at t = take_all 4 (drop at t) (simp length-drop (omega arith)) in
      rw r.0 (read_front o t b 4 ∙ ap (chunks o (read_on o t 4).sections ++◌) (sym a ∙ zero_word o t b at (omega arith) z.1))

  -- A well-formed table is the table of its entry and of the sections that are read from it.
  pub table_read : table_of o (entry_of o t) (reading o t).sections ≡ t
  unfolding table_of
  table_read = simp append_assoc (rw (← past_head, ← read_head) (take-append-drop 4 t))

  -- Those sections are valid.
  pub valid_read : All Valid (reading o t).sections
  valid_read = rw (well_read o t w).0 (read_valid o t b 4)

  -- their bytes are all but eight of the table's
  pub length_read : length t ≡ 8 + length (chunks o (reading o t).sections)
  length_read = ap length (sym table_read) ∙ length_table o (entry_of o t) (reading o t).sections

  -- the sections by themselves
  pub read_middle : take (length t - 8) (drop 4 t) ≡ chunks o (reading o t).sections
  read_middle = ap (take (length t - 8)) past_head ∙ take_at (chunks o (reading o t).sections) (header_bytes o 0) (length t - 8) (omega (arith, length_read))

  -- the zero word by itself
  pub read_zero : drop (length t - 4) t ≡ header_bytes o 0
  read_zero =
      let n : 4 + (length t - 8) ≡ length t - 4 = omega (arith, length_read) in
      rw (← n, ← (drop-drop (length t - 8) 4 t), past_head) (drop_at (chunks o (reading o t).sections) (header_bytes o 0) (length t - 8) (omega (arith, length_read)))
