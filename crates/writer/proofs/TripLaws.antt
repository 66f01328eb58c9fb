-- A table that was written reads back as what it was written from, and a table whose pads are zero is what is written from its own sections.
use Prim.Native.Nat.{ℕ, suc, ◌+◌, ◌-◌, ◌^◌, ◌≤◌, ◌<◌, zero-le}
use mathlib.Core.Path.{◌≡◌, refl, sym, ap, ◌∙◌}
use mathlib.Core.Logic.{◌↔◌}
use mathlib.Core.List.{List, [], ◌∷◌, ◌++◌, append_assoc}
use native.Mathlib.Omega.{arith}
use lib.ListN.{length, take, drop, replicate, length-append, length-replicate}
use lib.Seq.{take_at, drop_at}
use Rattle.words.specs.declared.ByteOrder.{ByteOrder}
use Rattle.words.specs.Word.{Bytes, pad_count}
use Rattle.words.specs.Header.{header_bytes}
use Rattle.words.proofs.HeaderLaws.{header_lt}
use Rattle.words.proofs.WordLaws.{bytes_take, bytes_drop, bytes_append, bytes_parts}
use Rattle.boot_table.specs.Table.{Sect, Reading, chunk, chunks, table_of, entry_of, reading}
use Rattle.boot_table.specs.Form.{WellFormed}
use Rattle.boot_table.specs.Valid as Valids
use Rattle.boot_table.specs.Valid.{Valid, All}
use Rattle.boot_table.proofs.RoundTrip.{read_table, entry_table, table_read, valid_read, length_read, read_middle}
use Rattle.writer.specs.declared.Section.{Section}
use Rattle.writer.specs.Write as Write
use Rattle.writer.specs.Write.{WriteAnswer, data_of, sect_of, sects_of, written_table, fault_of, Faultless, write_answer, write_output}
use Rattle.writer.specs.Trips as Trips
use Rattle.writer.specs.Trips.{Writable, written_in, ReadsBack, WrittenReads, own_data, own_list, Words, ZeroPads, Rewritten, TablesRewritten}
use Rattle.writer.proofs.FaultLaws.{faultless_section, fault_none, length_data}
use Rattle.writer.proofs.AnswerLaws.{length_written, write_accepts, write_only, output_kept, output_written}

-- ---- when a table is written, and what the output then holds

module _ (o : ByteOrder) (entry : ℕ) (xs : List Section) (d : List ℕ) where
  -- the table is written exactly when no section of the list has a fault, the table is within the limit, and the output has room
  pub writable_iff : (room : ℕ) → ((write_answer o entry xs d room).number ≡ 0) ↔ (Writable o entry xs d room)
  writable_iff room = (
    λ z. let w = write_only o entry xs d room z in record { faultless = w.0; short = w.1; fits = w.2 },
    λ w. ap (λ (r : WriteAnswer). r.number) (write_accepts o entry xs d room w.faultless w.short w.fits),
  )

  module _ (out : List ℕ) (w : Writable o entry xs d (length out)) where
    abbrev table : List ℕ
    table = written_table o entry xs d

    accepts : write_answer o entry xs d (length out) ≡ record { number = 0; place = 0; length = length table; sections = length xs }
    accepts = write_accepts o entry xs d (length out) w.faultless w.short w.fits

    holds : write_output o entry xs d out ≡ table ++ drop (length table) out
    holds = sym (output_written o entry xs d out _ (sym accepts) refl)

    -- the output's first bytes, as many as are reported, are the table, and the bytes past it are kept
    pub write_front : written_in o entry xs d out ≡ table
    unfolding written_in
    write_front = ap (λ (r : WriteAnswer). take r.length (write_output o entry xs d out)) accepts ∙ rw holds (take_at table (drop (length table) out) (length table) refl)

    pub write_rest : drop (length table) (write_output o entry xs d out) ≡ drop (length table) out
    write_rest = rw holds (drop_at table (drop (length table) out) (length table) refl)

  -- a refusal changes no byte
  pub write_refused : (out : List ℕ) → ((write_answer o entry xs d (length out)).number ≡ 0 → ⊥) → write_output o entry xs d out ≡ out
  write_refused out n = sym (output_kept o entry xs d out _ refl n)

-- ---- written, then read

-- the data of a section is within the bytes of its table
data_chunks : (o : ByteOrder) (x : Section) (xs : List Section) (d : List ℕ) → length (data_of d x) + length (chunks o (sects_of xs d)) ≤ length (chunks o (sects_of (x ∷ xs) d))
unfolding chunks sects_of sect_of chunk
data_chunks o x xs d = simp length-append (omega arith)

-- the sections of a list without a fault are valid, where their bytes are fewer than a word counts
sects_valid : (o : ByteOrder) (d : List ℕ) {xs : List Section} → Faultless (length d) xs → length (chunks o (sects_of xs d)) < 2 ^ 32 → All Valid (sects_of xs d)
unfolding sects_of sect_of
sects_valid o d Write.none h = Valids.none
sects_valid o d (Write.also {x = x} {xs = xs} z s) h =
    let q = faultless_section x (length d) z in
    let l : length (data_of d x) ≡ x.size = length_data d x z in
    let k = data_chunks o x xs d in
    let v : Valid (sect_of d x) = record { some = rw l q.0; small = omega arith; top = rw l q.2; padded = rw l (length-replicate (pad_count x.size) 0) } in
    Valids.also v (sects_valid o d s (omega arith))

length_sects : (xs : List Section) (d : List ℕ) → length (sects_of xs d) ≡ length xs
unfolding sects_of
length_sects [] d = refl
length_sects (x ∷ xs) d = ap suc (length_sects xs d)

-- Reading the written table back gives the entry, and the addresses and the data of the list in its order.
module _ (o : ByteOrder) (entry : ℕ) (xs : List Section) (d out : List ℕ) (w : Writable o entry xs d (length out)) where
  pub read_written : reading o (written_table o entry xs d) ≡ record { sections = sects_of xs d; fault = 0; place = 0 }
  unfolding written_table
  read_written = read_table o entry (sects_of xs d) (sects_valid o d w.faultless (omega (arith, w.short, length_written o entry xs d)))

  entry_written : entry < 2 ^ 32 → entry_of o (written_table o entry xs d) ≡ entry
  unfolding written_table
  entry_written h = entry_table o entry (sects_of xs d) h

  back : entry < 2 ^ 32 → ReadsBack o entry xs d (written_in o entry xs d out)
  back h = rw (write_front o entry xs d out w) (record {
    well = record { short = w.short; whole = ap (λ (r : Reading). r.fault) read_written };
    begins = entry_written h;
    sections = ap (λ (r : Reading). r.sections) read_written;
    count = ap (λ (r : Reading). length r.sections) read_written ∙ length_sects xs d;
  })

pub reads_back : WrittenReads
reads_back o entry xs d out h w = back o entry xs d out w h

-- ---- read, then written

-- valid sections with zero pads are what their own list and data stand for, whatever data p stands before
own_sects : (p : List ℕ) {ss : List Sect} → All Valid ss → All ZeroPads ss → sects_of (own_list (length p) ss) (p ++ own_data ss) ≡ ss
unfolding sects_of sect_of data_of own_list own_data ZeroPads
own_sects p Valids.none Valids.none = refl
own_sects p (Valids.also {s = s} {ss = ss} v vs) (Valids.also z zs) =
    let n : length (p ++ s.body) ≡ length p + length s.body = length-append p s.body in
    let b : take (length s.body) (drop (length p) (p ++ (s.body ++ own_data ss))) ≡ s.body =
    rw (drop_at p (s.body ++ own_data ss) (length p) refl) (take_at s.body (own_data ss) (length s.body) refl) in
    let q : replicate (pad_count (length s.body)) 0 ≡ s.pads = rw (← v.padded) (sym z) in
    let f : sect_of (p ++ (s.body ++ own_data ss)) (record { address = s.address; start = length p; size = length s.body }) ≡ s =
    λ i. record { address = s.address; body = b i; pads = q i } in
    let r : sects_of (own_list (length p + length s.body) ss) (p ++ (s.body ++ own_data ss)) ≡ ss = rw (← n, ← append_assoc) (own_sects (p ++ s.body) vs zs) in
    λ i. f i ∷ r i

-- no section of that list has a fault
own_faultless : (p : List ℕ) {ss : List Sect} → All Valid ss → Faultless (length (p ++ own_data ss)) (own_list (length p) ss)
unfolding own_list own_data
own_faultless p Valids.none = Write.none
own_faultless p (Valids.also {s = s} {ss = ss} v vs) =
    let n : length (p ++ s.body) ≡ length p + length s.body = length-append p s.body in
    let m : length (p ++ (s.body ++ own_data ss)) ≡ length p + (length s.body + length (own_data ss)) = simp length-append in
    let z : fault_of (record { address = s.address; start = length p; size = length s.body }) (length (p ++ (s.body ++ own_data ss))) ≡ 0 =
    sym (fault_none _ _ (λ c. omega (arith, v.some)) (omega arith) v.top) in
    let rest : Faultless (length (p ++ (s.body ++ own_data ss))) (own_list (length p + length s.body) ss) = rw (← n, ← append_assoc) (own_faultless (p ++ s.body) vs) in
    Write.also z rest

-- its numbers are words, where the data is so short
own_words : (start : ℕ) {ss : List Sect} → All Valid ss → start + length (own_data ss) < 2 ^ 32 → Words (own_list start ss)
unfolding own_list own_data
own_words start Valids.none h = Trips.none
own_words start (Valids.also {s = s} {ss = ss} v vs) h =
    let n : length (s.body ++ own_data ss) ≡ length s.body + length (own_data ss) = length-append s.body (own_data ss) in
    let a : s.address < 2 ^ 32 = omega (arith, v.some, v.top) in
    let b : start < 2 ^ 32 = omega arith in
    Trips.also a b v.small (own_words (start + length s.body) vs (omega arith))

own_count : (start : ℕ) (ss : List Sect) → length (own_list start ss) ≡ length ss
unfolding own_list
own_count start [] = refl
own_count start (s ∷ ss) = ap suc (own_count (start + length s.body) ss)

-- the data of sections is within their bytes
own_short : (o : ByteOrder) (ss : List Sect) → length (own_data ss) ≤ length (chunks o ss)
unfolding own_data chunks chunk
own_short o [] = zero-le
own_short o (s ∷ ss) = simp length-append (omega (arith, own_short o ss))

-- it is bytes where theirs are
own_bytes : (o : ByteOrder) (ss : List Sect) → Bytes (chunks o ss) → Bytes (own_data ss)
unfolding own_data chunks chunk
own_bytes o [] b = b
own_bytes o (s ∷ ss) b =
    let head : List ℕ = header_bytes o (length s.body) ++ header_bytes o s.address in
    let p = bytes_parts (head ++ s.body ++ s.pads) (chunks o ss) b in
    let q = bytes_parts (head ++ s.body) s.pads p.0 in
    bytes_append s.body (own_data ss) (bytes_parts head s.body q.0).1 (own_bytes o ss p.1)

-- Every well-formed table whose pads are zero is what the writer makes from its own sections.
module _ (o : ByteOrder) (t : List ℕ) (b : Bytes t) (w : WellFormed o t) (z : All ZeroPads (reading o t).sections) where
  abbrev own : List Sect
  own = (reading o t).sections

  valid : All Valid own
  valid = valid_read o t b w

  table_is : written_table o (entry_of o t) (own_list 0 own) (own_data own) ≡ t
  unfolding written_table
  table_is = ap (table_of o (entry_of o t)) (own_sects [] valid z) ∙ table_read o t b w

  again : (out : List ℕ) → length t ≤ length out → Rewritten o t out
  again out h =
      let m : length (chunks o own) ≤ length t = omega (arith, length_read o t b w) in
      let g : Writable o (entry_of o t) (own_list 0 own) (own_data own) (length out) =
      record { faultless = own_faultless [] valid; short = rw table_is w.short; fits = rw table_is h } in
      record {
        entry = header_lt o t 0 b;
        words = own_words 0 valid (omega (arith, own_short o own, w.short));
        bytes = own_bytes o own (rw (read_middle o t b w) at (bytes_take (drop 4 t) (length t - 8) (bytes_drop t 4 b)));
        answer = accepts _ _ _ _ out g ∙ rw (table_is, own_count 0 own) refl;
        output = holds _ _ _ _ out g ∙ rw table_is refl;
      }

pub rewritten : TablesRewritten
rewritten o t out b w z h = again o t b w z out h
