-- The sections that are read from a table, damaged or not: their bytes, and what stands behind them.
use Prim.Native.Nat.{ℕ, ◌+◌, ◌≤◌}
use mathlib.Core.Path.{◌≡◌, refl, sym, ap, ◌∙◌}
use mathlib.Core.List.{List, ◌++◌, append_assoc}
use native.Mathlib.Nat.{add-zero}
use native.Mathlib.Omega.{arith}
use borrow.Author.Tests.{ne_eqb}
use lib.ListN.{length, take, drop, length-append, take-append-drop}
use lib.Dec.{eqb}
use lib.Seq.{drop-drop}
use Rattle.words.specs.declared.ByteOrder.{ByteOrder}
use Rattle.words.specs.Choice.{if}
use Rattle.words.specs.Word.{Bytes, pad_count}
use Rattle.words.specs.Header.{header_at, header_bytes}
use Rattle.words.proofs.HeaderLaws.{length_header, bytes_header, header_lt}
use Rattle.boot_table.specs.Table.{Step, End, Fault, entry_of, chunk, chunks, step_at, section_at, before, read_on, reading}
use Rattle.boot_table.specs.Valid.{Valid, All, none, also}
use Rattle.boot_table.proofs.StepLaws.{IsSection, section_of, fault_number, length_body, length_pads}
use Rattle.boot_table.proofs.ReadLaws.{read_section, read_end, read_fault, read_begins, step_ind}

-- ---- offsets

-- a section ends where the next step stands
pub section_ends : (o : ByteOrder) (t : List ℕ) (at : ℕ) {address size start next : ℕ} → IsSection o t at address size start next
    → at + length (chunk o (section_at t at address size)) ≡ next
unfolding chunk
section_ends o t at i = simp (length-append, length_header) (omega (arith, i.next_is, length_body o t at i, length_pads o t at i))

-- the offset behind the sections that are read from offset at on
abbrev pub behind : ByteOrder → List ℕ → ℕ → ℕ
behind o t at = at + length (chunks o (read_on o t at).sections)

-- behind a section and those read after it stands what is behind the latter
pub behind_section : (o : ByteOrder) (t : List ℕ) (at : ℕ) {address size start next : ℕ} → IsSection o t at address size start next
    → at + length (chunk o (section_at t at address size) ++ chunks o (read_on o t next).sections) ≡ behind o t next
behind_section o t at i = simp length-append (omega (arith, section_ends o t at i))

-- which is within the table
pub behind_within : (o : ByteOrder) (t : List ℕ) (at : ℕ) → at ≤ length t → behind o t at ≤ length t
unfolding chunks before
behind_within o t = step_ind o t (λ (at : ℕ). at ≤ length t → behind o t at ≤ length t)
    (λ at e h. rw (read_end o t at e, add-zero) h)
    (λ at number place e h. rw (read_fault o t at e, add-zero) h)
    (λ at address size start next e on h. let i = section_of o t at e in rw (read_section o t at e, behind_section o t at i) (on i.within))

-- the step at which a reading with this fault and place stops: 0 is the end
abbrev pub stop_step : ℕ → ℕ → Step
stop_step fault place = if (eqb fault 0) End (Fault fault place)

-- it stands behind the sections that are read
pub read_stops : (o : ByteOrder) (t : List ℕ) (at : ℕ) → step_at o t (behind o t at) ≡ stop_step (read_on o t at).fault (read_on o t at).place
unfolding chunks before
read_stops o t = step_ind o t (λ (at : ℕ). step_at o t (behind o t at) ≡ stop_step (read_on o t at).fault (read_on o t at).place)
    (λ at e. rw (read_end o t at e, add-zero) e)
    (λ at number place e. rw (read_fault o t at e, add-zero, ne_eqb _ _ (fault_number o t at e)) e)
    (λ at address size start next e on. rw (read_section o t at e, behind_section o t at (section_of o t at e)) on)

-- ---- bytes

-- the bytes from an offset on, cut at another
peel : (t : List ℕ) (i n j : ℕ) → i + n ≡ j → drop i t ≡ take n (drop i t) ++ drop j t
peel t i n j e = sym (take-append-drop n (drop i t)) ∙ rw (drop-drop, e)

module _ (o : ByteOrder) (t : List ℕ) (b : Bytes t) where
  -- the bytes from a section on are the section's, and then those from the next offset on
  section_bytes : (at : ℕ) {address size start next : ℕ} → IsSection o t at address size start next → drop at t ≡ chunk o (section_at t at address size) ++ drop next t
  unfolding chunk section_at
  section_bytes at {address} {size} {start} {next} i =
      let body : List ℕ = take size (drop (at + 8) t) in
      let pads : List ℕ = take (pad_count size) (drop (at + 8 + size) t) in
      let e1 : drop at t ≡ take 4 (drop at t) ++ drop (at + 4) t = peel t at 4 (at + 4) refl in
      let e2 : drop (at + 4) t ≡ take 4 (drop (at + 4) t) ++ drop (at + 8) t = peel t (at + 4) 4 (at + 8) (omega arith) in
      let e3 : drop (at + 8) t ≡ body ++ drop (at + 8 + size) t = peel t (at + 8) size (at + 8 + size) refl in
      let e4 : drop (at + 8 + size) t ≡ pads ++ drop next t = peel t (at + 8 + size) (pad_count size) next (omega (arith, i.next_is)) in
      let w1 : header_bytes o size ≡ take 4 (drop at t) = rw i.size_is (bytes_header o t at b (omega (arith, i.head))) in
      let w2 : header_bytes o address ≡ take 4 (drop (at + 4) t) = rw i.address_is (bytes_header o t (at + 4) b (omega (arith, i.head))) in
      let l : length body ≡ size = length_body o t at i in
      simp append_assoc (cc)

  -- the bytes from an offset on are those of the sections that are read, and then those behind them
  pub read_front : (at : ℕ) → drop at t ≡ chunks o (read_on o t at).sections ++ drop (behind o t at) t
  unfolding chunks before
  read_front = step_ind o t (λ (at : ℕ). drop at t ≡ chunks o (read_on o t at).sections ++ drop (behind o t at) t)
      (λ at e. rw (read_end o t at e, add-zero) refl)
      (λ at number place e. rw (read_fault o t at e, add-zero) refl)
      (λ at address size start next e on.
      let i = section_of o t at e in
      rw (read_section o t at e, behind_section o t at i) (section_bytes at i ∙ ap (chunk o (section_at t at address size) ++◌) on ∙ simp append_assoc))

  -- a zero word that is read
  pub zero_word : (at : ℕ) → at + 4 ≤ length t → header_at o t at ≡ 0 → take 4 (drop at t) ≡ header_bytes o 0
  zero_word at h z = sym (bytes_header o t at b h) ∙ ap (header_bytes o) z

  -- the entry word that is read
  pub entry_bytes : 4 ≤ length t → take 4 t ≡ header_bytes o (entry_of o t)
  entry_bytes h = sym (bytes_header o t 0 b (omega arith))

  -- a section that is read is valid
  section_valid : (at : ℕ) {address size start next : ℕ} → IsSection o t at address size start next → Valid (section_at t at address size)
  unfolding section_at
  section_valid at {address} {size} i =
      let l = length_body o t at i in
      let n = length_pads o t at i in
      record {
        some = rw l i.some;
        small = rw (l, i.size_is) (header_lt o t at b);
        top = rw l i.top;
        padded = rw l n;
      }

  pub read_valid : (at : ℕ) → All Valid (read_on o t at).sections
  unfolding before
  read_valid = step_ind o t (λ (at : ℕ). All Valid (read_on o t at).sections)
      (λ at e. rw (read_end o t at e) none)
      (λ at number place e. rw (read_fault o t at e) none)
      (λ at address size start next e on. rw (read_section o t at e) (also (section_valid at (section_of o t at e)) on))

  -- a table with its entry word begins with that word and the sections that are read
  pub table_front : 4 ≤ length t → t ≡ (header_bytes o (entry_of o t) ++ chunks o (reading o t).sections) ++ drop (behind o t 4) t
  table_front h = sym (take-append-drop 4 t) ∙ rw (entry_bytes h, read_front 4, read_begins o t h) (simp append_assoc)
