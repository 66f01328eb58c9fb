-- The bytes of one section: how many they are, and that the parts that are stored come to them.
use Prim.Native.Nat.{ℕ, zero, suc, ◌+◌, ◌-◌, ◌≤◌}
use mathlib.Core.Path.{◌≡◌, refl, ap, ◌∙◌}
use mathlib.Core.List.{List, [], ◌∷◌, ◌++◌, append_assoc}
use native.Mathlib.Omega.{arith}
use lib.ListN.{length, take, drop, replicate, length-append, length-replicate}
use Rattle.words.specs.declared.ByteOrder.{ByteOrder}
use Rattle.words.specs.Header.{header_bytes}
use Rattle.words.specs.Run.{over}
use Rattle.words.specs.Word.{pad_count}
use Rattle.words.proofs.HeaderLaws.{length_header}
use Rattle.words.proofs.RunLaws.{over_over, over_before}
use Rattle.words.proofs.WordLaws.{pad_lt}
use Rattle.boot_table.specs.Table.{next_of, chunk}
use Rattle.writer.specs.declared.Section.{Section}
use Rattle.writer.specs.Write.{data_of, sect_of, fault_of}
use Rattle.writer.specs.Judging.{padded_data}
use Rattle.writer.proofs.FaultLaws.{faultless_section, length_data}

-- ---- how many they are

-- a section with no fault has its two header words, its data and its pads
pub length_sect : (o : ByteOrder) (d : List ℕ) (x : Section) → fault_of x (length d) ≡ 0 → length (chunk o (sect_of d x)) ≡ 8 + x.size + pad_count x.size
unfolding chunk sect_of
length_sect o d x z = simp (length-append, length_header, length-replicate) (omega (arith, length_data d x z))

-- the offset after it
pub next_sect : (o : ByteOrder) (d : List ℕ) (x : Section) (at : ℕ) → fault_of x (length d) ≡ 0 → next_of at x.size ≡ at + length (chunk o (sect_of d x))
unfolding next_of
next_sect o d x at z = omega (arith, length_sect o d x z)

-- ---- stored part by part

-- the last p of four zeros
last_zeros : (p : ℕ) → p ≤ 4 → drop {A = ℕ} (4 - p) (replicate 4 0) ≡ replicate p 0
last_zeros zero h = refl
last_zeros (suc zero) h = refl
last_zeros (suc (suc zero)) h = refl
last_zeros (suc (suc (suc zero))) h = refl
last_zeros (suc (suc (suc (suc zero)))) h = refl
last_zeros (suc (suc (suc (suc (suc n))))) h = absurd (omega arith)

-- a zero word at the end of data and pads, and then the data: what the data leaves of the word are the pads
pub cleared_data : (body out : List ℕ) (at next : ℕ) → 4 ≤ length body → next ≡ at + (length body + pad_count (length body)) → next ≤ length out → {o1 o2 : List ℕ}
    → o1 ≡ over out (next - 4) (0 ∷ 0 ∷ 0 ∷ 0 ∷ []) → o2 ≡ over o1 at body → o2 ≡ over out at (padded_data body)
unfolding padded_data
cleared_data body out at next long is room {o1} {o2} e1 e2 =
    let pads : ℕ = pad_count (length body) in
    let l : pads ≤ 4 = omega (arith, pad_lt (length body)) in
    let lz : length (replicate {A = ℕ} 4 0) ≡ 4 = refl in
    rw (e2, e1) (over_before out (next - 4) (replicate 4 0) (omega arith) at (4 - pads) body (omega arith) (omega arith) (omega arith)
    ∙ ap (λ (z : List ℕ). over out at (body ++ z)) (last_zeros pads l))

-- the data from a section's start to its end is the section's
pub part_data : (d : List ℕ) (x : Section) → take (x.start + x.size - x.start) (drop x.start d) ≡ data_of d x
unfolding data_of
part_data d x = let n : x.start + x.size - x.start ≡ x.size = omega arith in rw n refl

-- size word, address word, data and pads are the section's bytes
module _ (o : ByteOrder) (b d : List ℕ) (x : Section) (at : ℕ) (faultless : fault_of x (length b) ≡ 0) (room : next_of at x.size ≤ length d) where
  -- what a section asks of the data and of the output
  pub section_room : (1 ≤ x.size) × (x.start + x.size ≤ length b) × (at + 8 + (x.size + pad_count x.size) ≤ length d)
  unfolding next_of
  section_room = let s = faultless_section x (length b) faultless in (s.0, s.1, omega (arith, room))

  pub section_parts : {o1 o2 o3 : List ℕ} → o1 ≡ over d at (header_bytes o x.size) → o2 ≡ over o1 (at + 4) (header_bytes o x.address)
      → o3 ≡ over o2 (at + 8) (padded_data (data_of b x)) → o3 ≡ over d at (chunk o (sect_of b x))
  unfolding chunk sect_of padded_data
  section_parts {o1} {o2} {o3} e1 e2 e3 =
      let body : List ℕ = data_of b x in
      let pads : List ℕ = replicate (pad_count x.size) 0 in
      let w1 : List ℕ = header_bytes o x.size in
      let w2 : List ℕ = header_bytes o x.address in
      let r = section_room in
      let l1 : length w1 ≡ 4 = length_header o x.size in
      let l2 : length w2 ≡ 4 = length_header o x.address in
      let lw : length (w1 ++ w2) ≡ 8 = simp length-append (omega arith) in
      let lb : length body ≡ x.size = length_data b x faultless in
      let same : w1 ++ w2 ++ (body ++ pads) ≡ header_bytes o (length body) ++ w2 ++ body ++ pads = rw lb (simp append_assoc) in
      let words : o2 ≡ over d at (w1 ++ w2) = rw (e2, e1) (over_over d at w1 (omega arith) w2 (at + 4) (omega arith)) in
      rw lb at e3 ∙ ap (λ (y : List ℕ). over y (at + 8) (body ++ pads)) words ∙ over_over d at (w1 ++ w2) (omega arith) (body ++ pads) (at + 8) (omega arith) ∙ ap (over d at) same
