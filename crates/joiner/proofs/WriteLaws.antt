-- Laws of writing the join: sections copied one after another are one run, and so are the four parts of the join.
use Prim.Native.Nat.{ℕ, ◌+◌, ◌-◌, ◌≤◌}
use mathlib.Core.Path.{◌≡◌, sym, ap, ◌∙◌}
use mathlib.Core.List.{List, ◌++◌}
use native.Mathlib.Omega.{arith}
use lib.ListN.{length, take, drop, length-append, length-drop}
use lib.Seq.{length-take-le, take-add, drop-drop}
use Rattle.words.specs.declared.ByteOrder.{ByteOrder}
use Rattle.words.specs.Word.{Bytes}
use Rattle.words.specs.Header.{header_bytes}
use Rattle.words.specs.Run.{over}
use Rattle.words.proofs.HeaderLaws.{length_header}
use Rattle.words.proofs.RunLaws.{over_front, over_over}
use Rattle.boot_table.specs.Table.{Section, entry_of, step_at, read_on}
use Rattle.boot_table.specs.Form.{WellFormed}
use Rattle.boot_table.proofs.StepLaws.{section_of}
use Rattle.boot_table.proofs.ReadLaws.{read_room, read_next}
use Rattle.boot_table.proofs.FormLaws.{well_long}
use Rattle.joiner.specs.Join.{joined, joined_length, section_bytes, joined_over}
use Rattle.joiner.proofs.JoinLaws.{length_joined, joined_parts}

-- a turn that finds a section: it has bytes, and the table is whole behind it
pub turn_whole : (o : ByteOrder) (t : List ℕ) (at address size start next : ℕ) → Section address size start next ≡ step_at o t at → (read_on o t at).fault ≡ 0
    → ((read_on o t next).fault ≡ 0) × (at + 8 ≤ next) × (next + 4 ≤ length t)
turn_whole o t at address size start next e whole =
    let g = section_of o t at (sym e) in
    let on = read_next o t at (sym e) whole in
    (on, omega (arith, g.next_is), read_room o t next on)

-- two parts of a table, one right behind the other
part_part : (t : List ℕ) (at next : ℕ) → 4 ≤ at → at ≤ next → take (at - 4) (drop 4 t) ++ take (next - at) (drop at t) ≡ take (next - 4) (drop 4 t)
part_part t at next h k =
    let n : 4 + (at - 4) ≡ at = omega arith in
    let m : next - 4 ≡ (at - 4) + (next - at) = omega arith in
    sym (rw (m, take-add (at - 4) (next - at) (drop 4 t), drop-drop (at - 4) 4 t, n))

-- a turn copies the section from at to next behind those before it
pub copy_section : (t d : List ℕ) (from at next to : ℕ) → 4 ≤ at → at ≤ next → next ≤ length t → to + 4 ≡ from + at → to ≤ length d
    → over (over d from (take (at - 4) (drop 4 t))) to (take (next - at) (drop at t)) ≡ over d from (take (next - 4) (drop 4 t))
copy_section t d from at next to h k within place fits =
    let n : length (take (at - 4) (drop 4 t)) ≡ at - 4 = length-take-le (at - 4) (drop 4 t) (simp length-drop (omega arith)) in
    over_over d from (take (at - 4) (drop 4 t)) (omega arith) (take (next - at) (drop at t)) to (omega arith)
    ∙ ap (over d from) (part_part t at next h k)

-- the entry word of b, the sections of a and of b, and a zero word, written one after another, are the join
pub parts_joined : (o : ByteOrder) (a b d : List ℕ) → Bytes a → Bytes b → WellFormed o a → WellFormed o b → joined_length a b ≤ length d
    → (middle end : ℕ) → middle + 8 ≡ 4 + length a → end + 8 ≡ middle + length b
    → over (over (over (over d 0 (header_bytes o (entry_of o b))) 4 (section_bytes a)) middle (section_bytes b)) end (header_bytes o 0)
    ≡ joined_over o a b d
unfolding joined_length
parts_joined o a b d p q v w fits middle end em ee =
    let la = well_long o a v in
    let lb = well_long o b w in
    let h = header_bytes o (entry_of o b) in
    let x = section_bytes a in
    let y = section_bytes b in
    let z = header_bytes o 0 in
    let lh : length h ≡ 4 = length_header o (entry_of o b) in
    let lz : length z ≡ 4 = length_header o 0 in
    let lx : length x ≡ length a - 8 = length-take-le (length a - 8) (drop 4 a) (simp length-drop (omega arith)) in
    let ly : length y ≡ length b - 8 = length-take-le (length b - 8) (drop 4 b) (simp length-drop (omega arith)) in
    let l2 = length-append h x in
    let l3 = length-append (h ++ x) y in
    let s1 : over (over d 0 h) 4 x ≡ over d 0 (h ++ x) = over_over d 0 h (omega arith) x 4 (omega arith) in
    let s2 : over (over d 0 (h ++ x)) middle y ≡ over d 0 (h ++ x ++ y) = over_over d 0 (h ++ x) (omega arith) y middle (omega arith) in
    let s3 : over (over d 0 (h ++ x ++ y)) end z ≡ over d 0 (h ++ x ++ y ++ z) = over_over d 0 (h ++ x ++ y) (omega arith) z end (omega arith) in
    ap (λ (u : List ℕ). over (over u middle y) end z) s1 ∙ ap (λ (u : List ℕ). over u end z) s2 ∙ s3 ∙ ap (over d 0) (sym (joined_parts o a b p q v w))
    ∙ over_front d (joined o a b) ∙ ap (λ (n : ℕ). joined o a b ++ drop n d) (length_joined o a b p q v w)
