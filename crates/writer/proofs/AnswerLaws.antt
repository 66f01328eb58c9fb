-- What writing answers and what the output holds, by the tests that lead there; and that what the code judges and stores comes to them.
use Prim.Native.Nat.{ℕ, suc, ◌+◌, ◌≤◌, ◌<◌}
use mathlib.Core.Path.{◌≡◌, refl, sym, ap, ◌∙◌}
use mathlib.Core.Logic.{by_cases}
use mathlib.Core.List.{List, [], ◌∷◌, ◌++◌}
use native.Mathlib.Nat.{add-zero}
use native.Mathlib.Omega.{arith}
use native.Mathlib.Decide.{dec_le, ℕ_discrete}
use borrow.Author.Tests.{eq-eqb, ne_eqb, lt-ltb, le-ltb}
use lib.ListN.{length, drop, length-append}
use Rattle.std.specs.Prelude.{Result, Ok, Err, ⊤}
use Rattle.words.specs.declared.ByteOrder.{ByteOrder}
use Rattle.words.specs.Header.{header_bytes}
use Rattle.words.specs.Run.{over}
use Rattle.words.specs.Refusal.{result_long_number, output_short_number, number_of, place_of}
use Rattle.words.specs.declared.refusal.Refusal.{Refusal}
use Rattle.words.proofs.RefusalLaws.{number_some}
use Rattle.words.proofs.HeaderLaws.{length_header}
use Rattle.words.proofs.RunLaws.{over_front, over_over}
use Rattle.boot_table.specs.Table.{next_of, chunk, chunks, table_of}
use Rattle.boot_table.specs.Form.{table_limit}
use Rattle.boot_table.proofs.RoundTrip.{length_table}
use Rattle.writer.specs.declared.Section.{Section}
use Rattle.writer.specs.Write.{WriteAnswer, sect_of, sects_of, written_table, fault_of, Faultless, none, also, write_refused, list_rule, room_rule, write_answer, write_output}
use Rattle.writer.specs.Judging.{longer, or_fault, judge_one, judge_from}
use Rattle.writer.proofs.ListLaws.{sects_none, sects_cons}
use Rattle.writer.proofs.SectionLaws.{length_sect}
use Rattle.writer.proofs.JudgeLaws.{one_fine, one_bad}

-- ---- how long the table is

pub length_written : (o : ByteOrder) (entry : ℕ) (xs : List Section) (d : List ℕ) → length (written_table o entry xs d) ≡ 8 + length (chunks o (sects_of xs d))
unfolding written_table
length_written o entry xs d = length_table o entry (sects_of xs d)

-- ---- the answer for a length

module _ (bytes count room : ℕ) where
  pub room_long : table_limit < bytes → write_refused result_long_number 0 ≡ room_rule bytes count room
  unfolding room_rule
  room_long h = simp (lt-ltb _ _ h)

  pub room_short : bytes ≤ table_limit → room < bytes → write_refused output_short_number 0 ≡ room_rule bytes count room
  unfolding room_rule
  room_short h k = simp (le-ltb _ _ h, lt-ltb _ _ k)

  pub room_done : bytes ≤ table_limit → bytes ≤ room → record { number = 0; place = 0; length = bytes; sections = count } ≡ room_rule bytes count room
  unfolding room_rule
  room_done h k = simp (le-ltb _ _ h, le-ltb _ _ k)

  -- no other length is within the limit and has room
  pub room_only : (room_rule bytes count room).number ≡ 0 → (bytes ≤ table_limit) × (bytes ≤ room)
  room_only z =
      by_cases (dec_le bytes table_limit)
      (λ h. by_cases (dec_le bytes room) (λ k. (h, k)) (λ k. absurd (never (λ e. omega arith) (room_short h (omega arith)))))
      (λ h. absurd (never (λ e. omega arith) (room_long (omega arith))))
    where
      never : {r : WriteAnswer} → (r.number ≡ 0 → ⊥) → r ≡ room_rule bytes count room → ⊥
      never n e = n (ap (λ (w : WriteAnswer). w.number) e ∙ z)

-- ---- the first bad section

module _ (n : ℕ) (fine : WriteAnswer) where
  pub list_faultless : {xs : List Section} (i : ℕ) → Faultless n xs → list_rule n fine i xs ≡ fine
  unfolding list_rule
  list_faultless i none = refl
  list_faultless i (also {x = x} e s) = rw (eq-eqb _ _ e) (list_faultless (suc i) s)

  pub list_only : (i : ℕ) (xs : List Section) → (list_rule n fine i xs).number ≡ 0 → Faultless n xs
  unfolding list_rule
  list_only i [] z = none
  list_only i (x ∷ xs) z =
      by_cases (ℕ_discrete (fault_of x n) 0)
      (λ e. also e (list_only (suc i) xs (rw (eq-eqb _ _ e) at z)))
      (λ e. absurd (e (rw (ne_eqb _ _ e) at z)))

-- ---- the answer, as the code judges

-- the answer for what a list of so many sections comes to
pub answered : Result ℕ Refusal → ℕ → ℕ → WriteAnswer
answered (Ok bytes) count room = room_rule bytes count room
answered (Err refusal) count room = write_refused (number_of refusal) (place_of refusal)

module _ (o : ByteOrder) (d : List ℕ) (count room : ℕ) where
  -- a section more: over the limit it changes nothing
  room_longer : (x : Section) (bytes rest : ℕ) → fault_of x (length d) ≡ 0
      → room_rule (longer bytes x.size + rest) count room ≡ room_rule (bytes + (length (chunk o (sect_of d x)) + rest)) count room
  unfolding longer next_of
  room_longer x bytes rest e =
      let l = length_sect o d x e in
      by_cases (dec_le bytes table_limit)
      (λ h. rw (le-ltb _ _ h) (ap (λ (m : ℕ). room_rule m count room) (omega arith)))
      (λ h. let h' : table_limit < bytes = omega arith in rw (lt-ltb _ _ h') (sym (room_long _ count room (omega arith)) ∙ room_long _ count room (omega arith)))

  -- the bytes of a list: how many the first section has, and the others
  sects_length : (x : Section) (xs : List Section) → length (chunks o (sects_of (x ∷ xs) d)) ≡ length (chunk o (sect_of d x)) + length (chunks o (sects_of xs d))
  sects_length x xs = rw (sects_cons, length-append) refl

  judged_from : (xs : List Section) (i bytes : ℕ) → answered (judge_from xs i (length d) bytes) count room ≡ list_rule (length d) (room_rule (bytes + length (chunks o (sects_of xs d))) count room) i xs
  unfolding answered judge_from list_rule
  judged_from [] i bytes = ap (λ (m : ℕ). room_rule m count room) (sym (rw (sects_none o d, add-zero) refl))
  judged_from (x ∷ xs) i bytes = go (judge_one x i (length d)) refl (judged_from xs (suc i) (longer bytes x.size))
    where
      later : Result ℕ Refusal
      later = judge_from xs (suc i) (length d) (longer bytes x.size)

      go : (r : Result ⊤ Refusal) → judge_one x i (length d) ≡ r
          → answered later count room ≡ list_rule (length d) (room_rule (longer bytes x.size + length (chunks o (sects_of xs d))) count room) (suc i) xs
          → answered (or_fault r later) count room ≡ list_rule (length d) (room_rule (bytes + length (chunks o (sects_of (x ∷ xs) d))) count room) i (x ∷ xs)
      go (Ok u) j rest =
          let e = one_fine x i (length d) u j in
          rw (eq-eqb _ _ e) (rest ∙ ap (λ (w : WriteAnswer). list_rule (length d) w (suc i) xs)
          (room_longer x bytes (length (chunks o (sects_of xs d))) e ∙ ap (λ (m : ℕ). room_rule (bytes + m) count room) (sym (sects_length x xs))))
      go (Err refusal) j rest =
          let q = one_bad x i (length d) refusal j in
          rw (← q.0, q.1) (simp (ne_eqb _ _ (number_some refusal)))

-- the judged list's answer is what writing answers
module _ (o : ByteOrder) (entry : ℕ) (xs : List Section) (d : List ℕ) (room : ℕ) where
  pub judged_answer : answered (judge_from xs 0 (length d) 8) (length xs) room ≡ write_answer o entry xs d room
  unfolding write_answer
  judged_answer = rw length_written (judged_from o d (length xs) room xs 0 8)

  -- of a list with a fault
  pub judged_bad : (refusal : Refusal) → Err refusal ≡ judge_from xs 0 (length d) 8 → write_refused (number_of refusal) (place_of refusal) ≡ write_answer o entry xs d room
  unfolding answered
  judged_bad refusal e = rw (← e) at judged_answer

  -- of a list without
  pub judged_length : (bytes : ℕ) → Ok bytes ≡ judge_from xs 0 (length d) 8 → room_rule bytes (length xs) room ≡ write_answer o entry xs d room
  unfolding answered
  judged_length bytes e = rw (← e) at judged_answer

-- ---- when the table is written

module _ (o : ByteOrder) (entry : ℕ) (xs : List Section) (d : List ℕ) (room : ℕ) where
  -- sections without a fault, a table within the limit, and room for it: the table is written
  pub write_accepts : Faultless (length d) xs → length (written_table o entry xs d) ≤ table_limit → length (written_table o entry xs d) ≤ room
      → write_answer o entry xs d room ≡ record { number = 0; place = 0; length = length (written_table o entry xs d); sections = length xs }
  unfolding write_answer
  write_accepts s h k = list_faultless (length d) _ 0 s ∙ sym (room_done _ (length xs) room h k)

  -- nothing else is written
  pub write_only : (write_answer o entry xs d room).number ≡ 0 → (Faultless (length d) xs) × (length (written_table o entry xs d) ≤ table_limit) × (length (written_table o entry xs d) ≤ room)
  unfolding write_answer
  write_only z =
      let s = list_only (length d) _ 0 xs z in
      let r = room_only _ (length xs) room (rw (list_faultless (length d) (room_rule (length (written_table o entry xs d)) (length xs) room) 0 s) at z) in
      (s, r.0, r.1)

-- ---- the output, by the answer r

module _ (o : ByteOrder) (entry : ℕ) (xs : List Section) (d out : List ℕ) (r : WriteAnswer) (e : r ≡ write_answer o entry xs d (length out)) where
  pub output_kept : (r.number ≡ 0 → ⊥) → out ≡ write_output o entry xs d out
  unfolding write_output
  output_kept n = rw (← e) (simp (ne_eqb _ _ n))

  pub output_written : r.number ≡ 0 → written_table o entry xs d ++ drop (length (written_table o entry xs d)) out ≡ write_output o entry xs d out
  unfolding write_output
  output_written z = rw (← e) (simp (eq-eqb _ _ z))

-- the entry word, the sections and a zero word, stored one after another, are the table
pub parts_written : (o : ByteOrder) (entry : ℕ) (xs : List Section) (d out : List ℕ) → length (written_table o entry xs d) ≤ length out → (end : ℕ) → end ≡ 4 + length (chunks o (sects_of xs d))
    → over (over (over out 0 (header_bytes o entry)) 4 (chunks o (sects_of xs d))) end (header_bytes o 0) ≡ written_table o entry xs d ++ drop (length (written_table o entry xs d)) out
unfolding written_table table_of
parts_written o entry xs d out fits end e =
    let h = header_bytes o entry in
    let c = chunks o (sects_of xs d) in
    let z = header_bytes o 0 in
    let lh : length h ≡ 4 = length_header o entry in
    let l2 = length-append h c in
    let l : length (h ++ c ++ z) ≡ 8 + length c = length_written o entry xs d in
    let s1 : over (over out 0 h) 4 c ≡ over out 0 (h ++ c) = over_over out 0 h (omega arith) c 4 (omega arith) in
    let s2 : over (over out 0 (h ++ c)) end z ≡ over out 0 (h ++ c ++ z) = over_over out 0 (h ++ c) (omega arith) z end (omega arith) in
    ap (λ (u : List ℕ). over u end z) s1 ∙ s2 ∙ over_front out (h ++ c ++ z)
