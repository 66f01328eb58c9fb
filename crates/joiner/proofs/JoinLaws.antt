-- Laws of the join: its bytes, what it reads as, when it is made, and what the output then holds.
use Prim.Native.Nat.{ℕ, ◌+◌, ◌-◌, ◌≤◌}
use mathlib.Core.Path.{◌≡◌, refl, sym, ap, ◌∙◌}
use mathlib.Core.Logic.{by_cases}
use mathlib.Core.List.{List, [], ◌++◌, append_assoc, append-nil}
use native.Mathlib.Omega.{arith}
use native.Mathlib.Decide.{dec_le, ℕ_discrete}
use lib.ListN.{length, take, drop, length-append}
use lib.Seq.{take_at, drop_at}
use Rattle.words.specs.declared.ByteOrder.{ByteOrder}
use Rattle.words.specs.Word.{Bytes}
use Rattle.words.specs.Header.{header_bytes}
use Rattle.words.proofs.WordLaws.{bytes_take, bytes_drop, bytes_append}
use Rattle.words.proofs.HeaderLaws.{header_lt}
use Rattle.boot_table.specs.Table.{entry_of, Reading, table_of, chunks, reading}
use Rattle.boot_table.specs.Form.{table_limit, form_of, WellFormed}
use Rattle.boot_table.proofs.FormLaws.{form_well, well_form}
use Rattle.boot_table.proofs.RoundTrip.{chunks_append, length_table, length_read, read_head, read_middle, read_zero}
use Rattle.boot_table.proofs.RoundTrip.{read_table, entry_table, table_read, valid_read, all_append}
use Rattle.joiner.specs.Join.{JoinAnswer, joined, joined_length, section_bytes, join_answer, join_output}
use Rattle.joiner.proofs.AnswerLaws.{first_refused, second_refused, join_long, output_short, join_done, output_kept, output_joined}

-- ---- the join as a table

-- the join has the entry of the second table
pub entry_joined : (o : ByteOrder) (a b : List ℕ) → Bytes b → entry_of o (joined o a b) ≡ entry_of o b
unfolding joined
entry_joined o a b q = entry_table o (entry_of o b) _ (header_lt o b 0 q)

-- a first table without sections leaves the second as it is
pub join_none_left : (o : ByteOrder) (a b : List ℕ) → Bytes b → WellFormed o a → WellFormed o b → (reading o a).sections ≡ [] → joined o a b ≡ b
unfolding joined
join_none_left o a b q v w e = rw e (table_read o b q w)

-- a second table without sections gives its entry to the first's sections
pub join_none_right : (o : ByteOrder) (a b : List ℕ) → (reading o b).sections ≡ [] → joined o a b ≡ table_of o (entry_of o b) (reading o a).sections
unfolding joined
join_none_right o a b e = rw (e, append-nil)

-- the join of two well-formed tables
module _ (o : ByteOrder) (a b : List ℕ) (p : Bytes a) (q : Bytes b) (v : WellFormed o a) (w : WellFormed o b) where
  -- its length is that of both less 8
  pub length_joined : length (joined o a b) ≡ joined_length a b
  unfolding joined joined_length
  length_joined =
      let l = length-append (chunks o (reading o a).sections) (chunks o (reading o b).sections) in
      length_table o (entry_of o b) ((reading o a).sections ++ (reading o b).sections) ∙ rw chunks_append (omega (arith, length_read o a p v, length_read o b q w))

  -- its parts: the second's entry word, the sections of both as they stand, and a zero word
  pub joined_parts : joined o a b ≡ header_bytes o (entry_of o b) ++ section_bytes a ++ section_bytes b ++ header_bytes o 0
  unfolding joined table_of
  joined_parts = rw (read_middle o a p v, read_middle o b q w, chunks_append) (simp append_assoc)

  -- its bytes: those of the second's entry word, of the sections of both, and of the second's zero word
  pub joined_bytes : joined o a b ≡ take 4 b ++ section_bytes a ++ section_bytes b ++ drop (length b - 4) b
  joined_bytes = rw (read_head o b q w, read_zero o b q w) joined_parts

  -- it reads as the sections of the first and then of the second, without a fault
  pub reading_joined : reading o (joined o a b) ≡ record { sections = (reading o a).sections ++ (reading o b).sections; fault = 0; place = 0 }
  unfolding joined
  reading_joined = read_table o (entry_of o b) ((reading o a).sections ++ (reading o b).sections) (all_append (valid_read o a p v) (valid_read o b q w))

  -- it is made of bytes
  pub bytes_joined : Bytes (joined o a b)
  bytes_joined =
      let x = section_bytes a in
      let y = section_bytes b in
      let bx : Bytes x = bytes_take (drop 4 a) (length a - 8) (bytes_drop a 4 p) in
      let by : Bytes y = bytes_take (drop 4 b) (length b - 8) (bytes_drop b 4 q) in
      let front : Bytes (take 4 b ++ x ++ y) = bytes_append (take 4 b ++ x) y (bytes_append (take 4 b) x (bytes_take b 4 q) bx) by in
      rw joined_bytes (bytes_append (take 4 b ++ x ++ y) (drop (length b - 4) b) front (bytes_drop b (length b - 4) q))

  -- within the limit it is well-formed
  pub well_joined : joined_length a b ≤ table_limit → WellFormed o (joined o a b)
  well_joined h = record { short = rw length_joined h; whole = ap (λ (r : Reading). r.fault) reading_joined }

-- the join of three tables does not depend on which two are joined first
pub joined_assoc : (o : ByteOrder) (a b c : List ℕ) → Bytes a → Bytes b → Bytes c → WellFormed o a → WellFormed o b → WellFormed o c
    → joined o (joined o a b) c ≡ joined o a (joined o b c)
unfolding joined
joined_assoc o a b c p q r u v w =
    rw (reading_joined o a b p q u v, reading_joined o b c q r v w, entry_joined o b c r) (simp append_assoc)

-- ---- when the join is made

module _ (o : ByteOrder) (a b : List ℕ) (room : ℕ) where
  -- two well-formed tables, a join within the limit, and room for it: the join is made
  pub join_accepts : WellFormed o a → WellFormed o b → joined_length a b ≤ table_limit → joined_length a b ≤ room
      → join_answer o a b room
      ≡ record { number = 0; place = 0; which = 0; length = joined_length a b; sections = length (reading o a).sections + length (reading o b).sections }
  join_accepts v w h k =
      let f = well_form o a v in
      let g = well_form o b w in
      sym (join_done o a b room _ (sym f) refl _ (sym g) refl h k)

  -- nothing else is joined
  pub join_only : (join_answer o a b room).number ≡ 0 → (WellFormed o a) × (WellFormed o b) × (joined_length a b ≤ table_limit) × (joined_length a b ≤ room)
  join_only z =
      by_cases (ℕ_discrete (form_of o a).number 0)
      (λ f. by_cases (ℕ_discrete (form_of o b).number 0)
      (λ g. by_cases (dec_le (joined_length a b) table_limit)
      (λ h. by_cases (dec_le (joined_length a b) room)
      (λ k. (form_well o a f, form_well o b g, h, k))
      (λ k. absurd (never (λ e. omega arith) (output_short o a b room _ refl f _ refl g h (omega arith)))))
      (λ h. absurd (never (λ e. omega arith) (join_long o a b room _ refl f _ refl g (omega arith)))))
      (λ g. absurd (never g (second_refused o a b room _ refl f _ refl g))))
      (λ f. absurd (never f (first_refused o a b room _ refl f)))
    where
      never : {r : JoinAnswer} → (r.number ≡ 0 → ⊥) → r ≡ join_answer o a b room → ⊥
      never n e = n (ap (λ (j : JoinAnswer). j.number) e ∙ z)

-- ---- what the output holds

module _ (o : ByteOrder) (a b out : List ℕ) where
  -- a join that is made has its length
  made_length : Bytes a → Bytes b → (join_answer o a b (length out)).number ≡ 0 → length (joined o a b) ≡ joined_length a b
  made_length p q z = let w = join_only o a b (length out) z in length_joined o a b p q w.0 w.1

  -- it stands at the front
  pub join_front : Bytes a → Bytes b → (join_answer o a b (length out)).number ≡ 0 → take (joined_length a b) (join_output o a b out) ≡ joined o a b
  join_front p q z = rw (← (output_joined o a b out _ refl z)) (take_at (joined o a b) _ (joined_length a b) (made_length p q z))

  -- the bytes past it are as they were
  pub join_rest : (join_answer o a b (length out)).number ≡ 0 → Bytes a → Bytes b
      → drop (joined_length a b) (join_output o a b out) ≡ drop (joined_length a b) out
  join_rest z p q = rw (← (output_joined o a b out _ refl z)) (drop_at (joined o a b) _ (joined_length a b) (made_length p q z))

  -- a join that is refused leaves the output as it was
  pub join_kept : ((join_answer o a b (length out)).number ≡ 0 → ⊥) → join_output o a b out ≡ out
  join_kept n = sym (output_kept o a b out _ refl n)
