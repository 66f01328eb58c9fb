-- What rescuing promises, proved.
use Prim.Native.Nat.{ℕ, ◌+◌, ◌-◌, ◌≤◌, ◌<◌}
use mathlib.Core.Path.{◌≡◌, refl, sym, ap, ◌∙◌}
use mathlib.Core.List.{List, [], ◌++◌, append_assoc, append-nil}
use mathlib.Core.Bool.{Bool, true, false, not}
use mathlib.Core.Logic.{by_cases}
use native.Mathlib.Omega.{arith}
use native.Mathlib.Decide.{dec_le}
use lib.ListN.{length, take, drop, length-append, length-take, take-append-drop}
use lib.Seq.{take_at, take-add, take_all, length-take-le}
use Rattle.words.specs.declared.ByteOrder.{ByteOrder}
use Rattle.words.specs.Choice.{if}
use Rattle.words.specs.Word.{Bytes}
use Rattle.words.specs.Header.{header_at, header_bytes}
use Rattle.words.specs.Refusal.{table_cut_number, result_long_number, output_short_number}
use Rattle.words.proofs.ChoiceLaws.{both_ways}
use Rattle.words.proofs.WordLaws.{bytes_take, bytes_append, bytes_parts}
use Rattle.words.proofs.HeaderLaws.{length_header, header_lt, header_bytes_lem, header_between, written_bytes}
use Rattle.boot_table.specs.Table.{Sect, Reading, entry_of, chunks, table_of, read_on, reading}
use Rattle.boot_table.specs.Form.{table_limit, WellFormed}
use Rattle.boot_table.specs.Valid.{Valid, All}
use Rattle.boot_table.proofs.StepLaws.{end_step_lem, step_after}
use Rattle.boot_table.proofs.ReadLaws.{read_end, read_fault, read_begins}
use Rattle.boot_table.proofs.FormLaws.{well_long, well_read}
use Rattle.boot_table.proofs.FrontLaws.{behind, zero_word, read_valid, table_front}
use Rattle.boot_table.proofs.RoundTrip.{and_then, read_run, read_table, entry_table, table_read, valid_read, length_read, length_table}
use Rattle.rescue.specs.Rescue.{RescueAnswer, kept, rescued, has_zero, zero_added, used_bytes, done_answer, rescue_refused, rescue_answer, rescue_output}
use Rattle.rescue.specs.Rescuing.{Refuses, Gives, BeginsWith, Longest, HasTable, ending_by, Succeeds, rescued_in, Holds, AddsUp, Rescuing}
use Rattle.rescue.specs.WholeRun.{run_on, whole_run}
use Rattle.rescue.proofs.WholeRunLaws.{length_rescued, run_within, rescued_front, zero_stands, used_within}
use Rattle.rescue.proofs.AnswerLaws.{Fits, by_answer, table_long, entry_cut, result_long, output_short, rescue_done, output_kept, output_rescued}
use Rattle.rescue.proofs.CutLaws.{header_left, read_left, ending_bytes}

-- ---- the outcomes, by the answer

refuses : (o : ByteOrder) (t out : List ℕ) {n : ℕ} → (n ≡ 0 → ⊥) → rescue_refused n ≡ rescue_answer o t (length out) → Refuses o t out n
refuses o t out some e = record { answer = sym e; output = sym (output_kept o t out _ e some) }

-- a table that is taken: it is within the limit, and has its entry word
record Taken (t : List ℕ) : Type 0 where
  short : length t ≤ table_limit
  long : 4 ≤ length t

-- the three outcomes of such a table, whose result and counts are given
module _ (o : ByteOrder) (t out result : List ℕ) (k : Taken t) (is : rescued o t ≡ result) where
  gives : {sections unused : ℕ} {added : Bool} → length (kept o t) ≡ sections → length t - used_bytes o t ≡ unused → zero_added o t ≡ added
      → length result ≤ table_limit → length result ≤ length out → Gives o t out result sections unused added
  gives count left word limit room =
      let e = rescue_done o t (length out) k.short k.long (rw is limit) (rw is room) in
      record {
        answer = sym e ∙ (λ i. record { number = 0; place = 0; length = length (is i); sections = count i; unused = left i; added = word i });
        output = sym (output_rescued o t out (done_answer o t) e refl) ∙ rw is refl;
      }

  too_long : table_limit < length result → Refuses o t out result_long_number
  too_long h = refuses o t out (λ z. omega arith) (result_long o t (length out) k.short k.long (rw is h))

  no_room : length result ≤ table_limit → length out < length result → Refuses o t out output_short_number
  no_room limit h = refuses o t out (λ z. omega arith) (output_short o t (length out) k.short k.long (rw is limit) (rw is h))

-- a rescue that succeeds
fits_of : (o : ByteOrder) (t : List ℕ) (room : ℕ) → (rescue_answer o t room).number ≡ 0 → Fits o t room
fits_of o t room =
    by_answer o t room (λ (r : RescueAnswer). r.number ≡ 0 → Fits o t room)
    (λ a z. absurd (omega arith)) (λ a z. absurd (omega arith)) (λ a z. absurd (omega arith)) (λ a b z. absurd (omega arith)) (λ f z. f)

module _ (o : ByteOrder) (t out : List ℕ) (f : Fits o t (length out)) where
  answer_of_lem : rescue_answer o t (length out) ≡ done_answer o t
  answer_of_lem = sym (rescue_done o t (length out) f.short f.long f.limit f.fits)

  output_of : rescue_output o t out ≡ rescued o t ++ drop (length (rescued o t)) out
  output_of = sym (output_rescued o t out (done_answer o t) (sym answer_of_lem) refl)

  result_of : rescued_in o t out ≡ rescued o t
  unfolding rescued_in
  result_of = rw (answer_of_lem, output_of) (take_at (rescued o t) _ _ refl)

-- ---- a well-formed table with bytes behind it

-- reading on ends at a zero word, whatever stands behind it
module _ (o : ByteOrder) (t p rest : List ℕ) (at : ℕ) (e : t ≡ p ++ (header_bytes o 0 ++ rest)) (l : at ≡ length p) where
  zero_at : header_at o t at ≡ 0
  zero_at = rw (e, l) (header_between o p rest 0 (omega arith))

  zero_length : length t ≡ at + 4 + length rest
  zero_length = rw e (simp (length-append, length_header) (omega arith))

  record AtZero : Type 0 where
    sections : (read_on o t at).sections ≡ []
    zero : has_zero (read_on o t at) ≡ true

  at_zero : AtZero
  unfolding has_zero
  at_zero =
      by_cases (dec_le (length rest) 0)
      (λ h.
      let r = read_end o t at (end_step_lem o t at (omega (arith, zero_length)) zero_at) in
      record { sections = rw r refl; zero = rw r refl })
      (λ h.
      let r = read_fault o t at (step_after o t at 0 (omega (arith, zero_length)) (sym zero_at) refl (omega (arith, zero_length))) in
      record { sections = rw r refl; zero = rw r refl })

-- what is read of it
module _ (o : ByteOrder) (w rest : List ℕ) (b : Bytes w) (v : WellFormed o w) where
  ss : List Sect
  ss = (reading o w).sections

  bytes_of : w ++ rest ≡ header_bytes o (entry_of o w) ++ (chunks o ss ++ (header_bytes o 0 ++ rest))
  unfolding table_of ss
  bytes_of = ap (◌++ rest) (sym (table_read o w b v)) ∙ simp append_assoc

  whole_entry : entry_of o (w ++ rest) ≡ entry_of o w
  whole_entry = ap (entry_of o) bytes_of ∙ header_bytes_lem o (entry_of o w) _ (header_lt o w 0 b)

  whole_long : 4 ≤ length (w ++ rest)
  whole_long = simp length-append (omega (arith, well_long o w v))

  whole_reads : (kept o (w ++ rest) ≡ ss) × (has_zero (reading o (w ++ rest)) ≡ true)
  unfolding ss has_zero
  whole_reads =
      let t = w ++ rest in
      let next = 4 + length (chunks o ss) in
      let r = read_begins o t whole_long
      ∙ read_run o t (header_bytes o (entry_of o w)) (header_bytes o 0 ++ rest) 4 (valid_read o w b v) bytes_of (sym (length_header o (entry_of o w))) in
      let z = at_zero o t (header_bytes o (entry_of o w) ++ chunks o ss) rest next (bytes_of ∙ simp append_assoc) (simp (length-append, length_header)) in
      (ap (λ (r : Reading). r.sections) r ∙ rw (z.sections, append-nil) refl, ap has_zero r ∙ z.zero)

  whole_is : rescued o (w ++ rest) ≡ w
  unfolding rescued ss
  whole_is = (λ i. table_of o (whole_entry i) (whole_reads.0 i)) ∙ table_read o w b v

  whole_of : (out : List ℕ) → length (w ++ rest) ≤ table_limit
      → (length w ≤ length out → Gives o (w ++ rest) out w (length (reading o w).sections) (length rest) false)
      × (length out < length w → Refuses o (w ++ rest) out output_short_number)
  unfolding used_bytes ss
  whole_of out limit =
      let k : Taken (w ++ rest) = record { short = limit; long = whole_long } in
      let n : length (w ++ rest) ≡ length w + length rest = length-append w rest in
      let left : length (w ++ rest) - used_bytes o (w ++ rest) ≡ length rest = rw (whole_is, whole_reads.1) (omega (arith, n)) in (
        gives o (w ++ rest) out w k whole_is (ap length whole_reads.0) left (ap not whole_reads.1) (omega (arith, n)),
        no_room o (w ++ rest) out w k whole_is (omega (arith, n)),
      )

well_of : (o : ByteOrder) (t out : List ℕ) → Bytes t → WellFormed o t → length t ≤ length out → Gives o t out t (length (reading o t).sections) 0 false
well_of o t out b v room = rw append-nil at ((whole_of o t [] b v out (rw append-nil v.short)).0 room)

-- ---- the longest run, and the result

-- two lists, of which each is a part of the other from its start on
same_runs : (xs ys : List Sect) → take (length ys) xs ≡ ys → take (length xs) ys ≡ xs → xs ≡ ys
same_runs xs ys e d = sym (take_all (length ys) xs (omega (arith, ap length d, length-take (length xs) ys))) ∙ e

module _ (o : ByteOrder) (t : List ℕ) (b : Bytes t) (long : 4 ≤ length t) where
  kept_valid : All Valid (kept o t)
  kept_valid = rw (kept, read_begins o t long) (read_valid o t b 4)

  kept_longest : (rs : List Sect) → BeginsWith o t rs → take (length rs) (kept o t) ≡ rs
  kept_longest rs r =
      let e : read_on o t 4 ≡ and_then rs (read_on o t (4 + length (chunks o rs))) =
      read_run o t (header_bytes o (entry_of o t)) r.rest 4 r.valid (r.stand ∙ simp append_assoc) (sym (length_header o (entry_of o t))) in
      ap (λ (r : Reading). take (length rs) r.sections) (read_begins o t long ∙ e) ∙ take_at rs _ (length rs) refl

  run_of : Longest o t (reading o t).sections
  run_of = record {
    run = record { valid = kept_valid; rest = drop (behind o t 4) t; stand = table_front o t b long };
    longest = kept_longest;
  }

  -- two longest runs are one
  one_run : (rs : List Sect) → Longest o t rs → kept o t ≡ rs
  one_run rs r = same_runs (kept o t) rs (kept_longest rs r.run) (r.longest (kept o t) run_of.run)

  reads_kept : reading o (rescued o t) ≡ record { sections = kept o t; fault = 0; place = 0 }
  unfolding rescued
  reads_kept = read_table o (entry_of o t) (kept o t) kept_valid

  -- the result is well-formed where it is within the limit, and consists of bytes
  result_well : length (rescued o t) ≤ table_limit → WellFormed o (rescued o t)
  result_well h = record { short = h; whole = rw reads_kept refl }

  result_bytes : Bytes (rescued o t)
  result_bytes =
      rw (rescued_front o t b long)
      (bytes_append (take (whole_run o t).end t) (header_bytes o 0) (bytes_take t (whole_run o t).end b) (written_bytes o 0))

  -- its entry is that of t
  result_entry : entry_of o (rescued o t) ≡ entry_of o t
  unfolding rescued
  result_entry = entry_table o (entry_of o t) (kept o t) (header_lt o t 0 b)

  -- t begins with it where a zero word stands behind the run
  begins_result : has_zero (reading o t) ≡ true → t ≡ rescued o t ++ drop ((whole_run o t).end + 4) t
  begins_result z =
      let end = (whole_run o t).end in
      let w = zero_stands o t b long z in
      sym (take-append-drop (end + 4) t)
      ∙ ap (◌++ drop (end + 4) t) (take-add end 4 t ∙ ap (take end t ++◌) (zero_word o t b end w.0 w.1) ∙ sym (rescued_front o t b long))

holds_of : (o : ByteOrder) (t out : List ℕ) → Bytes t → Succeeds o t out → Holds o t (rescued_in o t out)
holds_of o t out b z =
    let f = fits_of o t (length out) z in
    let long = f.long in
    rw (result_of o t out f)
    (record {
      well = result_well o t b long f.limit;
      entry = result_entry o t b long;
      sections = rw (reads_kept o t b long) (run_of o t b long);
    })

twice_of : (o : ByteOrder) (t out again : List ℕ) → Bytes t → Succeeds o t out → length (rescued_in o t out) ≤ length again
    → let result = rescued_in o t out in Gives o result again result (length (reading o result).sections) 0 false
twice_of o t out again b z room =
    let f = fits_of o t (length out) z in
    let long = f.long in
    let e = result_of o t out f in
    rw e (well_of o (rescued o t) again (result_bytes o t b long) (result_well o t b long f.limit) (rw e at room))

-- ---- a damaged table

-- whether a table has a well-formed one at its front: it does exactly where a zero word stands behind the run
module _ (o : ByteOrder) (t : List ℕ) (b : Bytes t) (long : 4 ≤ length t) (short : length t ≤ table_limit) where
  zero_table : has_zero (reading o t) ≡ true → HasTable o t
  zero_table z =
      let n : length (rescued o t) ≤ table_limit = omega (arith, length_rescued o t, (zero_stands o t b long z).0) in
      record { table = rescued o t; rest = drop ((whole_run o t).end + 4) t; well = result_well o t b long n; is = begins_result o t b long z }

  table_zero : HasTable o t → has_zero (reading o t) ≡ true
  table_zero h = rw h.is (whole_reads o h.table h.rest (bytes_parts h.table h.rest (rw h.is at b)).0 h.well).1

  either_of : Dec (HasTable o t)
  either_of = go (has_zero (reading o t)) refl
    where
      go : (zero : Bool) → has_zero (reading o t) ≡ zero → Dec (HasTable o t)
      go true e = yes (zero_table e)
      go false e = no (λ h. both_ways _ (table_zero h) e)

  damaged_added : (HasTable o t → ⊥) → zero_added o t ≡ true
  damaged_added none = go (has_zero (reading o t)) refl
    where
      go : (zero : Bool) → has_zero (reading o t) ≡ zero → not zero ≡ true
      go false e = refl
      go true e = absurd (none (zero_table e))

  damaged_of : (out : List ℕ) (ss : List Sect) → (HasTable o t → ⊥) → Longest o t ss
      → let result = table_of o (entry_of o t) ss in
      (length result ≤ table_limit → length result ≤ length out → Gives o t out result (length ss) (length t + 4 - length result) true)
      × (table_limit < length result → Refuses o t out result_long_number)
      × (length result ≤ table_limit → length out < length result → Refuses o t out output_short_number)
  unfolding rescued used_bytes
  damaged_of out ss none r =
      let result = table_of o (entry_of o t) ss in
      let k : Taken t = record { short = short; long = long } in
      let one = one_run o t b long ss r in
      let is : rescued o t ≡ result = ap (table_of o (entry_of o t)) one in
      let added = damaged_added none in
      let unused : length t - used_bytes o t ≡ length t + 4 - length result = rw (is, added) (omega (arith, length_table o (entry_of o t) ss)) in
      (gives o t out result k is (ap length one) unused added, too_long o t out result k is, no_room o t out result k is)

-- ---- a table that is cut

cut_of : (o : ByteOrder) (t out : List ℕ) (cut : ℕ) → Bytes t → WellFormed o t → 4 ≤ cut → cut < length t
    → let ss = ending_by cut 4 (reading o t).sections in
    let result = table_of o (entry_of o t) ss in
    length result ≤ length out → Gives o (take cut t) out result (length ss) (cut + 4 - length result) true
unfolding rescued used_bytes has_zero
cut_of o t out cut b w low within room =
    let u = take cut t in
    let ss = ending_by cut 4 (reading o t).sections in
    let result = table_of o (entry_of o t) ss in
    let n : length u ≡ cut = length-take-le cut t (omega arith) in
    let r = well_read o t w in
    let begins = read_begins o u (omega (arith, n)) in
    let left = read_left o t cut within 4 r.1 low in
    let count : kept o u ≡ ss = ap (λ (x : Reading). x.sections) begins ∙ left.sections ∙ ap (λ (x : Reading). ending_by cut 4 x.sections) (sym r.0) in
    let is : rescued o u ≡ result = λ i. table_of o (header_left o t cut within 0 low i) (count i) in
    let size : length result ≡ 8 + length (chunks o ss) = length_table o (entry_of o t) ss in
    let limit : length result ≤ table_limit = omega (arith, size, ending_bytes o cut 4 (reading o t).sections, length_read o t b w, w.short) in
    let fault : (reading o u).fault ≡ table_cut_number = ap (λ (x : Reading). x.fault) begins ∙ left.fault in
    let added : zero_added o u ≡ true = rw fault refl in
    let unused : length u - used_bytes o u ≡ cut + 4 - length result = rw (is, n, added) (omega (arith, size)) in
    gives o u out result (record { short = omega (arith, n, w.short); long = omega (arith, n) }) is (ap length count) unused added limit room

-- ---- sums

module _ (o : ByteOrder) (t : List ℕ) (b : Bytes t) (long : 4 ≤ length t) where
  result_sum : length (rescued o t) ≡ 4 + length (chunks o (kept o t)) + 4
  unfolding whole_run run_on
  result_sum = length_rescued o t

  input_sum : length (rescued o t) + (length t - used_bytes o t) ≡ length t + if (zero_added o t) 4 0
  unfolding used_bytes
  input_sum = go (zero_added o t) (used_within o t b long)
    where
      go : (added : Bool) → length (rescued o t) - if added 4 0 ≤ length t
          → length (rescued o t) + (length t - (length (rescued o t) - if added 4 0)) ≡ length t + if added 4 0
      go true h = omega (arith, result_sum)
      go false h = omega arith

  used_copied : rescued o t ≡ take (used_bytes o t) t ++ if (zero_added o t) (header_bytes o 0) []
  unfolding used_bytes
  used_copied = go (has_zero (reading o t)) refl
    where
      end : ℕ
      end = (whole_run o t).end

      go : (zero : Bool) → has_zero (reading o t) ≡ zero
          → rescued o t ≡ take (length (rescued o t) - if (not zero) 4 0) t ++ if (not zero) (header_bytes o 0) []
      go false e =
          let n : length (rescued o t) - 4 ≡ end = omega (arith, length_rescued o t) in
          rw n (rescued_front o t b long)
      go true e =
          let n : length (rescued o t) ≡ length (rescued o t) - 0 = omega arith in
          sym (rw append-nil (ap (take (length (rescued o t) - 0)) (begins_result o t b long e) ∙ take_at (rescued o t) (drop (end + 4) t) _ n))

sums_of : (o : ByteOrder) (t out : List ℕ) → Bytes t → Succeeds o t out → AddsUp o t out
sums_of o t out b z =
    let f = fits_of o t (length out) z in
    let long = f.long in
    let e = answer_of_lem o t out f in
    let n : length t - (length t - used_bytes o t) ≡ used_bytes o t = omega (arith, used_within o t b long) in
    record {
      result = rw (result_of o t out f, reads_kept o t b long, e) (result_sum o t b long);
      input = rw e (input_sum o t b long);
      copied = rw (result_of o t out f, e, n) (used_copied o t b long);
    }

-- the run is a part of the input, and the result four bytes longer
room_of : (o : ByteOrder) (t out : List ℕ) → (rescue_answer o t (length out)).number ≡ output_short_number → length out < length t + 4
room_of o t out =
    by_answer o t (length out) (λ (r : RescueAnswer). r.number ≡ output_short_number → length out < length t + 4)
    (λ a z. absurd (omega arith)) (λ a z. absurd (omega arith)) (λ a z. absurd (omega arith))
    (λ long short z. omega (arith, length_rescued o t, run_within o t long))
    (λ f z. absurd (omega arith))

-- Rescuing keeps what it promises.
pub rescuing : Rescuing
rescuing = record {
  over = λ o t out h. refuses o t out (λ z. omega arith) (table_long o t (length out) h);
  entry_cut = λ o t out h. refuses o t out (λ z. omega arith) (entry_cut o t (length out) (omega arith) h);
  whole = λ o w rest out b v. whole_of o w rest b v out;
  either = either_of;
  run = run_of;
  damaged = λ o t out ss b long short. damaged_of o t b long short out ss;
  holds = holds_of;
  well = well_of;
  twice = twice_of;
  cut = cut_of;
  sums = sums_of;
  room = room_of;
}
