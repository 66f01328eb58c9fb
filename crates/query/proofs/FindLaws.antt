-- Laws of finding: when it answers, what its answers say, and which part is answered.
use Prim.Native.Nat.{ℕ, ◌+◌, ◌-◌, ◌*◌, ◌≤◌, ◌<◌}
use mathlib.Core.Path.{◌≡◌, refl, sym, ap, ◌∙◌}
use mathlib.Core.Logic.{by_cases}
use mathlib.Core.List.{List}
use mathlib.Core.Bool.{Bool, true, false, ◌&&◌}
use native.Mathlib.Nat.{add-zero}
use native.Mathlib.Omega.{arith}
use native.Mathlib.Decide.{ℕ_discrete}
use borrow.Author.Tests.{ne_eqb}
use lib.ListN.{length, take, drop}
use lib.Dec.{eqb}
use Rattle.std.specs.Prelude.{Option, Some, None, Result, Ok, Err}
use Rattle.words.specs.declared.ByteOrder.{ByteOrder}
use Rattle.words.specs.Refusal.{number_of, place_of}
use Rattle.words.specs.declared.refusal.Refusal.{Refusal}
use Rattle.words.proofs.ChoiceLaws.{if_both}
use Rattle.words.proofs.RefusalLaws.{number_some}
use Rattle.boot_table.specs.Table.{reading}
use Rattle.boot_table.specs.Form.{table_limit, form_of, WellFormed}
use Rattle.boot_table.proofs.FormLaws.{form_well, well_form, well_sections}
use Rattle.query.specs.declared.Hit.{Hit}
use Rattle.query.specs.declared.Which.TheVariants.{Older as InOlder, Newer as InNewer}
use Rattle.query.specs.declared.TablePart.{TablePart}
use Rattle.query.specs.declared.Found.{Found}
use Rattle.query.specs.declared.FindRefusal.{FindRefusal}
use Rattle.query.specs.declared.FindRefusal.TheVariants.{Older, Newer}
use Rattle.query.specs.Find.{Walk, Whole, Faulty, FindAnswer, header_walk, walked, find_refused, from_hits, from_walks, find_answer, part_of, answer_of, in_newer, chosen, part_bytes, part_start}
use Rattle.query.specs.Covering.{NoPart, Says, Refuses, Finding}
use Rattle.query.proofs.HitLaws.{read_count, HitSays, walk_says}

-- ---- one table

module _ (o : ByteOrder) (t : List ℕ) (a : ℕ) where
  -- a well-formed table is walked to its end
  pub well_walked : WellFormed o t → walked o t a ≡ Whole (header_walk o t a).hit (header_walk o t a).read
  unfolding walked
  well_walked w = rw (well_form o t w) refl

  -- any other has its fault
  pub fault_walked : ((form_of o t).number ≡ 0 → ⊥) → walked o t a ≡ Faulty (form_of o t).number (form_of o t).place
  unfolding walked
  fault_walked n = simp (ne_eqb _ _ n)

  -- a table that is walked is well-formed
  walked_well : {h : Option Hit} {n : ℕ} → walked o t a ≡ Whole h n → WellFormed o t
  walked_well e =
      by_cases (ℕ_discrete (form_of o t).number 0)
      (λ z. form_well o t z)
      (λ n. let f = fault_walked n in let z : ◌≡◌ {A = ℕ} 0 1 = cc in absurd (omega arith))

  -- a fault has a number
  faulty_number : {number place : ℕ} → walked o t a ≡ Faulty number place → number ≡ 0 → ⊥
  faulty_number {number} e zero_number =
      by_cases (ℕ_discrete (form_of o t).number 0)
      (λ z. let f = well_walked (form_well o t z) in let y : ◌≡◌ {A = ℕ} 0 1 = cc in omega arith)
      (λ n. let f = fault_walked n in let same : (form_of o t).number ≡ number = cc in n (same ∙ zero_number))

  -- a walk reads no more bytes than a table may have
  pub read_few : {h : Option Hit} {n : ℕ} → walked o t a ≡ Whole h n → n ≤ table_limit
  unfolding header_walk
  read_few {h} {n} e =
      let w = walked_well e in
      let c : n ≡ (header_walk o t a).read = cc (well_walked w) in
      let k : (header_walk o t a).read ≡ 8 * length (reading o t).sections + 4 = read_count 4 (reading o t).sections a in
      omega (arith, well_sections o t w, w.short)

-- ---- two tables

module _ (o : ByteOrder) (older newer : List ℕ) (a : ℕ) where
  -- the answer by what the walks came to
  pub find_first : {number place : ℕ} → walked o older a ≡ Faulty number place → find_refused number place 1 ≡ find_answer o older newer a
  unfolding find_answer
  find_first e = sym (ap (λ (w : Walk). from_walks w (walked o newer a)) e)

  pub find_second : {h : Option Hit} {n number place : ℕ} → walked o older a ≡ Whole h n → walked o newer a ≡ Faulty number place
      → find_refused number place 2 ≡ find_answer o older newer a
  unfolding find_answer
  find_second {h} {n} e f = sym (ap (λ (w : Walk). from_walks w (walked o newer a)) e ∙ ap (from_walks (Whole h n)) f)

  pub find_both : {h k : Option Hit} {n m : ℕ} → walked o older a ≡ Whole h n → walked o newer a ≡ Whole k m → from_hits h k (n + m) ≡ find_answer o older newer a
  unfolding find_answer
  find_both {h} {k} {n} {m} e f = sym (ap (λ (w : Walk). from_walks w (walked o newer a)) e ∙ ap (from_walks (Whole h n)) f)

  -- two well-formed tables have an answer
  pub find_well : WellFormed o older → WellFormed o newer
      → from_hits (header_walk o older a).hit (header_walk o newer a).hit ((header_walk o older a).read + (header_walk o newer a).read) ≡ find_answer o older newer a
  find_well v w = find_both (well_walked o older a v) (well_walked o newer a w)

  -- and no others
  find_only : (find_answer o older newer a).number ≡ 0 → (WellFormed o older) × (WellFormed o newer)
  find_only z = go (walked o older a) (walked o newer a) refl refl
    where
      go : (x y : Walk) → walked o older a ≡ x → walked o newer a ≡ y → (WellFormed o older) × (WellFormed o newer)
      go (Faulty number place) y e f = absurd (faulty_number o older a e (ap (λ (r : FindAnswer). r.number) (find_first e) ∙ z))
      go (Whole h n) (Faulty number place) e f = absurd (faulty_number o newer a f (ap (λ (r : FindAnswer). r.number) (find_second e f) ∙ z))
      go (Whole h n) (Whole k m) e f = (walked_well o older a e, walked_well o newer a f)

found_number : (h k : Option Hit) (read : ℕ) → (from_hits h k read).number ≡ 0
found_number h (Some hit) read = refl
found_number (Some hit) None read = refl
found_number None None read = refl

-- an answer that does not name the newer table, with offset and length zero, tells of no part
no_part : (older newer : List ℕ) (r : FindAnswer) → in_newer r ≡ false → r.offset ≡ 0 → r.length ≡ 0 → NoPart older newer r
unfolding part_bytes part_start chosen
no_part older newer r other offset size = record {
  bytes = rw size refl;
  start = λ p q. rw (other, offset) (λ i. (p.0, add-zero p.1 i));
}

-- what the answer for two hits says, by what the hits say
module _ (o : ByteOrder) (older newer : List ℕ) (a read : ℕ)
    (count : read ≡ 8 * (length (reading o older).sections + length (reading o newer).sections) + 4 + 4) where
  hits_say : (h k : Option Hit) → HitSays 4 (reading o older).sections older a h → HitSays 4 (reading o newer).sections newer a k → Says o older newer a (from_hits h k read)
  unfolding part_bytes part_start chosen in_newer
  hits_say h (Some hit) p q = record {
    in_newer = λ e. q.0;
    in_older = λ e. absurd (omega arith);
    in_neither = λ e. absurd (omega arith);
    tables = omega arith;
    starts = λ p q. (λ e. refl, λ e. absurd (omega arith));
    inside = q.1;
    count = count;
  }
  hits_say (Some hit) None p q = record {
    in_newer = λ e. absurd (omega arith);
    in_older = λ e. (q, p.0);
    in_neither = λ e. absurd (omega arith);
    tables = omega arith;
    starts = λ p q. (λ e. absurd (omega arith), λ e. refl);
    inside = p.1;
    count = count;
  }
  hits_say None None p q = record {
    in_newer = λ e. absurd (omega arith);
    in_older = λ e. absurd (omega arith);
    in_neither = λ e. (q, p, refl, refl, no_part older newer (from_hits None None read) refl refl refl);
    tables = omega arith;
    starts = λ p q. (λ e. absurd (omega arith), λ e. absurd (omega arith));
    inside = omega arith;
    count = count;
  }

-- what a refusal says, by what the walks came to
walks_refuse : (o : ByteOrder) (older newer : List ℕ) (a : ℕ) → ((find_answer o older newer a).number ≡ 0 → ⊥) → Refuses older newer (find_answer o older newer a)
unfolding in_newer
walks_refuse o older newer a n = go (walked o older a) (walked o newer a) refl refl
  where
    refused : (number place table : ℕ) → 1 ≤ table → table ≤ 2 → find_refused number place table ≡ find_answer o older newer a → Refuses older newer (find_answer o older newer a)
    refused number place table l h e =
        rw (← e) (record {
          table = (l, h);
          zero = (refl, refl, refl);
          none = no_part older newer (find_refused number place table) (ap (λ (b : Bool). b && eqb table 2) (ne_eqb number 0 (rw (← e) at n))) refl refl;
        })

    go : (x y : Walk) → walked o older a ≡ x → walked o newer a ≡ y → Refuses older newer (find_answer o older newer a)
    go (Faulty number place) y e f = refused number place 1 (omega arith) (omega arith) (find_first o older newer a e)
    go (Whole h i) (Faulty number place) e f = refused number place 2 (omega arith) (omega arith) (find_second o older newer a e f)
    go (Whole h i) (Whole k m) e f = absurd (n (ap (λ (r : FindAnswer). r.number) (sym (find_both o older newer a e f)) ∙ found_number h k (i + m)))

-- Every answer that is no refusal is given for two well-formed tables, and says which part stands at the address; a refusal tells of no part.
pub finding : Finding
unfolding header_walk
finding = record {
  accepted = λ o older newer a. (
    find_only o older newer a,
    λ w. ap (λ (r : FindAnswer). r.number) (sym (find_well o older newer a w.0 w.1)) ∙ found_number (header_walk o older a).hit (header_walk o newer a).hit _,
  );
  says = λ o older newer a z.
      let w = find_only o older newer a z in
      let m : (header_walk o older a).read ≡ 8 * length (reading o older).sections + 4 = read_count 4 (reading o older).sections a in
      let n : (header_walk o newer a).read ≡ 8 * length (reading o newer).sections + 4 = read_count 4 (reading o newer).sections a in
      rw (← (find_well o older newer a w.0 w.1))
      (hits_say o older newer a ((header_walk o older a).read + (header_walk o newer a).read) (omega arith) (header_walk o older a).hit (header_walk o newer a).hit
      (walk_says o older a w.0) (walk_says o newer a w.1));
  refuses = walks_refuse;
}

-- ---- the part

-- the part lies inside its table, of every answer
pub find_inside : (o : ByteOrder) (older newer : List ℕ) (a : ℕ) (r : FindAnswer) → r ≡ find_answer o older newer a → r.offset + r.length ≤ length (chosen r older newer)
find_inside o older newer a r e =
    rw e (by_cases (ℕ_discrete (find_answer o older newer a).number 0)
    (λ z. (finding.says o older newer a z).inside)
    (λ n. let b = (walks_refuse o older newer a n).zero in omega arith))

-- so it ends below any bound on the lengths of both tables
pub find_fits : (o : ByteOrder) (older newer : List ℕ) (a n : ℕ) (r : FindAnswer) → r ≡ find_answer o older newer a → length older < n → length newer < n → r.offset + r.length < n
unfolding chosen
find_fits o older newer a n r e h k =
    let i = find_inside o older newer a r e in
    let l : length (chosen r older newer) < n = if_both (λ (t : List ℕ). length t < n) (in_newer r) newer older k h in
    omega arith

-- which part the code's answer r tells of
module _ (o : ByteOrder) (older newer : List ℕ) (a : ℕ) (r : Result Found FindRefusal) (e : answer_of r ≡ find_answer o older newer a) where
  -- a part
  pub some_found : (f : Found) (p : TablePart) → r ≡ Ok f → f.part ≡ Some p → part_of (Some p) f.read ≡ find_answer o older newer a
  some_found f p is some = ap (λ (x : Option TablePart). part_of x f.read) (sym some) ∙ ap answer_of (sym is) ∙ e

  -- none
  pub none_found : (f : Found) → r ≡ Ok f → f.part ≡ None → NoPart older newer (find_answer o older newer a)
  unfolding in_newer
  none_found f is none =
      let same : part_of None f.read ≡ find_answer o older newer a = ap (λ (x : Option TablePart). part_of x f.read) (sym none) ∙ ap answer_of (sym is) ∙ e in
      rw (← same) (no_part older newer (part_of None f.read) refl refl refl)

  -- nor in a refusal
  pub refusal_found : (y : FindRefusal) → r ≡ Err y → NoPart older newer (find_answer o older newer a)
  unfolding in_newer
  refusal_found y is = go y (ap answer_of (sym is) ∙ e)
    where
      refused : (x : Refusal) (table : ℕ) → NoPart older newer (find_refused (number_of x) (place_of x) table)
      refused x table = no_part older newer (find_refused (number_of x) (place_of x) table) (ap (λ (b : Bool). b && eqb table 2) (ne_eqb (number_of x) 0 (number_some x))) refl refl

      go : (y : FindRefusal) → answer_of (Err y) ≡ find_answer o older newer a → NoPart older newer (find_answer o older newer a)
      go (Older x) same = rw (← same) (refused x 1)
      go (Newer x) same = rw (← same) (refused x 2)

-- what is chosen, by the answer's test
module _ {A : Type 0} (r : FindAnswer) (older newer : A) where
  pub chosen_newer : in_newer r ≡ true → chosen r older newer ≡ newer
  unfolding chosen
  chosen_newer e = rw e refl

  pub chosen_older : in_newer r ≡ false → chosen r older newer ≡ older
  unfolding chosen
  chosen_older e = rw e refl

-- and by the part's table
module _ {A : Type 0} (p : TablePart) (read : ℕ) (older newer : A) where
  pub part_newer : p.table ≡ InNewer → chosen (part_of (Some p) read) older newer ≡ newer
  unfolding in_newer
  part_newer e = chosen_newer _ older newer (rw e refl)

  pub part_older : p.table ≡ InOlder → chosen (part_of (Some p) read) older newer ≡ older
  unfolding in_newer
  part_older e = chosen_older _ older newer (rw e refl)

-- the chosen table, lent from the offset of an answer on for its length, is the part
pub part_lent : (r answer : FindAnswer) (older newer t : List ℕ) → r ≡ answer → chosen r older newer ≡ t
    → take (r.offset + r.length - r.offset) (drop r.offset t) ≡ part_bytes answer older newer
unfolding part_bytes
part_lent r answer older newer t e is = let n : r.offset + r.length - r.offset ≡ r.length = omega arith in rw (← e, is, n) refl

-- and stands where the part does
pub start_lent : (r answer : FindAnswer) (older newer p : ℕ × ℕ) (n : ℕ) → r ≡ answer → chosen r older newer ≡ p → n ≡ p.1 + r.offset → (p.0, n) ≡ part_start answer older newer
unfolding part_start
start_lent r answer older newer p n e is at = rw (← e, is, at) refl
