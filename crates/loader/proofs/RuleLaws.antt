-- Laws of the map rule: what a table's sections come to under a map.
use mathlib.Core.Path.{◌≡◌, refl, sym, ◌∙◌, ap}
use mathlib.Core.Logic.{◌⊎◌, inl, inr, ⊎_elim}
use mathlib.Core.List.{List, [], ◌∷◌}
use mathlib.Core.Option.{Option, none, some}
use Prim.Native.Nat.{ℕ, ◌+◌, ◌≤◌}
use native.Mathlib.Omega.{arith}
use lib.ListN.{length}
use Rattle.words.specs.declared.ByteOrder.{ByteOrder}
use Rattle.words.specs.Refusal.{not_open_number}
use Rattle.region_map.specs.Map.{closed_from}
use Rattle.region_map.proofs.OpenLaws.{open_each, each_open}
use Rattle.boot_table.specs.Table.{Section, End, Sect, Reading, next_of, step_at, section_at, before, read_on, reading}
use Rattle.boot_table.proofs.StepLaws.{section_of, length_body, next_at}
use Rattle.boot_table.proofs.ReadLaws.{read_section, read_end, read_begins}
use Rattle.boot_table.proofs.FormLaws.{form_section}
use Rattle.boot_table.specs.Valid.{All, none as All-none, also}
use Rattle.boot_table.proofs.MeaningLaws.{covers_true, covers_in}
use Rattle.loader.specs.declared.judging.Stretch.{Stretch}
use Rattle.loader.specs.declared.judging.Walk.{Walk}
use Rattle.loader.specs.Judging.{Open, Counted, Passed}
use Rattle.loader.specs.Load.{Answer, not_open, on_closed, accepted, map_rule, Opens}

-- equal answers have one number
pub same_number : {r s : Answer} → r ≡ s → r.number ≡ s.number
same_number e = ap (λ (a : Answer). a.number) e

-- no address of a section is closed exactly where all that it covers are open
pub nowhere_opens : (m : List ℕ) (s : Sect) → closed_from m (length s.body) s.address ≡ none → Opens m s
nowhere_opens m s e a c =
    let k = covers_true s a c in
    open_each m (length s.body) s.address a e k.0 k.1

pub opens_nowhere : (m : List ℕ) (s : Sect) → Opens m s → closed_from m (length s.body) s.address ≡ none
opens_nowhere m s opens = each_open m (length s.body) s.address (λ x l u. opens x (covers_in s x l u))

module _ (m : List ℕ) (fine : Answer) where
  -- a section without a closed address leaves the answer to those after it; another one is refused
  pub rule_open : (at : ℕ) (s : Sect) (ss : List Sect) → closed_from m (length s.body) s.address ≡ none
      → map_rule m fine at (s ∷ ss) ≡ map_rule m fine (next_of at (length s.body)) ss
  unfolding map_rule
  rule_open at s ss e = ap (on_closed at (map_rule m fine (next_of at (length s.body)) ss)) e

  pub rule_closed : (at a : ℕ) (s : Sect) (ss : List Sect) → closed_from m (length s.body) s.address ≡ some a
      → map_rule m fine at (s ∷ ss) ≡ not_open at a
  unfolding map_rule
  rule_closed at a s ss e = ap (on_closed at (map_rule m fine (next_of at (length s.body)) ss)) e

  -- sections whose addresses are open are fine
  pub opens_rule : (at : ℕ) {ss : List Sect} → All (Opens m) ss → map_rule m fine at ss ≡ fine
  unfolding map_rule
  opens_rule at All-none = refl
  opens_rule at (also {s = s} {ss = ss} o os) = rule_open at s ss (opens_nowhere m s o) ∙ opens_rule (next_of at (length s.body)) os

  -- where one is not open, the number is 9
  pub rule_number : (at : ℕ) (ss : List Sect) → ((map_rule m fine at ss).number ≡ not_open_number) ⊎ (All (Opens m) ss)
  rule_number at [] = inr All-none
  rule_number at (s ∷ ss) = go (closed_from m (length s.body) s.address) refl (rule_number (next_of at (length s.body)) ss)
    where
      go : (c : Option ℕ) → closed_from m (length s.body) s.address ≡ c
          → ((map_rule m fine (next_of at (length s.body)) ss).number ≡ not_open_number) ⊎ (All (Opens m) ss)
          → ((map_rule m fine at (s ∷ ss)).number ≡ not_open_number) ⊎ (All (Opens m) (s ∷ ss))
      go none e (inl p) = inl (same_number (rule_open at s ss e) ∙ p)
      go none e (inr k) = inr (also (nowhere_opens m s e) k)
      go (some a) e ih = inl (same_number (rule_closed at a s ss e))

  -- so sections that are not refused are open
  pub rule_opens : (at : ℕ) (ss : List Sect) → (map_rule m fine at ss).number ≡ 0 → All (Opens m) ss
  rule_opens at ss z = ⊎_elim (λ p. absurd (omega arith)) (λ k. k) (rule_number at ss)

-- what the map rule refuses does not depend on the answer that it would leave
pub rule_refused : (m : List ℕ) (at : ℕ) (ss : List Sect) (fine other : Answer) → fine.number ≡ 0 → ((map_rule m fine at ss).number ≡ 0 → ⊥)
    → map_rule m fine at ss ≡ map_rule m other at ss
unfolding map_rule
rule_refused m at [] fine other z n = absurd (n z)
rule_refused m at (s ∷ ss) fine other z n =
    go (closed_from m (length s.body) s.address) n (rule_refused m (next_of at (length s.body)) ss fine other z)
  where
    later : Answer → Answer
    later f = map_rule m f (next_of at (length s.body)) ss

    go : (c : Option ℕ) → ((on_closed at (later fine) c).number ≡ 0 → ⊥) → (((later fine).number ≡ 0 → ⊥) → later fine ≡ later other)
        → on_closed at (later fine) c ≡ on_closed at (later other) c
    go none k ih = ih k
    go (some a) k ih = refl

-- ---- the map rule on a walk

-- the walk begins behind the entry word
pub rule_start : (o : ByteOrder) (m t : List ℕ) (fine : Answer) → 4 ≤ length t → map_rule m fine 4 (reading o t).sections ≡ map_rule m fine 4 (read_on o t 4).sections
rule_start o m t fine h = ap (λ (r : Reading). map_rule m fine 4 r.sections) (read_begins o t h)

all_split : {P : Sect → Type 0} {s : Sect} {ss : List Sect} → All P (s ∷ ss) → P s × (All P ss)
all_split (also p ps) = (p, ps)

-- the section as data has the step's size
size_is : (o : ByteOrder) (m t : List ℕ) (at : ℕ) {address size start next : ℕ} → step_at o t at ≡ Section address size start next
    → closed_from m (length (section_at t at address size).body) address ≡ closed_from m size address
size_is o m t at e = rw (length_body o t at (section_of o t at e))

module _ (o : ByteOrder) (m : List ℕ) (fine : Answer) (t : List ℕ) (at : ℕ) where
  module _ {address size start next : ℕ} (e : step_at o t at ≡ Section address size start next) where
    pub walk_open : closed_from m size address ≡ none → map_rule m fine at (read_on o t at).sections ≡ map_rule m fine next (read_on o t next).sections
    unfolding before section_at
    walk_open n =
        rw (read_section o t at e) (rule_open m fine at (section_at t at address size) (read_on o t next).sections (size_is o m t at e ∙ n))
        ∙ ap (λ (k : ℕ). map_rule m fine k (read_on o t next).sections) (next_at o t at (section_of o t at e))

    pub walk_closed : (a : ℕ) → closed_from m size address ≡ some a → map_rule m fine at (read_on o t at).sections ≡ not_open at a
    unfolding before section_at
    walk_closed a n = rw (read_section o t at e) (rule_closed m fine at a (section_at t at address size) (read_on o t next).sections (size_is o m t at e ∙ n))

  pub walk_end : step_at o t at ≡ End → map_rule m fine at (read_on o t at).sections ≡ fine
  unfolding map_rule
  walk_end e = rw (read_end o t at e)

-- ---- a walk that passes a section

module _ (o : ByteOrder) (t : List ℕ) (w : Walk) {address size start next : ℕ} (e : step_at o t w.offset ≡ Section address size start next) where
  pub count_on : Counted t w → Counted t (record { offset = next; sections = w.sections + 1; bytes = w.bytes + size })
  count_on c =
      let i = section_of o t w.offset e in
      record { within = i.within; few = omega (arith, c.few, i.next_is); small = omega (arith, c.small, i.next_is) }

  -- the section is open, and s is a stretch from then on
  pub pass_on : (m : List ℕ) (r s : Stretch) → Passed o m t w r → closed_from m size address ≡ none → Open m s
      → Passed o m t (record { offset = next; sections = w.sections + 1; bytes = w.bytes + size }) s
  pass_on m r s p n opened =
      record {
        form = p.form ∙ form_section o t w.sections w.bytes w.offset e;
        rule = p.rule ∙ walk_open o m (accepted o m t) t w.offset e n;
        is = opened;
      }

  -- the section lies in the stretch
  pub pass_in : (m : List ℕ) (s : Stretch) → s.from ≤ address → address + size ≤ s.until → Passed o m t w s
      → Passed o m t (record { offset = next; sections = w.sections + 1; bytes = w.bytes + size }) s
  pass_in m s l u p = pass_on m s s p (each_open m size address (λ x v k. p.is.opens x (omega arith) (omega arith))) p.is

-- where every section from an offset on is open, so is the one that stands there, and those after it
pub opens_next : (o : ByteOrder) (m t : List ℕ) (at : ℕ) {address size start next : ℕ} → step_at o t at ≡ Section address size start next
    → All (Opens m) (read_on o t at).sections → (closed_from m size address ≡ none) × (All (Opens m) (read_on o t next).sections)
unfolding before section_at
opens_next o m t at {address} {size} {start} {next} e opens =
    let q = all_split (rw (read_section o t at e) at opens) in
    (sym (size_is o m t at e) ∙ opens_nowhere m (section_at t at address size) q.0, q.1)
