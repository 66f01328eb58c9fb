-- Laws of the walks that look for an address stored again: what the sections passed say of a range of addresses. m is a map, t a table, o its byte order.
use Prim.Native.Nat.{ℕ, suc, ◌+◌, ◌-◌, ◌^◌, ◌≤◌, ◌<◌, min, max}
use mathlib.Core.Path.{◌≡◌, refl, sym, ◌∙◌, ap}
use mathlib.Core.List.{List, [], ◌∷◌, ◌++◌}
use mathlib.Core.Bool.{Bool, true, false}
use mathlib.Core.Logic.{by_cases}
use native.Mathlib.Decide.{dec_le}
use native.Mathlib.Omega.{arith}
use borrow.Author.Tests.{ltb-true, ltb-false}
use lib.ListN.{length, take, drop}
use lib.Seq.{take-add, drop-drop, take-nil}
use lib.Dec.{ltb}
use Rattle.words.specs.declared.ByteOrder.{ByteOrder}
use Rattle.words.proofs.ChoiceLaws.{both_ways}
use Rattle.region_map.specs.Map.{count, one_write, once}
use Rattle.region_map.specs.Search.{lowest_from}
use Rattle.region_map.proofs.RecordLaws.{last}
use Rattle.region_map.proofs.OpenLaws.{lowest_low}
use Rattle.region_map.proofs.OnceLaws.{once_below, once_found}
use Rattle.boot_table.specs.Table.{Section, End, Sect, Reading, next_of, step_at, section_at, before, read_on, reading}
use Rattle.boot_table.specs.Form.{WellFormed}
use Rattle.boot_table.specs.Meaning.{covers, times}
use Rattle.boot_table.specs.Valid.{All, none, also}
use Rattle.boot_table.proofs.StepLaws.{IsSection, section_of, length_body, next_at}
use Rattle.boot_table.proofs.ReadLaws.{read_section, read_end, read_next, whole_ind}
use Rattle.boot_table.proofs.FormLaws.{well_read, well_long}
use Rattle.boot_table.proofs.MeaningLaws.{covers_true, covers_in, times_yes, times_no, times_append}
use Rattle.one_write.specs.declared.Earlier.{Earlier}
use Rattle.std.specs.Prelude.{None, Some}
use Rattle.one_write.specs.Once.{written, repeats_from, repeat_from, first_repeat}
use Rattle.one_write.specs.Walk.{Meets, Between, earlier_with}
use Rattle.one_write.proofs.OnceLaws.{written_yes, written_not, written_none, written_skip, repeats_yes, repeats_none, repeat_here, repeat_on}

-- ---- whether an address of a range passes a test

module _ (test : ℕ → Bool) (lo hi : ℕ) where
  meets_one : (x : ℕ) → lo ≤ x → x < hi → test x ≡ true → Meets test lo hi true
  meets_one x l u e = record { hit = λ r. (x, l, u, e); miss = λ r. absurd (both_ways true refl r) }

  pub meets_none : ((x : ℕ) → lo ≤ x → x < hi → test x ≡ false) → Meets test lo hi false
  meets_none f = record { hit = λ r. absurd (both_ways false r refl); miss = λ r. f }

-- tests that say the same of the range
pub meets_same : (p q : ℕ → Bool) (lo hi : ℕ) (r : Bool) → ((x : ℕ) → lo ≤ x → x < hi → p x ≡ q x) → Meets q lo hi r → Meets p lo hi r
meets_same p q lo hi r s w =
    record {
      hit = λ y. let h = w.hit y in (h.0, h.1, h.2, s h.0 h.1 h.2 ∙ h.3);
      miss = λ n x l u. s x l u ∙ w.miss n x l u;
    }

-- what the outcome is
pub meets_is : (p : ℕ → Bool) (lo hi : ℕ) (r : Bool) {b : Bool} → Meets p lo hi r → r ≡ b → Meets p lo hi b
meets_is p lo hi r w e = rw (← e) w

-- ---- a range that was searched: x is the lowest address from its start on that takes one write

pub once_test : (m : List ℕ) (from to x : ℕ) → x ≡ lowest_from (one_write m) m (count m) from → from ≤ to → to ≤ 2 ^ 32 → Meets (once m) from to (ltb x to)
once_test m from to x e s h =
    let low = lowest_low (one_write m) m from (count m) (omega arith) in
    record {
      hit = λ r. let u = ltb-true x to r in (x, omega arith, u, rw e (once_found m from (omega arith)));
      miss = λ r y a b. let u = ltb-false x to r in once_below m from y a (omega arith);
    }

-- ---- the first sections, walked: so many as left stand from offset at on

module _ (o : ByteOrder) (t : List ℕ) (at : ℕ) {address size start next : ℕ} (e : step_at o t at ≡ Section address size start next) where
  -- the addresses that the section covers
  at_covers : (x : ℕ) → address ≤ x → x < address + size → covers (section_at t at address size) x ≡ true
  unfolding section_at
  at_covers x l u = covers_in (section_at t at address size) x l (omega (arith, length_body o t at (section_of o t at e)))

  covers_at : (x : ℕ) → covers (section_at t at address size) x ≡ true → (address ≤ x) × (x < address + size)
  unfolding section_at
  covers_at x c =
      let i = covers_true (section_at t at address size) x c in
      (i.0, omega (arith, i.1, length_body o t at (section_of o t at e)))

  -- a section more is taken
  take_section : (left : ℕ) → 0 < left → take left (read_on o t at).sections ≡ section_at t at address size ∷ take (left - 1) (read_on o t next).sections
  unfolding before
  take_section left k =
      ap (λ (n : ℕ). take n (read_on o t at).sections) (last left k) ∙ ap (λ (r : Reading). take (suc (left - 1)) r.sections) (read_section o t at e)

  module _ (m : List ℕ) (left first end : ℕ) (some : 0 < left) where
    -- it shares an address that takes one write with the range
    pub left_hit : (r : Bool) → Meets (once m) (max address first) (min (address + size) end) r → r ≡ true
        → Meets (written m (take left (read_on o t at).sections)) first end true
    left_hit r w y =
        let h = w.hit y in
        let s = section_at t at address size in
        let ss = take (left - 1) (read_on o t next).sections in
        meets_one (written m (take left (read_on o t at).sections)) first end h.0 (omega (arith, h.1)) (omega (arith, h.2))
        (rw (take_section left some)
        (written_yes m (s ∷ ss) h.0 h.3 (omega (arith, times_yes s ss h.0 (at_covers h.0 (omega (arith, h.1)) (omega (arith, h.2)))))))

    -- or shares none, and the others decide
    pub left_miss : (r : Bool) → Meets (once m) (max address first) (min (address + size) end) r → r ≡ false → (x : ℕ) → first ≤ x → x < end
        → written m (take left (read_on o t at).sections) x ≡ written m (take (left - 1) (read_on o t next).sections) x
    left_miss r w n x l u =
        rw (take_section left some)
        (written_skip m (section_at t at address size) (take (left - 1) (read_on o t next).sections) x
        (λ c. let i = covers_at x c in w.miss n x (omega (arith, i.0)) (omega (arith, i.1))))

-- no section is left
pub none_written : (m : List ℕ) (x : ℕ) → written m [] x ≡ false
unfolding times
none_written m x = written_none m [] x refl

pub end_written : (o : ByteOrder) (m t : List ℕ) (at left : ℕ) → step_at o t at ≡ End → (x : ℕ) → written m (take left (read_on o t at).sections) x ≡ false
end_written o m t at left e x = rw (read_end o t at e, take-nil left) (none_written m x)

-- ---- ranges that store nothing again

-- one of whose addresses no section stores
pub free_meets : (m : List ℕ) (ss : List Sect) (first end : ℕ) → ((x : ℕ) → first ≤ x → x < end → 1 ≤ times ss x → ⊥) → Meets (written m ss) first end false
free_meets m ss first end free =
    meets_none (written m ss) first end
    (λ x l u. written_none m ss x (by_cases (dec_le 1 (times ss x)) (λ k. absurd (free x l u k)) (λ k. omega arith)))

module _ (m : List ℕ) (ss : List Sect) (low high first end : ℕ) (b : Between ss low high) where
  -- one that begins where the sections have ended
  pub above_meets : high ≤ first → Meets (written m ss) first end false
  above_meets h = free_meets m ss first end (λ x l u k. omega (arith, (b x k).1))

  -- and one that ends before they begin
  pub below_meets : end ≤ low → Meets (written m ss) first end false
  below_meets h = free_meets m ss first end (λ x l u k. omega (arith, (b x k).0))

-- and one without an address that takes one write
pub plain_meets : (m : List ℕ) (ss : List Sect) (first end : ℕ) → end ≤ lowest_from (one_write m) m (count m) first → Meets (written m ss) first end false
plain_meets m ss first end h = meets_none (written m ss) first end (λ x l u. written_not m ss x (once_below m first x l (omega arith)))

-- ---- a map without an address that takes one write

-- no section of a table goes past the top
abbrev Topped : Sect → Type 0
Topped s = s.address + length s.body ≤ 2 ^ 32

read_topped : (o : ByteOrder) (t : List ℕ) (at : ℕ) → (read_on o t at).fault ≡ 0 → All Topped (read_on o t at).sections
unfolding before section_at
read_topped o t = whole_ind o t (λ (at : ℕ). All Topped (read_on o t at).sections)
    (λ at e. rw (read_end o t at e) none)
    (λ at address size start next e g on.
    let i = section_of o t at e in
    rw (read_section o t at e) (also {s = section_at t at address size} (rw (length_body o t at i) i.top) on))

plain_from : (m : List ℕ) → ((x : ℕ) → x < 2 ^ 32 → once m x ≡ false) → (at : ℕ) (earlier : List Sect) {ss : List Sect} → All Topped ss → repeat_from m at earlier ss ≡ None
unfolding repeat_from
plain_from m f at earlier none = refl
plain_from m f at earlier (also {s = s} {ss = ss} h hs) =
    repeat_on m at earlier s ss
    (repeats_none m earlier (length s.body) s.address (λ x l u. written_not m earlier x (f x (omega (arith, h)))))
    ∙ plain_from m f (next_of at (length s.body)) (earlier ++ s ∷ []) hs

pub plain_table : (o : ByteOrder) (m t : List ℕ) → WellFormed o t → 2 ^ 32 ≤ lowest_from (one_write m) m (count m) 0 → first_repeat o m t ≡ None
unfolding first_repeat
plain_table o m t w h =
    let r = well_read o t w in
    rw r.0 (plain_from m (λ x u. once_below m 0 x (omega arith) (omega arith)) 4 [] (read_topped o t 4 r.1))

-- ---- the walk over all sections

-- it stands at offset at behind the sections that were passed, of which none stores an address of kind 3 again
pub record Behind (o : ByteOrder) (m t : List ℕ) (at : ℕ) (p : Earlier) : Type 0 where
  pub whole : (read_on o t at).fault ≡ 0
  pub few : p.sections ≤ at
  pub within : at ≤ length t
  pub rest : drop p.sections (reading o t).sections ≡ (read_on o t at).sections
  pub rule : first_repeat o m t ≡ repeat_from m at (take p.sections (reading o t).sections) (read_on o t at).sections
  pub between : Between (take p.sections (reading o t).sections) p.low p.high

-- it begins behind the entry word
pub behind_none : (o : ByteOrder) (m t : List ℕ) (low high : ℕ) → WellFormed o t → Behind o m t 4 (record { sections = 0; low = low; high = high })
unfolding first_repeat times
behind_none o m t low high f =
    let w = well_read o t f in
    record {
      whole = w.1;
      few = omega arith;
      within = omega (arith, well_long o t f);
      rest = ap (λ (r : Reading). r.sections) w.0;
      rule = ap (λ (r : Reading). repeat_from m 4 [] r.sections) w.0;
      between = λ x h. absurd (omega arith);
    }

-- a section that stores such an address again ends it
pub behind_here : (o : ByteOrder) (m t : List ℕ) (at : ℕ) (p : Earlier) {address size start next : ℕ} → step_at o t at ≡ Section address size start next
    → Behind o m t at p → Meets (written m (take p.sections (reading o t).sections)) address (address + size) true → first_repeat o m t ≡ Some at
unfolding before section_at
behind_here o m t at p {address} {size} {start} {next} e b w =
    let h = w.hit refl in
    let earlier = take p.sections (reading o t).sections in
    b.rule
    ∙ ap (λ (r : Reading). repeat_from m at earlier r.sections) (read_section o t at e)
    ∙ repeat_here m at earlier (section_at t at address size) (read_on o t next).sections
    (repeats_yes m earlier (length (section_at t at address size).body) address h.0 h.1 (omega (arith, h.2, length_body o t at (section_of o t at e))) h.3)

-- the zero word as well
pub behind_end : (o : ByteOrder) (m t : List ℕ) (at : ℕ) (p : Earlier) → step_at o t at ≡ End → Behind o m t at p → first_repeat o m t ≡ None
unfolding repeat_from
behind_end o m t at p e b =
    b.rule ∙ ap (λ (r : Reading). repeat_from m at (take p.sections (reading o t).sections) r.sections) (read_end o t at e)

-- the sections that were passed, and one more
module _ (all : List Sect) (k : ℕ) (s : Sect) (ss : List Sect) (e : drop k all ≡ s ∷ ss) where
  take_more : take (k + 1) all ≡ take k all ++ s ∷ []
  take_more = take-add k 1 all ∙ ap (λ (l : List Sect). take k all ++ take 1 l) e

  drop_more : drop (k + 1) all ≡ ss
  drop_more = sym (drop-drop 1 k all) ∙ ap (drop 1) e

-- it goes on behind a section that stores none again
pub behind_more : (o : ByteOrder) (m t : List ℕ) (at : ℕ) (p r : Earlier) {address size start next : ℕ} → step_at o t at ≡ Section address size start next
    → Behind o m t at p → Meets (written m (take p.sections (reading o t).sections)) address (address + size) false
    → r ≡ earlier_with p address (address + size) → Behind o m t next r
unfolding before section_at next_of times
behind_more o m t at p r {address} {size} {start} {next} e b w h =
    record {
      whole = read_next o t at e b.whole;
      few = omega (arith, more, b.few, i.next_is);
      within = i.within;
      rest = ap (λ (n : ℕ). drop n (reading o t).sections) more ∙ drop_more (reading o t).sections p.sections s (read_on o t next).sections d;
      rule = b.rule
          ∙ ap (λ (r : Reading). repeat_from m at (take p.sections (reading o t).sections) r.sections) (read_section o t at e)
          ∙ repeat_on m at (take p.sections (reading o t).sections) s (read_on o t next).sections no_repeat
          ∙ ap (λ (n : ℕ). repeat_from m n (take p.sections (reading o t).sections ++ s ∷ []) (read_on o t next).sections) (next_at o t at i)
          ∙ ap (λ (l : List Sect). repeat_from m next l (read_on o t next).sections) (sym taken);
      between = λ x k. rest_between x (rw taken at k);
    }
  where
    more : r.sections ≡ p.sections + 1
    more = ap (λ (q : Earlier). q.sections) h

    low : r.low ≡ min p.low address
    low = ap (λ (q : Earlier). q.low) h

    high : r.high ≡ max p.high (address + size)
    high = ap (λ (q : Earlier). q.high) h

    i : IsSection o t at address size start next
    i = section_of o t at e

    s : Sect
    s = section_at t at address size

    d : drop p.sections (reading o t).sections ≡ section_at t at address size ∷ (read_on o t next).sections
    d = b.rest ∙ ap (λ (r : Reading). r.sections) (read_section o t at e)

    taken : take r.sections (reading o t).sections ≡ take p.sections (reading o t).sections ++ section_at t at address size ∷ []
    taken = ap (λ (n : ℕ). take n (reading o t).sections) more ∙ take_more (reading o t).sections p.sections s (read_on o t next).sections d

    no_repeat : repeats_from m (take p.sections (reading o t).sections) (length (section_at t at address size).body) address ≡ false
    no_repeat = repeats_none m (take p.sections (reading o t).sections) (length (section_at t at address size).body) address
        (λ x l u. w.miss refl x l (omega (arith, length_body o t at i)))

    rest_between : (x : ℕ) → 1 ≤ times (take p.sections (reading o t).sections ++ section_at t at address size ∷ []) x → (r.low ≤ x) × (x < r.high)
    rest_between x k = go (covers (section_at t at address size) x) refl
      where
        go : (c : Bool) → covers (section_at t at address size) x ≡ c → (r.low ≤ x) × (x < r.high)
        go true c = let j = covers_at o t at e x c in (omega (arith, low, j.0), omega (arith, high, j.1))
        go false c =
            let n = times_append (take p.sections (reading o t).sections) (section_at t at address size ∷ []) x in
            let z = times_no (section_at t at address size) [] x c in
            let j = b.between x (omega arith) in
            (omega (arith, low, j.0), omega (arith, high, j.1))
