-- Laws of open addresses: when an address is open, and what the search for the lowest that is not finds.
use mathlib.Core.Path.{◌≡◌, refl, sym, ap, ◌∙◌}
use mathlib.Core.Logic.{by_cases}
use mathlib.Core.List.{List}
use mathlib.Core.Bool.{Bool, true, false, not, ◌&&◌, ◌||◌}
use mathlib.Core.Option.{none, some}
use Prim.Native.Nat.{ℕ, zero, suc, ◌+◌, ◌-◌, ◌^◌, ◌≤◌, ◌<◌, min, max}
use native.Mathlib.Decide.{ℕ_discrete, dec_le, dec_lt}
use native.Mathlib.Omega.{arith}
use lib.Dec.{ltb}
use borrow.Author.Tests.{lt-ltb, le-ltb, ltb-true, ltb-false}
use Rattle.words.specs.Choice.{if}
use Rattle.words.proofs.ChoiceLaws.{both_ways, and_yes, and_no, or_yes, if_split, if_both, if_cases}
use Rattle.std.specs.Prelude.{Option}
use Rattle.std.specs.Prelude.{Some, None}
use Rattle.region_map.specs.Map.{count, permitted, reserved, first_at, end_at, holds, any_holds, is_open, closed_from, holder}
use Rattle.region_map.specs.Search.{touching_before, touching_after, until_of, permitted_until, lowest_in, lowest_from}
use Rattle.region_map.proofs.RecordLaws.{HeldBy, last, holds_below, holds_above, holds_yes, holds_only, held_any, held_more, holder_only, holder_none}

-- when the address x is open, and when not
module _ (m : List ℕ) (x : ℕ) where
  pub open_yes : any_holds (permitted m) m (count m) x ≡ true → any_holds (reserved m) m (count m) x ≡ false → is_open m x ≡ true
  unfolding is_open
  open_yes e f = rw (e, f)

  pub open_not : any_holds (permitted m) m (count m) x ≡ false → is_open m x ≡ false
  unfolding is_open
  open_not e = rw e

  pub open_reserved : any_holds (reserved m) m (count m) x ≡ true → is_open m x ≡ false
  unfolding is_open
  open_reserved e = and_no (any_holds (permitted m) m (count m) x) (not (any_holds (reserved m) m (count m) x)) (rw e)

  -- a permitted record holds an open address
  pub open_holder : is_open m x ≡ true → (i : ℕ) × (holder m (count m) x ≡ Some i)
  open_holder e = go (holder m (count m) x) refl
    where
      go : (f : Option ℕ) → holder m (count m) x ≡ f → (i : ℕ) × (f ≡ Some i)
      go None q = absurd (both_ways (is_open m x) e (open_not (holder_none m (count m) x q)))
      go (Some i) q = (i, refl)

-- ---- how far a record permits, and how far none reserves

-- a permitted record holds each address from a up to b, and b is not below a
abbrev Held : List ℕ → ℕ → ℕ → Type 0
Held m a b = (a ≤ b) × ((x : ℕ) → a ≤ x → x < b → any_holds (permitted m) m (count m) x ≡ true)

-- from a to b, and on to c
held_on : (m : List ℕ) (a b c : ℕ) → Held m a b → Held m b c → Held m a c
held_on m a b c p q = (omega (arith, p.0, q.0), λ x l u. by_cases (dec_lt x b) (p.1 x l) (λ n. q.1 x (omega arith) u))

-- by one record, to its end
held_by : (m : List ℕ) (i a : ℕ) → HeldBy m (count m) a i → Held m a (end_at m i)
held_by m i a h = (omega (arith, h.high), λ x l u. held_any m (count m) x i (held_more m (count m) a i x h l u))

held_if : (m : List ℕ) (i a c : ℕ) → i < count m → Held m (end_at m i) c → Held m a (if (permitted m i && holds m i a) c a)
held_if m i a c k q =
    if_cases (Held m a) (permitted m i && holds m i a) c a
    (λ e.
    let p = and_yes (permitted m i) (holds m i a) e in
    let h = holds_only m i a p.1 in
    held_on m a (end_at m i) c (held_by m i a (record { few = k; kind = p.0; low = h.0; high = h.1 })) q)
    (λ e. (omega arith, λ x l u. absurd (omega arith)))

held_before : (m : List ℕ) (i a : ℕ) → i ≤ count m → Held m a (touching_before m i a)
unfolding touching_before
held_before m zero a k = (omega arith, λ x l u. absurd (omega arith))
held_before m (suc i) a k = held_if m i a (touching_before m i (end_at m i)) k (held_before m i (end_at m i) (omega arith))

held_after : (m : List ℕ) (n i a : ℕ) → n + i ≤ count m → Held m a (touching_after m n i a)
unfolding touching_after
held_after m zero i a k = (omega arith, λ x l u. absurd (omega arith))
held_after m (suc n) i a k = held_if m i a (touching_after m n (suc i) (end_at m i)) (omega arith) (held_after m n (suc i) (end_at m i) (omega arith))

-- by the record that holds a, and on through those beside it
held_until : (m : List ℕ) (a i : ℕ) → HeldBy m (count m) a i → (end_at m i ≤ until_of m a (Some i)) × Held m a (until_of m a (Some i))
held_until m a i h =
    let k = h.few in
    let b = held_before m i (end_at m i) (omega arith) in
    let c = held_after m (count m - suc i) (suc i) (touching_before m i (end_at m i)) (omega arith) in
    let o = held_on m (end_at m i) (touching_before m i (end_at m i)) (until_of m a (Some i)) b c in
    (o.0, held_on m a (end_at m i) (until_of m a (Some i)) (held_by m i a h) o)

module _ (m : List ℕ) (a : ℕ) where
  -- the addresses up to where records permit them are permitted
  pub permitted_each : (x : ℕ) → a ≤ x → x < permitted_until m a → any_holds (permitted m) m (count m) x ≡ true
  unfolding permitted_until
  permitted_each x l u = go (holder m (count m) a) refl u
    where
      go : (f : Option ℕ) → holder m (count m) a ≡ f → x < until_of m a f → any_holds (permitted m) m (count m) x ≡ true
      go None e k = absurd (omega arith)
      go (Some i) e k = (held_until m a i (holder_only m (count m) a i e)).1.1 x l k

  -- and where these are none, a is not
  pub permitted_not : permitted_until m a ≤ a → any_holds (permitted m) m (count m) a ≡ false
  unfolding permitted_until
  permitted_not u = go (holder m (count m) a) refl u
    where
      go : (f : Option ℕ) → holder m (count m) a ≡ f → until_of m a f ≤ a → any_holds (permitted m) m (count m) a ≡ false
      go None e k = holder_none m (count m) a e
      go (Some i) e k = let h = holder_only m (count m) a i e in absurd (omega (arith, h.high, (held_until m a i h).0))

-- ---- the lowest address from a on in a record of a kind

-- the lowest address from a on that record i can hold
abbrev start : List ℕ → ℕ → ℕ → ℕ
start m i a = max a (first_at m i)

module _ (kind : ℕ → Bool) (m : List ℕ) (a : ℕ) where
  -- a record that is of another kind, or ends before, holds no address from a on
  kind_not : (i : ℕ) → (kind i && ltb (start m i a) (end_at m i)) ≡ false → (x : ℕ) → a ≤ x → (kind i && holds m i x) ≡ false
  kind_not i e x l = go (kind i) refl
    where
      go : (b : Bool) → kind i ≡ b → (kind i && holds m i x) ≡ false
      go false q = rw q
      go true q =
          let k : ltb (start m i a) (end_at m i) ≡ false = rw q at e in
          let h = ltb-false (start m i a) (end_at m i) k in
          and_no (kind i) (holds m i x)
          (by_cases (dec_le (first_at m i) x) (λ f. holds_above m i x (omega arith)) (λ f. holds_below m i x (omega arith)))

  pub lowest_low : (n : ℕ) → a ≤ 2 ^ 32 → a ≤ lowest_from kind m n a
  unfolding lowest_from lowest_in
  lowest_low zero h = h
  lowest_low (suc i) h =
      let k = lowest_low i h in
      if_both (λ (b : ℕ). a ≤ b) (kind i && ltb (start m i a) (end_at m i)) _ _ (omega arith) k

  -- no record of the kind holds an address below the one that is found
  pub lowest_each : (n x : ℕ) → a ≤ x → x < lowest_from kind m n a → any_holds kind m n x ≡ false
  unfolding lowest_from lowest_in any_holds
  lowest_each zero x l u = refl
  lowest_each (suc i) x l u = go (kind i && ltb (start m i a) (end_at m i)) refl u (lowest_each i x l)
    where
      go : (b : Bool) → (kind i && ltb (start m i a) (end_at m i)) ≡ b
          → x < if b (min (lowest_from kind m i a) (start m i a)) (lowest_from kind m i a)
          → (x < lowest_from kind m i a → any_holds kind m i x ≡ false) → ((kind i && holds m i x) || any_holds kind m i x) ≡ false
      go true e k ih = rw (and_no (kind i) (holds m i x) (holds_below m i x (omega arith)), ih (omega arith))
      go false e k ih = rw (kind_not i e x l, ih k)

  -- and one holds the address that is found
  pub lowest_held : (n : ℕ) → lowest_from kind m n a < 2 ^ 32 → any_holds kind m n (lowest_from kind m n a) ≡ true
  unfolding lowest_from lowest_in any_holds
  lowest_held zero h = absurd (omega arith)
  lowest_held (suc i) h = go (kind i && ltb (start m i a) (end_at m i)) refl h (lowest_held i)
    where
      held : ℕ → Type 0
      held x = ((kind i && holds m i x) || any_holds kind m i x) ≡ true

      go : (b : Bool) → (kind i && ltb (start m i a) (end_at m i)) ≡ b
          → if b (min (lowest_from kind m i a) (start m i a)) (lowest_from kind m i a) < 2 ^ 32
          → (lowest_from kind m i a < 2 ^ 32 → any_holds kind m i (lowest_from kind m i a) ≡ true)
          → held (if b (min (lowest_from kind m i a) (start m i a)) (lowest_from kind m i a))
      go false e k ih = or_yes (kind i && holds m i (lowest_from kind m i a)) (any_holds kind m i (lowest_from kind m i a)) (ih k)
      go true e k ih =
          let p = and_yes (kind i) (ltb (start m i a) (end_at m i)) e in
          let u = ltb-true (start m i a) (end_at m i) p.1 in
          by_cases (dec_le (lowest_from kind m i a) (start m i a))
          (λ f.
          let q : min (lowest_from kind m i a) (start m i a) ≡ lowest_from kind m i a = omega arith in
          rw q (or_yes (kind i && holds m i (lowest_from kind m i a)) (any_holds kind m i (lowest_from kind m i a)) (ih (omega arith))))
          (λ f.
          let q : min (lowest_from kind m i a) (start m i a) ≡ start m i a = omega arith in
          rw (q, p.0, holds_yes m i (start m i a) (omega arith) u))

  -- a is found only where one holds it
  pub lowest_at : (n : ℕ) → a < 2 ^ 32 → lowest_from kind m n a ≤ a → any_holds kind m n a ≡ true
  lowest_at n h u =
      let e : lowest_from kind m n a ≡ a = omega (arith, lowest_low n (omega arith)) in
      rw e at (lowest_held n (omega arith))

-- a permitted address is open where it is below the lowest reserved one from it on
pub open_test : (m : List ℕ) (a : ℕ) → a < 2 ^ 32 → any_holds (permitted m) m (count m) a ≡ true → ltb a (lowest_from (reserved m) m (count m) a) ≡ is_open m a
open_test m a h p = go (dec_lt a (lowest_from (reserved m) m (count m) a))
  where
    go : Dec (a < lowest_from (reserved m) m (count m) a) → ltb a (lowest_from (reserved m) m (count m) a) ≡ is_open m a
    go (yes l) = lt-ltb a (lowest_from (reserved m) m (count m) a) l ∙ sym (open_yes m a p (lowest_each (reserved m) m a (count m) a (omega arith) l))
    go (no l) = le-ltb a (lowest_from (reserved m) m (count m) a) (omega arith) ∙ sym (open_reserved m a (lowest_at (reserved m) m a (count m) h (omega arith)))

-- the lowest closed address among n from a on: a, or one from b on where those up to b are open
pub closed_at : (m : List ℕ) (n a : ℕ) → 0 < n → is_open m a ≡ false → some a ≡ closed_from m n a
unfolding closed_from
closed_at m n a h e = rw (last n h) (simp e)

pub closed_skip : (m : List ℕ) (n a b : ℕ) → a ≤ b → ((x : ℕ) → a ≤ x → x < b → is_open m x ≡ true) → closed_from m n a ≡ closed_from m (n - (b - a)) b
unfolding closed_from
closed_skip m zero a b h f = let k : 0 - (b - a) ≡ 0 = omega arith in rw k
closed_skip m (suc n) a b h f = go (ℕ_discrete a b) (λ k. closed_skip m n (suc a) b k (λ x l u. f x (omega arith) u))
  where
    go : Dec (a ≡ b) → (suc a ≤ b → closed_from m n (suc a) ≡ closed_from m (n - (b - suc a)) b) → if (is_open m a) (closed_from m n (suc a)) (some a) ≡ closed_from m (suc n - (b - a)) b
    go (yes q) ih = let k : suc n - (b - a) ≡ suc n = omega arith in rw (k, q)
    go (no q) ih =
        let k : suc n - (b - a) ≡ n - (b - suc a) = omega arith in
        rw (f a (omega arith) (omega arith), k) (ih (omega arith))

-- none is closed just where each is open
pub each_open : (m : List ℕ) (n a : ℕ) → ((x : ℕ) → a ≤ x → x < a + n → is_open m x ≡ true) → closed_from m n a ≡ none
unfolding closed_from
each_open m n a f =
    let k : n - (a + n - a) ≡ 0 = omega arith in
    closed_skip m n a (a + n) (omega arith) f ∙ ap (λ (l : ℕ). closed_from m l (a + n)) k

pub open_each : (m : List ℕ) (n a x : ℕ) → closed_from m n a ≡ none → a ≤ x → x < a + n → is_open m x ≡ true
unfolding closed_from
open_each m zero a x e l u = absurd (omega arith)
open_each m (suc n) a x e l u =
    if_split (is_open m a) (closed_from m n (suc a)) (some a) none e
    (λ p q. go (ℕ_discrete a x) p (λ k. open_each m n (suc a) x q k (omega arith)))
    (λ p q. let z : ◌≡◌ {A = ℕ} 0 1 = cc in absurd (omega arith))
  where
    go : Dec (a ≡ x) → is_open m a ≡ true → (suc a ≤ x → is_open m x ≡ true) → is_open m x ≡ true
    go (yes p) s ih = rw (← p) s
    go (no p) s ih = ih (omega arith)

-- the lowest closed address is one of the n, and is not open
pub closed_is : (m : List ℕ) (n a x : ℕ) → closed_from m n a ≡ some x → (a ≤ x) × (x < a + n) × (is_open m x ≡ false)
unfolding closed_from
closed_is m zero a x e = let z : ◌≡◌ {A = ℕ} 0 1 = cc in absurd (omega arith)
closed_is m (suc n) a x e =
    if_split (is_open m a) (closed_from m n (suc a)) (some a) (some x) e
    (λ p q. let w = closed_is m n (suc a) x q in (omega arith, omega arith, w.2))
    (λ p q. let w : a ≡ x = cc in (omega arith, omega arith, rw w at p))
