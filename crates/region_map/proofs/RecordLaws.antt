-- Laws of one record and of the first n records: which addresses they hold, and how many bytes they take.
use mathlib.Core.Path.{◌≡◌, refl, sym, ap, ◌∙◌}
use mathlib.Core.List.{List}
use mathlib.Core.Bool.{Bool, true, false, ◌&&◌}
use Prim.Native.Nat.{ℕ, zero, suc, ◌+◌, ◌-◌, ◌≤◌, ◌<◌}
use native.Mathlib.Numerals.{add-one}
use native.Mathlib.Decide.{ℕ_discrete}
use native.Mathlib.Omega.{arith}
use lib.Dec.{ltb, leb}
use borrow.Author.Tests.{lt-ltb, le-ltb, lt-leb, le-leb, ltb-true, leb-true}
use Rattle.words.specs.Choice.{if}
use Rattle.words.proofs.ChoiceLaws.{and_yes, and_no, or_yes, if_split}
use Rattle.std.specs.Prelude.{Some, None}
use Rattle.std.proofs.lemmas.Option.{none-some}
use Rattle.region_map.specs.Search.{touching_after}
use Rattle.region_map.specs.Map.{permitted, first_at, length_at, end_at, holds, any_holds, holder, size_before}

-- some records are those before the last, and the last
pub last : (n : ℕ) → 0 < n → n ≡ suc (n - 1)
last n h = omega arith

-- when record i holds x, and when not
module _ (m : List ℕ) (i x : ℕ) where
  pub holds_below : x < first_at m i → holds m i x ≡ false
  unfolding holds
  holds_below k = rw (lt-leb (first_at m i) x k)

  pub holds_above : end_at m i ≤ x → holds m i x ≡ false
  unfolding holds
  holds_above k = and_no (leb (first_at m i) x) (ltb x (end_at m i)) (le-ltb x (end_at m i) k)

  pub holds_yes : first_at m i ≤ x → x < end_at m i → holds m i x ≡ true
  unfolding holds
  holds_yes l u = rw (le-leb (first_at m i) x l, lt-ltb x (end_at m i) u)

  pub holds_only : holds m i x ≡ true → (first_at m i ≤ x) × (x < end_at m i)
  unfolding holds
  holds_only e =
      let p = and_yes (leb (first_at m i) x) (ltb x (end_at m i)) e in
      (leb-true (first_at m i) x p.0, ltb-true x (end_at m i) p.1)

-- one of the first n records that are of a kind holds a
pub any_yes : (kind : ℕ → Bool) (m : List ℕ) (n i a : ℕ) → i < n → (kind i && holds m i a) ≡ true → any_holds kind m n a ≡ true
unfolding any_holds
any_yes kind m zero i a k e = absurd (omega arith)
any_yes kind m (suc n) i a k e = go (ℕ_discrete i n) (λ l. any_yes kind m n i a l e)
  where
    go : Dec (i ≡ n) → (i < n → any_holds kind m n a ≡ true) → any_holds kind m (suc n) a ≡ true
    go (yes q) ih = let w : (kind n && holds m n a) ≡ true = rw (← q) e in rw w
    go (no q) ih = or_yes (kind n && holds m n a) (any_holds kind m n a) (ih (omega arith))

-- how far the records from i up to n permit from a on, where record i holds a
pub after_yes : (m : List ℕ) (n i a : ℕ) → i < n → true ≡ (permitted m i && holds m i a)
    → touching_after m (n - i) i a ≡ touching_after m (n - (i + 1)) (i + 1) (end_at m i)
unfolding touching_after
after_yes m n i a k e = let l : n - i ≡ suc (n - (i + 1)) = omega arith in ap (λ (x : ℕ). touching_after m x i a) l ∙ simp (← e, add-one)

-- record i is one of the first n, is permitted, and holds a
pub record HeldBy (m : List ℕ) (n a i : ℕ) : Type 0 where
  pub few : i < n
  pub kind : permitted m i ≡ true
  pub low : first_at m i ≤ a
  pub high : a < end_at m i

-- it is one of k as well, if it is before them
pub held_among : (m : List ℕ) (n k a i : ℕ) → HeldBy m n a i → i < k → HeldBy m k a i
held_among m n k a i h l = record { few = l; kind = h.kind; low = h.low; high = h.high }

-- it holds each address from a up to its end as well
pub held_more : (m : List ℕ) (n a i x : ℕ) → HeldBy m n a i → a ≤ x → x < end_at m i → HeldBy m n x i
held_more m n a i x h l u = record { few = h.few; kind = h.kind; low = omega (arith, h.low); high = u }

-- a permitted record holds what one is known to hold
pub held_any : (m : List ℕ) (n a i : ℕ) → HeldBy m n a i → any_holds (permitted m) m n a ≡ true
held_any m n a i h = any_yes (permitted m) m n i a h.few (rw h.kind (holds_yes m i a h.low h.high))

-- the record that is found is such a one
pub holder_only : (m : List ℕ) (n a i : ℕ) → holder m n a ≡ Some i → HeldBy m n a i
unfolding holder
holder_only m zero a i e = absurd (none-some i e)
holder_only m (suc n) a i e =
    if_split (permitted m n && holds m n a) (Some n) (holder m n a) (Some i) e
    (λ q f.
    let w : n ≡ i = cc in
    let p = and_yes (permitted m n) (holds m n a) q in
    let h = holds_only m i a (rw w at p.1) in
    record { few = omega arith; kind = rw w at p.0; low = h.0; high = h.1 })
    (λ q f. let h = holder_only m n a i f in held_among m n (suc n) a i h (omega (arith, h.few)))

-- it is one of them, and so one of them holds a
pub holder_few : (m : List ℕ) (n a i : ℕ) → holder m n a ≡ Some i → i < n
holder_few m n a i e = (holder_only m n a i e).few

pub holder_any : (m : List ℕ) (n a i : ℕ) → holder m n a ≡ Some i → any_holds (permitted m) m n a ≡ true
holder_any m n a i e = held_any m n a i (holder_only m n a i e)

-- where none is found none holds a
pub holder_none : (m : List ℕ) (n a : ℕ) → holder m n a ≡ None → any_holds (permitted m) m n a ≡ false
unfolding holder any_holds
holder_none m zero a e = refl
holder_none m (suc n) a e =
    if_split (permitted m n && holds m n a) (Some n) (holder m n a) None e
    (λ q f. absurd (none-some n (sym f)))
    (λ q f. rw q (holder_none m n a f))

-- the bytes of a permitted record are among those of all n
pub size_more : (m : List ℕ) (n i : ℕ) → i < n → permitted m i ≡ true → size_before m i + length_at m i ≤ size_before m n
unfolding size_before
size_more m zero i k p = absurd (omega arith)
size_more m (suc n) i k p = go (ℕ_discrete i n) (λ l. size_more m n i l p)
  where
    go : Dec (i ≡ n) → (i < n → size_before m i + length_at m i ≤ size_before m n) → size_before m i + length_at m i ≤ size_before m n + if (permitted m n) (length_at m n) 0
    go (yes e) ih = let f : permitted m n ≡ true = rw (← e) p in rw (f, e) (omega arith)
    go (no e) ih = let g = ih (omega arith) in omega arith

-- the permitted lengths up to record i, and with it
pub size_yes : (m : List ℕ) (i s l : ℕ) → s ≡ size_before m i → true ≡ permitted m i → l ≡ length_at m i → s + l ≡ size_before m (i + 1)
unfolding size_before
size_yes m i s l e p z =
    rw (e, z) (ap (λ (b : Bool). size_before m i + if b (length_at m i) 0) p) ∙ ap (size_before m) (sym (add-one i))
