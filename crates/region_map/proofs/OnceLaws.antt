-- Laws of kind 3: which addresses take one write, and that kind 1 alone is permitted in a map without such a record. m is a map.
use Prim.Native.Nat.{ℕ, zero, suc, ◌+◌, ◌^◌, ◌≤◌, ◌<◌}
use mathlib.Core.Path.{◌≡◌, refl}
use mathlib.Core.List.{List}
use mathlib.Core.Bool.{Bool, true, false, not, ◌&&◌, ◌||◌}
use native.Mathlib.Omega.{arith}
use lib.Dec.{leb}
use Rattle.words.specs.Choice.{if}
use Rattle.std.specs.Prelude.{Option}
use Rattle.std.specs.Prelude.{Some, None}
use Rattle.region_map.specs.Map.{count, marked, is_kind, permitted, reserved, one_write, known, zeroed, length_at, end_at, holds, shares, shares_any, sound_at, any_holds, is_open, once, size_before, holder}
use Rattle.region_map.specs.Search.{lowest_from}
use Rattle.region_map.proofs.OpenLaws.{lowest_each, lowest_held}

-- from a on, no address below the one that is found takes one write
pub once_below : (m : List ℕ) (a x : ℕ) → a ≤ x → x < lowest_from (one_write m) m (count m) a → once m x ≡ false
unfolding once
once_below m a x l u = lowest_each (one_write m) m a (count m) x l u

-- and that one does, where it is below 2^32
pub once_found : (m : List ℕ) (a : ℕ) → lowest_from (one_write m) m (count m) a < 2 ^ 32 → once m (lowest_from (one_write m) m (count m) a) ≡ true
unfolding once
once_found m a h = lowest_held (one_write m) m a (count m) h

-- ---- without kind 3

-- a record of another kind is permitted exactly where it is of kind 1
pub plain_permitted : (m : List ℕ) (i : ℕ) → one_write m i ≡ false → permitted m i ≡ is_kind m 1 i
unfolding one_write permitted
plain_permitted m i e = rw e (or_false (is_kind m 1 i))
  where
    or_false : (b : Bool) → (b || false) ≡ b
    or_false true = refl
    or_false false = refl

-- what document 01 says of kind 1, over the records of any kind: their lengths, the one that holds an address, and whether one shares an address with record i
unfoldable pub lengths_of : (ℕ → Bool) → List ℕ → ℕ → ℕ
lengths_of kind m zero = 0
lengths_of kind m (suc i) = lengths_of kind m i + if (kind i) (length_at m i) 0

unfoldable pub holder_of : (ℕ → Bool) → List ℕ → ℕ → ℕ → Option ℕ
holder_of kind m zero a = None
holder_of kind m (suc i) a = if (kind i && holds m i a) (Some i) (holder_of kind m i a)

unfoldable pub shares_of : (ℕ → Bool) → List ℕ → ℕ → ℕ → Bool
shares_of kind m i zero = false
shares_of kind m i (suc j) = (kind j && shares m i j) || shares_of kind m i j

-- in a map without a record of kind 3
module _ (m : List ℕ) (plain : (i : ℕ) → i < count m → one_write m i ≡ false) where
  kind_one : (i : ℕ) → i < count m → permitted m i ≡ is_kind m 1 i
  kind_one i k = plain_permitted m i (plain i k)

  any_one : (n a : ℕ) → n ≤ count m → any_holds (permitted m) m n a ≡ any_holds (is_kind m 1) m n a
  unfolding any_holds
  any_one zero a h = refl
  any_one (suc n) a h = rw (kind_one n (omega arith), any_one n a (omega arith))

  -- an address is open when a record of kind 1 holds it and no reserved record does
  pub plain_open : (a : ℕ) → is_open m a ≡ (any_holds (is_kind m 1) m (count m) a && not (any_holds (reserved m) m (count m) a))
  unfolding is_open
  plain_open a = rw (any_one (count m) a (omega arith))

  -- the places of a record's bytes, and the memory sum, go by the lengths of kind 1
  pub plain_size : (n : ℕ) → n ≤ count m → size_before m n ≡ lengths_of (is_kind m 1) m n
  unfolding size_before lengths_of
  plain_size zero h = refl
  plain_size (suc n) h = rw (kind_one n (omega arith), plain_size n (omega arith))

  holders_one : (n a : ℕ) → n ≤ count m → holder m n a ≡ holder_of (is_kind m 1) m n a
  unfolding holder holder_of
  holders_one zero a h = refl
  holders_one (suc n) a h = rw (kind_one n (omega arith), holders_one n a (omega arith))

  -- and so does the record that an address is placed by
  pub plain_holder : (a : ℕ) → holder m (count m) a ≡ holder_of (is_kind m 1) m (count m) a
  plain_holder a = holders_one (count m) a (omega arith)

  shares_one : (i n : ℕ) → n ≤ count m → shares_any m i n ≡ shares_of (is_kind m 1) m i n
  unfolding shares_any shares_of
  shares_one i zero h = refl
  shares_one i (suc n) h = rw (kind_one n (omega arith), shares_one i n (omega arith))

  -- a record breaks no rule: of the known kinds 1 and 2 are left, and of the no-sharing rule kind 1
  pub plain_sound : (i : ℕ) → i < count m → sound_at m i
      ≡ (marked m i && (is_kind m 1 i || is_kind m 2 i) && zeroed m i && leb 1 (length_at m i) && leb (end_at m i) (2 ^ 32)
      && not (is_kind m 1 i && shares_of (is_kind m 1) m i i))
  unfolding sound_at known reserved
  plain_sound i k = rw (kind_one i k, shares_one i i (omega arith))

any_not : (m : List ℕ) (n x : ℕ) → ((i : ℕ) → i < n → one_write m i ≡ false) → any_holds (one_write m) m n x ≡ false
unfolding any_holds
any_not m zero x f = refl
any_not m (suc n) x f = rw (f n (omega arith)) (any_not m n x (λ i k. f i (omega arith)))

-- and in a map without a record of kind 3 no address takes one write
pub plain_once : (m : List ℕ) → ((i : ℕ) → i < count m → one_write m i ≡ false) → (x : ℕ) → once m x ≡ false
unfolding once
plain_once m f x = any_not m (count m) x f
