-- Laws of stretches of open addresses: how far one goes on, and what it says of a section's addresses.
use mathlib.Core.Path.{◌≡◌, sym, ◌∙◌}
use mathlib.Core.Logic.{by_cases}
use mathlib.Core.List.{List}
use mathlib.Core.Bool.{true, false}
use mathlib.Core.Option.{none, some}
use Prim.Native.Nat.{ℕ, ◌+◌, ◌-◌, ◌≤◌, ◌<◌, min}
use native.Mathlib.Decide.{dec_lt, dec_le}
use native.Mathlib.Omega.{arith}
use Rattle.region_map.specs.Map.{is_open, closed_from}
use Rattle.region_map.specs.Search.{permitted_until}
use Rattle.region_map.proofs.OpenLaws.{open_yes, open_not, open_reserved, permitted_each, permitted_not, closed_at, closed_skip, each_open}
use Rattle.loader.specs.declared.judging.Stretch.{Stretch}
use Rattle.loader.specs.Judging.{ClearPast, OpenTo}

-- what is open up to b, and from b on up to r, is open up to r
pub open_join : (m : List ℕ) (a b r : ℕ) → ((x : ℕ) → a ≤ x → x < b → is_open m x ≡ true) → ((x : ℕ) → b ≤ x → x < r → is_open m x ≡ true)
    → (x : ℕ) → a ≤ x → x < r → is_open m x ≡ true
open_join m a b r f g x l u = by_cases (dec_lt x b) (f x l) (λ n. g x (omega arith) u)

-- from a on the addresses are open as far as they are permitted and clear
module _ (m : List ℕ) (a c : ℕ) (q : ClearPast m a c) where
  pub open_next : (x : ℕ) → a ≤ x → x < min (permitted_until m a) c → is_open m x ≡ true
  open_next x l u = open_yes m x (permitted_each m a x l (omega arith)) (q.clear x l (omega arith))

  -- and where that is nowhere, a is not open
  pub open_none : min (permitted_until m a) c ≤ a → is_open m a ≡ false
  open_none h =
      by_cases (dec_le c a)
      (λ k. open_reserved m a (q.why (omega (arith, q.low))))
      (λ k. open_not m a (permitted_not m a (omega arith)))

-- a stretch that holds the addresses from a on says whether one of n is closed
module _ (m : List ℕ) (n a : ℕ) (s : Stretch) (o : OpenTo m a (a + n) s) where
  inside : (x : ℕ) → a ≤ x → x < s.until → is_open m x ≡ true
  inside x l u = o.is.opens x (omega (arith, o.low)) u

  pub to_closed : s.until < a + n → closed_from m n a ≡ some s.until
  to_closed l =
      closed_skip m n a s.until o.high inside ∙ sym (closed_at m (n - (s.until - a)) s.until (omega (arith, o.high)) (o.why l))

  pub to_open : a + n ≤ s.until → closed_from m n a ≡ none
  to_open l = each_open m n a (λ x v u. inside x v (omega arith))
