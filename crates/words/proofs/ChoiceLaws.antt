-- Laws of tests and of choices by them.
use mathlib.Core.Path.{◌≡◌, refl}
use mathlib.Core.Bool.{Bool, true, false, ◌&&◌, ◌||◌}
use Prim.Native.Nat.{ℕ}
use native.Mathlib.Omega.{arith}
use Rattle.words.specs.Choice.{if}

-- no test comes out both ways
pub both_ways : (b : Bool) → b ≡ true → b ≡ false → ⊥
both_ways b p q = let z : ◌≡◌ {A = ℕ} 0 1 = cc in omega arith

-- two tests, both of which hold
pub and_yes : (a b : Bool) → (a && b) ≡ true → (a ≡ true) × (b ≡ true)
and_yes true b e = (refl, e)
and_yes false b e = absurd (both_ways false e refl)

pub and_no : (a b : Bool) → b ≡ false → (a && b) ≡ false
and_no true b e = e
and_no false b e = refl

pub and_given : (a b : Bool) → b ≡ true → (a && b) ≡ a
and_given true b e = e
and_given false b e = refl

pub or_yes : (a b : Bool) → b ≡ true → (a || b) ≡ true
or_yes true b e = refl
or_yes false b e = e

pub or_no : (a b : Bool) → (a || b) ≡ false → (a ≡ false) × (b ≡ false)
or_no true b e = absurd (both_ways true refl e)
or_no false b e = (refl, e)

-- a choice that came out as z: the test held and the first is z, or it failed and the second is
pub if_split : {A C : Type 0} (b : Bool) (x y z : A) → if b x y ≡ z → (b ≡ true → x ≡ z → C) → (b ≡ false → y ≡ z → C) → C
if_split true x y z e f g = f refl e
if_split false x y z e f g = g refl e

-- what each value has where the test comes out for it, the chosen one has
pub if_cases : {A : Type 0} (P : A → Type 0) (b : Bool) (x y : A) → (b ≡ true → P x) → (b ≡ false → P y) → P (if b x y)
if_cases P true x y f g = f refl
if_cases P false x y f g = g refl

-- what both values have, the chosen one has
pub if_both : {A : Type 0} (P : A → Type 0) (b : Bool) (x y : A) → P x → P y → P (if b x y)
if_both P b x y p q = if_cases P b x y (λ e. p) (λ e. q)
