-- `boot_config::find`: each turn halves the places where the address can stand, and as many turns as halve 1,023 leave one.
use Prim.Native.Nat.{ℕ, ◌/◌}
use mathlib.Core.Path.{◌≡◌, sym, ap, ◌∙◌}
use native.Mathlib.Omega.{arith}
use borrow.Author.Tests.{eqb-true}
use lib.Pow.{shr-shr}
use Rattle.boot_config.specs.declared.TheConstants.{SEARCH_TURNS}
use Rattle.boot_config.proofs.RegisterLaws.{index_le, found, halved, not_found}
use Rattle.boot_config.proofs.find.Goals as goal

pub returns-then-is_empty : goal.returns-then-is_empty
returns-then-is_empty c =
    let none = eqb-true _ _ (sym c.is_empty.ensures ∙ c.if-is_empty.true) in
    omega (arith, none, index_le c.args.addresses.now c.args.address)

pub loop-preserved : goal.loop-preserved
loop-preserved c = (
  ap (λ (m : ℕ). m / 2) c.loop.invariant.0 ∙ shr-shr _ c.loop.counter 1,
  halved _ c.requires.rise _ _ _ _ c.loop.invariant.1 c.reaches.ensures.0 c.reaches.ensures.1,
)

pub returns-then-addresses-low : goal.returns-then-addresses-low
returns-then-addresses-low c =
    let inside = c.loop.invariant.1.inside in
    (omega arith, found _ c.requires.rise _ _ (omega arith) c.if-addresses-low.true)

pub returns-else-addresses-low : goal.returns-else-addresses-low
returns-else-addresses-low c =
    let turns : c.loop.counter ≡ SEARCH_TURNS = omega arith in
    let none : c.loop.more ≡ 0 = omega (arith, rw turns at c.loop.invariant.0) in
    not_found _ _ c.loop.low (rw none at c.loop.invariant.1) c.if-addresses-low.false
