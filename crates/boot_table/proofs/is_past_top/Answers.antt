-- `boot_table::is_past_top`: what is left of 2^32 past the size is below the address exactly when their sum is over 2^32.
use Prim.Native.Nat.{ℕ, ◌+◌, ◌-◌, ◌^◌, ◌<◌}
use mathlib.Core.Path.{◌≡◌, sym, ◌∙◌}
use mathlib.Core.Logic.{by_cases}
use native.Mathlib.Omega.{arith}
use native.Mathlib.Decide.{dec_le}
use borrow.Author.Tests.{lt-ltb, le-ltb}
use lib.Dec.{ltb}
use Rattle.boot_table.proofs.is_past_top.Goals as goal

past_top : (address size : ℕ) → size < 2 ^ 32 → ltb (2 ^ 32 - size) address ≡ ltb (2 ^ 32) (address + size)
past_top address size h =
    by_cases (dec_le (address + size) (2 ^ 32))
    (λ k. le-ltb (2 ^ 32 - size) address (omega arith) ∙ sym (le-ltb (2 ^ 32) (address + size) k))
    (λ k. lt-ltb (2 ^ 32 - size) address (omega arith) ∙ sym (lt-ltb (2 ^ 32) (address + size) (omega arith)))

pub returns : goal.returns
returns c = past_top _ _ (omega arith)
