-- `boot_config::apply_table`: the entries still to come, on the values so far, come to the whole table.
use Prim.Native.Nat.{ℕ, ◌*◌, ◌-◌, ◌≤◌}
use mathlib.Core.Path.{◌≡◌}
use mathlib.Core.List.{List}
use lib.ListN.{length}
use Rattle.boot_config.specs.Config.{entry_size, applied}
use Rattle.boot_config.proofs.AppliedLaws.{applied_on}
use Rattle.boot_config.proofs.apply_table.Given as goal

-- n entries stand before at, and applying those from there on to the values so far comes to the whole table
pub record SoFar (t xs vs₀ vs : List ℕ) (at n : ℕ) : Type 0 where
  pub place : at ≡ entry_size * n
  pub within : at ≤ length t
  pub lengths : length vs ≡ length xs
  pub whole : applied t xs vs₀ ≡ applied_on t xs n vs

abbrev pub invariant-loop-change : goal.invariant-loop-change
invariant-loop-change l = SoFar l.table l.addresses l.initial.values l.values l.at l.entries

abbrev pub decreases-loop-change : goal.decreases-loop-change
decreases-loop-change l = length l.table - l.at
