-- `boot_config::find`: each turn halves the places where the address can stand, and as many turns as halve 1,023 leave one.
use Prim.Native.Nat.{◌-◌, ◌/◌, ◌^◌}
use mathlib.Core.Path.{◌≡◌}
use lib.ListN.{length}
use Rattle.boot_config.proofs.RegisterLaws.{Between}
use Rattle.boot_config.proofs.find.Given as goal

abbrev pub invariant-loop : goal.invariant-loop
invariant-loop l = (l.more ≡ (length l.addresses - 1) / 2 ^ l.counter) × Between l.addresses l.address l.low l.more
