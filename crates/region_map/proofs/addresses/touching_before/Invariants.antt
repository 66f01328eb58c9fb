-- `region_map::addresses::touching_before`: the records from j on have permitted up to the address where those before j go on.
use Rattle.region_map.specs.Search.{touching_before}
use mathlib.Core.Path.{◌≡◌}
use Rattle.region_map.proofs.addresses.touching_before.Given as goal

abbrev pub invariant-loop-j : goal.invariant-loop-j
invariant-loop-j l = touching_before l.map l.i l.address ≡ touching_before l.map l.j l.until
