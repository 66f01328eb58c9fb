-- `region_map::addresses::touching_after`: the records before j have permitted up to the address where those from j on go on.
use Rattle.region_map.specs.Map.{count}
use Rattle.region_map.specs.Search.{touching_after}
use mathlib.Core.Path.{◌≡◌}
use Prim.Native.Nat.{◌-◌}
use Rattle.region_map.proofs.addresses.touching_after.Given as goal

abbrev pub invariant-loop-j : goal.invariant-loop-j
invariant-loop-j l = touching_after l.map (count l.map - l.i) l.i l.address ≡ touching_after l.map (count l.map - l.j) l.j l.until
