-- `region_map::records::first_fault`: the first i records are sound, so that the first fault is that of the others.
use Prim.Native.Nat.{◌-◌}
use Rattle.region_map.specs.Map.{count, map_fault, fault_from}
use Rattle.region_map.specs.Search.{Within}
use mathlib.Core.Path.{◌≡◌}
use Rattle.region_map.proofs.records.first_fault.Given as goal

abbrev pub invariant-loop-i : goal.invariant-loop-i
invariant-loop-i l = (map_fault l.map ≡ fault_from l.map (count l.map - l.i) l.i) × Within l.map l.i l.span.low l.span.high
