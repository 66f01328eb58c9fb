-- `region_map::places::size_before`: after i turns the sum is that of the first i records.
use Rattle.region_map.specs.Map.{size_before}
use mathlib.Core.Path.{◌≡◌}
use Prim.Native.Nat.{◌≤◌, ◌*◌, ◌^◌}
use Rattle.region_map.proofs.places.size_before.Given as goal

abbrev pub invariant-loop-i : goal.invariant-loop-i
invariant-loop-i l = (l.sum ≤ l.i * 2 ^ 32) × (l.sum ≡ size_before l.map l.i)
