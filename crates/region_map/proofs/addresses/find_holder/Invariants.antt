-- `region_map::addresses::find_holder`: the records from i on do not permit the address, so that the holder is one before them.
use Rattle.region_map.specs.Map.{count, holder}
use mathlib.Core.Path.{◌≡◌}
use Rattle.region_map.proofs.addresses.find_holder.Given as goal

abbrev pub invariant-loop-i : goal.invariant-loop-i
invariant-loop-i l = holder l.map (count l.map) l.address ≡ holder l.map l.i l.address
