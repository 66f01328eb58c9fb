-- `region_map::addresses::lowest_from`: after i turns the bound is that of the first i records.
use Rattle.region_map.specs.Map.{is_kind}
use Rattle.region_map.specs.Search.{kind_number, lowest_from}
use mathlib.Core.Path.{◌≡◌}
use Rattle.region_map.proofs.addresses.lowest_from.Given as goal

abbrev pub invariant-loop-i : goal.invariant-loop-i
invariant-loop-i l = l.bound ≡ lowest_from (is_kind l.map (kind_number l.kind)) l.map l.i l.address
