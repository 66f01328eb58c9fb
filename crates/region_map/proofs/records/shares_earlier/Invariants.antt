-- `region_map::records::shares_earlier`: outside the span no record shares an address; else the records from j on share none with record i.
use Rattle.region_map.specs.Map.{shares_any}
use mathlib.Core.Path.{◌≡◌}
use Rattle.region_map.proofs.records.shares_earlier.Given as goal

abbrev pub invariant-loop-j : goal.invariant-loop-j
invariant-loop-j l = shares_any l.map l.i l.i ≡ shares_any l.map l.i l.j
