-- `loader::judging::judge_open`: what the walk has passed is open, and what is read on decides the form, and then the map rule.
use Prim.Native.Nat.{◌-◌}
use lib.ListN.{length}
use Rattle.loader.specs.Judging.{Counted, Passed}
use Rattle.loader.proofs.judging.judge_open.Given as goal

abbrev pub invariant-loop-section : goal.invariant-loop-section
invariant-loop-section l = Counted l.table l.walk × Passed l.order l.map l.table l.walk l.known

abbrev pub decreases-loop-section : goal.decreases-loop-section
decreases-loop-section l = length l.table - l.walk.offset
