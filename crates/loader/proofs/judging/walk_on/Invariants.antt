-- `loader::judging::walk_on`: each section that is passed lies in the stretch.
use Prim.Native.Nat.{◌-◌}
use lib.ListN.{length}
use Rattle.loader.specs.Judging.{WalkedOn}
use Rattle.loader.proofs.judging.walk_on.Given as goal

abbrev pub invariant-loop-section : goal.invariant-loop-section
invariant-loop-section l = WalkedOn l.order l.table l.initial.on l.stretch l.on

abbrev pub decreases-loop-section : goal.decreases-loop-section
decreases-loop-section l = length l.table - l.on.offset
