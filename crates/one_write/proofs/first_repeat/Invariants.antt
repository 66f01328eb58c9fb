-- `one_write::first_repeat`: the sections before the offset store no address of kind 3 again, and those from it on decide.
use Prim.Native.Nat.{◌-◌}
use lib.ListN.{length}
use Rattle.one_write.proofs.WalkLaws.{Behind}
use Rattle.one_write.proofs.first_repeat.Given as goal

abbrev pub invariant-loop-section : goal.invariant-loop-section
invariant-loop-section l = Behind l.order l.map l.table l.offset l.earlier

abbrev pub decreases-loop-section : goal.decreases-loop-section
decreases-loop-section l = length l.table - l.offset
