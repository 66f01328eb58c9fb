-- `words::copy`: after i turns the part begins with i bytes of the run.
use Prim.Native.Nat.{ℕ}
use mathlib.Core.Path.{◌≡◌, refl, ap, ◌∙◌}
use mathlib.Core.List.{List, ◌++◌}
use native.Mathlib.Omega.{arith}
use lib.ListN.{length, drop, length-set}
use lib.Seq.{take-length}
use Rattle.words.proofs.RunLaws.{copy_more}
use Rattle.words.proofs.copy.Goals as goal

pub loop-i-init : goal.loop-i-init
loop-i-init c = (refl, refl)

pub loop-i-preserved : goal.loop-i-preserved
loop-i-preserved c =
    (simp length-set c.loop-i.invariant.0, rw c.loop-i.invariant.1 (copy_more c.args.run.now c.args.part.now c.loop-i.i (omega arith) (omega arith)))

pub shape_of-part : goal.shape_of-part
shape_of-part c = c.loop-i.invariant.0

pub returns : goal.returns
returns c =
    let e : c.loop-i.i ≡ length c.args.run.now = omega arith in
    c.loop-i.invariant.1 ∙ rw e (ap (λ (x : List ℕ). x ++ drop (length c.args.run.now) c.args.part.now) (take-length c.args.run.now))
