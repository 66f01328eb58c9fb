-- `boot_strap::same`: of two straps the answer is whether they are the same.
use Rattle.boot_strap.specs.Strap.{same_answer}
use Rattle.boot_strap.proofs.StrapLaws.{same_told}
use Rattle.boot_strap.proofs.same.Goals as goal

pub returns : goal.returns
unfolding same_answer
returns c = same_told _ _ _ _ _ c.in_ok-decode_as.ensures.value c.in_ok-decode_as-2.ensures.value c.same_strap.ensures
