use native.Mathlib.Omega.{arith}
use Rattle.words.specs.Word.{pad_count}
use Rattle.words.proofs.padded.Goals as goal

pub returns : goal.returns
unfolding pad_count
returns c = omega arith
