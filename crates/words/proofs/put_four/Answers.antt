-- `words::put_four`: the part that was lent is back.
use native.Mathlib.Omega.{arith}
use Rattle.words.proofs.RunLaws.{lent_back}
use Rattle.words.proofs.put_four.Goals as goal

pub returns : goal.returns
returns c = lent_back c.args.output.now c.args.four c.copy.new.part c.args.at (omega arith) c.copy.ensures
