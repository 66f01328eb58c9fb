-- `loader::judging::stretch_to`: the known stretch goes on, or one begins at the address, where only the lowest reserved address is known.
use native.Mathlib.Omega.{arith}
use Rattle.loader.proofs.judging.stretch_to.Goals as goal

pub lengthen-requires-2 : goal.lengthen-requires-2
lengthen-requires-2 c =
    (c.requires.0, record { opens = λ x l u. absurd (omega arith); clears = λ x l u. c.requires.2 x (omega arith) u })
