-- `loader::judging::lengthen`: each turn takes what is permitted and clear from the stretch's end on.
use mathlib.Core.Path.{refl}
use native.Mathlib.Omega.{arith}
use Rattle.loader.proofs.StretchLaws.{open_join, open_next, open_none}
use Rattle.loader.proofs.judging.lengthen.Goals as goal

pub loop-longer-init : goal.loop-longer-init
loop-longer-init c = record { is = c.requires.1; from = refl; far = omega arith }

pub clear_past-requires : goal.clear_past-requires
clear_past-requires c = (omega (arith, c.requires.0), c.loop-longer.invariant.is.clears)

pub returns-then-next-longer : goal.returns-then-next-longer
returns-then-next-longer c =
    let i = c.loop-longer.invariant in
    record {
      is = record { opens = i.is.opens; clears = c.clear_past.ensures.clear };
      from = i.from;
      far = i.far;
      why = λ l. open_none _ _ _ c.clear_past.ensures (omega (arith, c.min-next.ensures, c.permitted_until.ensures));
    }

pub loop-longer-preserved : goal.loop-longer-preserved
loop-longer-preserved c =
    let i = c.loop-longer.invariant in
    record {
      is = record {
        opens = open_join _ _ _ _ i.is.opens (λ x l u. open_next _ _ _ c.clear_past.ensures x l (omega (arith, c.min-next.ensures, c.permitted_until.ensures)));
        clears = λ x l u. c.clear_past.ensures.clear x (omega arith) u;
      };
      from = i.from;
      far = omega (arith, i.far);
    }

pub returns : goal.returns
returns c =
    let i = c.loop-longer.invariant in
    record { is = i.is; from = i.from; far = i.far; why = λ l. absurd (omega arith) }
