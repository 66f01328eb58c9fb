-- `loader::judge`: each answer is the definition's, by what judging the map and the table answered.
use mathlib.Core.Path.{refl, ◌∙◌, ap}
use native.Mathlib.Omega.{arith}
use Rattle.std.specs.Prelude.{Ok, Err}
use Rattle.std.proofs.lemmas.Result.{err_from_is_err_and}
use Rattle.words.proofs.RefusalLaws.{number_some, no_address}
use Rattle.region_map.specs.Map.{MapAnswer}
use Rattle.region_map.proofs.FaultLaws.{map_few}
use Rattle.loader.specs.Load.{answer_of}
use Rattle.loader.proofs.AnswerLaws.{map_refused, map_judged, once_refused, once_formed, once_judged, told, once_told}
use Rattle.loader.proofs.judge.Goals as goal

pub returns-in_err-judge_map : goal.returns-in_err-judge_map
returns-in_err-judge_map c =
    let r = c.in_err-judge_map.field-0.0 in
    let p = err_from_is_err_and c.from_residual.result c.from_residual.ensures.1 in
    let z = no_address r (λ n. omega (arith, map_few c.args.map.now, ap (λ (j : MapAnswer). j.number) c.in_err-judge_map.ensures, n)) in
    rw (p.1, p.2, z) (map_refused _ _ _ _ c.in_err-judge_map.ensures (number_some r))

pub returns-in_err-summary : goal.returns-in_err-summary
returns-in_err-summary c =
    let r = c.in_err-summary.field-0.0 in
    let p = err_from_is_err_and c.from_residual-in_err-summary.result c.from_residual-in_err-summary.ensures.1 in
    rw (p.1, p.2) (once_refused _ _ _ (answer_of (Err r)) c.in_err-summary.ensures (number_some r) ∙ map_judged _ _ _ _ c.in_ok-judge_map.ensures refl)

pub judge_once-requires : goal.judge_once-requires
judge_once-requires c = once_formed _ _ _ _ c.in_ok-summary.ensures refl

pub returns-in_err-judge_once : goal.returns-in_err-judge_once
returns-in_err-judge_once c =
    let fine = answer_of (Ok c.in_ok-summary.summary) in
    let p = err_from_is_err_and c.from_residual-in_err-judge_once.result c.from_residual-in_err-judge_once.ensures.1 in
    rw (p.1, p.2)
    (ap (told fine) c.in_err-judge_once.ensures ∙ once_told fine _
    ∙ once_judged _ _ _ _ c.in_ok-summary.ensures refl
    ∙ map_judged _ _ _ _ c.in_ok-judge_map.ensures refl)

pub returns : goal.returns
returns c =
    let fine = answer_of (Ok c.in_ok-summary.summary) in
    ap (told fine) c.in_ok-judge_once.ensures ∙ once_told fine _
    ∙ once_judged _ _ _ _ c.in_ok-summary.ensures refl
    ∙ map_judged _ _ _ _ c.in_ok-judge_map.ensures refl
