-- `loader::load`: each answer and the memory are the definitions', by what judging the map and the table answered.
use mathlib.Core.Path.{◌≡◌, refl, sym, ◌∙◌, ap}
use native.Mathlib.Omega.{arith}
use lib.ListN.{length}
use Rattle.std.specs.Prelude.{Ok, Err}
use Rattle.std.proofs.lemmas.Result.{err_from_is_err_and}
use Rattle.words.proofs.RefusalLaws.{number_some, no_address}
use Rattle.region_map.specs.Map.{MapAnswer}
use Rattle.region_map.proofs.FaultLaws.{answer_sound, map_few}
use Rattle.loader.specs.Load.{Answer, answer_of, table_answer, load_answer}
use Rattle.loader.proofs.RuleLaws.{same_number}
use Rattle.loader.proofs.AnswerLaws.{answer_bytes, load_refused, load_sized, load_judged, memory_kept, memory_stored, once_refused, once_formed, once_judged, told, once_told}
use Rattle.loader.proofs.load.Goals as goal
use Rattle.loader.proofs.load.Goals.{After-judge_open, In_ok-judge_once}

pub returns-in_err-size : goal.returns-in_err-size
returns-in_err-size c =
    let r = c.in_err-size.field-0.0 in
    let p = err_from_is_err_and c.from_residual.result c.from_residual.ensures.1 in
    let z = no_address r (λ n. omega (arith, map_few c.args.map.now, ap (λ (j : MapAnswer). j.number) c.in_err-size.ensures, n)) in
    let e = load_refused _ _ _ _ _ c.in_err-size.ensures (number_some r) in
    record {
      value = rw (p.1, p.2, z) e;
      memory_after = memory_kept _ _ _ _ _ e (number_some r);
    }

pub returns-then-memory-size : goal.returns-then-memory-size
returns-then-memory-size c =
    let b = answer_bytes c.args.map.now _ c.in_ok-size.ensures refl in
    let e = load_sized _ c.args.map.now c.args.table.now (length c.args.memory.now) _ c.in_ok-size.ensures refl (λ r. omega (arith, b, c.if-memory-size.true)) in
    record {
      value = e;
      memory_after = memory_kept _ _ _ _ _ e (λ r. omega arith);
    }

-- under a sound map, with memory of its size, the answer is the table's
judged : (c : After-judge_open) → (r : Answer) → r ≡ table_answer c.args.order c.args.map.now c.args.table.now
    → r ≡ load_answer c.args.order c.args.map.now c.args.table.now (length c.args.memory.now)
judged c r e = e ∙ load_judged _ _ _ _ _ c.in_ok-size.ensures refl (omega (arith, c.if-memory-size.false, answer_bytes _ _ c.in_ok-size.ensures refl))

pub returns-in_err-summary : goal.returns-in_err-summary
returns-in_err-summary c =
    let r = c.in_err-summary.field-0.0 in
    let p = err_from_is_err_and c.from_residual-in_err-summary.result c.from_residual-in_err-summary.ensures.1 in
    let e = judged (goal.at.returns-in_err-summary c).After-judge_open (answer_of (Err r)) (once_refused _ _ _ _ c.in_err-summary.ensures (number_some r)) in
    record {
      value = rw (p.1, p.2) e;
      memory_after = memory_kept _ _ _ _ _ e (number_some r);
    }

pub judge_once-requires : goal.judge_once-requires
judge_once-requires c = once_formed _ _ _ _ c.in_ok-summary.ensures refl

pub returns-in_err-judge_once : goal.returns-in_err-judge_once
returns-in_err-judge_once c =
    let r = c.in_err-judge_once.field-0.0 in
    let fine = answer_of (Ok c.in_ok-summary.summary) in
    let p = err_from_is_err_and c.from_residual-in_err-judge_once.result c.from_residual-in_err-judge_once.ensures.1 in
    let e = judged (goal.at.returns-in_err-judge_once c).After-judge_open (answer_of (Err r))
    (ap (told fine) c.in_err-judge_once.ensures ∙ once_told fine _ ∙ once_judged _ _ _ _ c.in_ok-summary.ensures refl) in
    record {
      value = rw (p.1, p.2) e;
      memory_after = memory_kept _ _ _ _ _ e (number_some r);
    }

-- where no address is stored twice the table is accepted
fine_table : (c : In_ok-judge_once) → answer_of (Ok c.in_ok-summary.summary) ≡ table_answer c.args.order c.args.map.now c.args.table.now
fine_table c =
    let fine = answer_of (Ok c.in_ok-summary.summary) in
    ap (told fine) c.in_ok-judge_once.ensures ∙ once_told fine _ ∙ once_judged _ _ _ _ c.in_ok-summary.ensures refl

pub store_sections-requires : goal.store_sections-requires
store_sections-requires c =
    record {
      sound_map = (
        answer_sound _ (ap (λ (r : MapAnswer). r.number) (sym c.in_ok-size.ensures)),
        c.if-memory-size.false ∙ answer_bytes _ _ c.in_ok-size.ensures refl,
      );
      accepted = same_number (sym (fine_table (goal.at.store_sections-requires c).In_ok-judge_once));
    }

pub returns : goal.returns
returns c =
    let k = goal.at.returns c in
    let e = judged k.After-judge_open (answer_of (Ok c.in_ok-summary.summary)) (fine_table k.In_ok-judge_once) in
    record {
      value = e;
      memory_after = c.store_sections.ensures ∙ memory_stored _ _ _ _ _ e refl;
    }
