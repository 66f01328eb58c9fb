-- `loader::judging::judge_open`: what the walk has passed is open, and what is read on decides the form, and then the map rule.
use mathlib.Core.Path.{◌≡◌, refl, sym, ap, ◌∙◌}
use native.Mathlib.Omega.{arith}
use Rattle.std.proofs.lemmas.Result.{err_from_is_err_and}
use Rattle.words.specs.Refusal.{table_long_number, table_cut_number}
use Rattle.words.proofs.RefusalLaws.{number_some, no_address}
use Rattle.boot_table.specs.Table.{Section, End, step_at}
use Rattle.boot_table.specs.Form.{Form, misformed, formed, form_of}
use Rattle.boot_table.proofs.StepLaws.{section_of, section_found, end_found, fault_of, fault_number}
use Rattle.boot_table.proofs.FormLaws.{form_long, form_cut, form_start, form_end, form_fault, form_placed}
use Rattle.region_map.proofs.OpenLaws.{lowest_each}
use Rattle.loader.specs.Judging.{Passed}
use Rattle.loader.proofs.RuleLaws.{rule_start, walk_closed, walk_end, count_on, pass_on}
use Rattle.loader.proofs.StretchLaws.{to_closed, to_open}
use Rattle.loader.proofs.AnswerLaws.{open_refused, open_judged}
use Rattle.loader.proofs.judging.judge_open.Goals as goal
use Rattle.loader.proofs.judging.judge_open.Goals.{After-walk_on-walk, In-Some, In_default}

pub returns-then-table-gt-TABLE_LIMIT : goal.returns-then-table-gt-TABLE_LIMIT
returns-then-table-gt-TABLE_LIMIT c = open_refused _ _ _ (misformed table_long_number 0) (sym (form_long _ _ (omega arith))) (λ z. omega arith)

pub returns-then-table-lt4 : goal.returns-then-table-lt4
returns-then-table-lt4 c = open_refused _ _ _ (misformed table_cut_number 0) (sym (form_cut _ _ (omega arith) (omega arith))) (λ z. omega arith)

pub loop-section-init : goal.loop-section-init
loop-section-init c = (
  record { within = omega arith; few = omega arith; small = omega arith },
  record {
    form = form_start _ _ (omega arith) (omega arith);
    rule = rule_start _ _ _ _ (omega arith);
    is = record { opens = λ x l u. absurd (omega arith); clears = λ x l u. absurd (omega arith) };
  },
)

pub walk_on-walk-requires : goal.walk_on-walk-requires
walk_on-walk-requires c = c.loop-section.invariant.0

-- what the walk has passed after it went on
so_far : (c : After-walk_on-walk) → Passed c.args.order c.args.map.now c.args.table.now c.walk_on-walk.result c.loop-section.known
so_far c = c.walk_on-walk.ensures.passed _ c.loop-section.invariant.1

-- a turn that finds the end
end_is : (c : In_default) → step_at c.args.order c.args.table.now c.walk_on-walk.result.offset ≡ End
end_is c = end_found _ _ _ _ c.in_ok-section.ensures c.in_default.is

formed-is : (c : In_default) → let w = c.walk_on-walk.result in form_of c.args.order c.args.table.now ≡ formed w.sections w.bytes
formed-is c = (c.walk_on-walk.ensures.passed _ c.loop-section.invariant.1).form ∙ form_end _ _ _ _ _ (end_is c)

pub accepted-requires : goal.accepted-requires
accepted-requires c = formed-is (goal.at.accepted-requires c).In_default

pub returns-in_default : goal.returns-in_default
returns-in_default c =
    let k = goal.at.returns-in_default c in
    c.accepted.ensures ∙ sym ((so_far k.After-walk_on-walk).rule ∙ walk_end _ _ _ _ _ (end_is k.In_default)) ∙ open_judged _ _ _ (formed _ _) (sym (formed-is k.In_default)) refl

pub returns-in_err-section : goal.returns-in_err-section
returns-in_err-section c =
    let r = c.in_err-section.field-0.0 in
    let p = err_from_is_err_and c.from_residual.result c.from_residual.ensures.1 in
    let e = sym c.in_err-section.ensures in
    let z = no_address r (λ n. omega (arith, (fault_of _ _ _ e).most, n)) in
    rw (p.1, p.2, z) (open_refused _ _ _ (misformed _ _) (sym ((so_far (goal.at.returns-in_err-section c).After-walk_on-walk).form ∙ form_fault _ _ _ _ _ e)) (fault_number _ _ _ e))

-- a turn that finds a section
step_is : (c : In-Some) → step_at c.args.order c.args.table.now c.walk_on-walk.result.offset
    ≡ Section c.in-Some.section.address c.in-Some.section.size c.in-Some.section.start c.in-Some.section.next
step_is c = section_found _ _ _ _ _ c.in_ok-section.ensures c.in-Some.is

pub overflow_add-end : goal.overflow_add-end
overflow_add-end c = omega (arith, section_of _ _ _ (step_is (goal.at.overflow_add-end c).In-Some))

pub stretch_to-known-requires : goal.stretch_to-known-requires
stretch_to-known-requires c =
    ((section_of _ _ _ (step_is (goal.at.stretch_to-known-requires c).In-Some)).top, c.loop-section.invariant.1.is, λ x v u. lowest_each _ _ _ _ x v (rw c.reserved_from-reserved.ensures at u))

pub overflow_cast-result : goal.overflow_cast-result
overflow_cast-result c = omega (arith, section_of _ _ _ (step_is (goal.at.overflow_cast-result c).In-Some))

pub returns-then-known-end : goal.returns-then-known-end
returns-then-known-end c =
    let k = goal.at.returns-then-known-end c in
    sym ((so_far k.After-walk_on-walk).rule ∙ walk_closed _ _ _ _ _ (step_is k.In-Some) _ (to_closed _ _ _ _ c.stretch_to-known.ensures c.if-known-end.true))
    ∙ open_judged _ _ _ (formed _ _) c.in_ok-form_of.ensures refl

pub returns-in_err-form_of : goal.returns-in_err-form_of
returns-in_err-form_of c =
    let r = c.in_err-form_of.field-0.0 in
    let p = err_from_is_err_and c.from_residual-in_err-form_of.result c.from_residual-in_err-form_of.ensures.1 in
    let z = no_address r (λ n. omega (arith, form_placed c.args.order c.args.table.now, ap (λ (f : Form). f.number) c.in_err-form_of.ensures, n)) in
    rw (p.1, p.2, z) (open_refused _ _ _ (misformed _ _) c.in_err-form_of.ensures (number_some r))

pub overflow_add-walk : goal.overflow_add-walk
overflow_add-walk c = omega (arith, c.walk_on-walk.ensures.counted)

pub overflow_add-walk-in-loop-section : goal.overflow_add-walk-in-loop-section
overflow_add-walk-in-loop-section c =
    omega (arith, c.walk_on-walk.ensures.counted, section_of _ _ _ (step_is (goal.at.overflow_add-walk-in-loop-section c).In-Some))

pub loop-section-smaller : goal.loop-section-smaller
loop-section-smaller c =
    omega (arith, c.walk_on-walk.ensures.far, section_of _ _ _ (step_is (goal.at.loop-section-smaller c).In-Some))

pub loop-section-preserved : goal.loop-section-preserved
loop-section-preserved c = (
  count_on _ _ c.walk_on-walk.result (step_is (goal.at.loop-section-preserved c).In-Some) c.walk_on-walk.ensures.counted,
  pass_on _ _ c.walk_on-walk.result (step_is (goal.at.loop-section-preserved c).In-Some) _ _ _ (so_far (goal.at.loop-section-preserved c).After-walk_on-walk) (to_open _ _ _ _ c.stretch_to-known.ensures (omega arith)) c.stretch_to-known.ensures.is,
)
