-- `boot_table::form_of`: what was passed and what reading on finds come to the form of the table.
use mathlib.Core.Path.{◌≡◌, sym, ◌∙◌}
use native.Mathlib.Omega.{arith}
use Rattle.std.proofs.lemmas.Result.{err_from_is_err_and}
use Rattle.boot_table.specs.Table.{Section, step_at}
use Rattle.boot_table.proofs.StepLaws.{section_of, section_found, end_found}
use Rattle.boot_table.proofs.FormLaws.{form_long, form_cut, form_start, form_section, form_end, form_fault}
use Rattle.boot_table.proofs.form_of.Goals as goal
use Rattle.boot_table.proofs.form_of.Goals.{In-Some}

pub returns-then-table-gt-TABLE_LIMIT : goal.returns-then-table-gt-TABLE_LIMIT
returns-then-table-gt-TABLE_LIMIT c = sym (form_long _ _ (omega arith))

pub returns-then-table-lt4 : goal.returns-then-table-lt4
returns-then-table-lt4 c = sym (form_cut _ _ (omega arith) (omega arith))

pub loop-section-init : goal.loop-section-init
loop-section-init c =
    record {
      within = omega arith;
      few = omega arith;
      small = omega arith;
      form = form_start _ _ (omega arith) (omega arith);
    }

pub returns-in_default : goal.returns-in_default
returns-in_default c =
    sym (c.loop-section.invariant.form ∙ form_end _ _ _ _ _ (end_found _ _ _ _ c.in_ok-section.ensures c.in_default.is))

pub returns-in_err-section : goal.returns-in_err-section
returns-in_err-section c =
    let p = err_from_is_err_and c.from_residual.result c.from_residual.ensures.1 in
    rw (p.1, p.2) (sym (c.loop-section.invariant.form ∙ form_fault _ _ _ _ _ (sym c.in_err-section.ensures)))

-- a turn that finds a section
step_is : (c : In-Some) → step_at c.args.order c.args.table.now c.loop-section.at
    ≡ Section c.in-Some.section.address c.in-Some.section.size c.in-Some.section.start c.in-Some.section.next
step_is c = section_found _ _ _ _ _ c.in_ok-section.ensures c.in-Some.is

pub overflow_add-bytes : goal.overflow_add-bytes
overflow_add-bytes c = omega (arith, section_of _ _ _ (step_is (goal.at.overflow_add-bytes c).In-Some))

pub loop-section-smaller : goal.loop-section-smaller
loop-section-smaller c = omega (arith, section_of _ _ _ (step_is (goal.at.loop-section-smaller c).In-Some))

pub loop-section-preserved : goal.loop-section-preserved
loop-section-preserved c =
    let i = section_of _ _ _ (step_is (goal.at.loop-section-preserved c).In-Some) in
    record {
      within = i.within;
      few = omega arith;
      small = omega arith;
      form = c.loop-section.invariant.form ∙ form_section _ _ _ _ _ (step_is (goal.at.loop-section-preserved c).In-Some);
    }
