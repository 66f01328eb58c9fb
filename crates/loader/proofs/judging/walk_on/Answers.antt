-- `loader::judging::walk_on`: each section that is passed lies in the stretch.
use mathlib.Core.Path.{◌≡◌}
use native.Mathlib.Omega.{arith}
use Rattle.boot_table.specs.Table.{Section, step_at}
use Rattle.boot_table.proofs.StepLaws.{section_of, section_found}
use Rattle.loader.proofs.RuleLaws.{count_on, pass_in}
use Rattle.loader.proofs.judging.walk_on.Goals as goal
use Rattle.loader.proofs.judging.walk_on.Goals.{In-Ok-Some}

pub loop-section-init : goal.loop-section-init
loop-section-init c = record { far = omega arith; counted = c.requires; passed = λ m p. p }

pub returns-in_default : goal.returns-in_default
returns-in_default c = c.loop-section.invariant

-- a turn that finds a section
step_is : (c : In-Ok-Some) → step_at c.args.order c.args.table.now c.loop-section.on.offset
    ≡ Section c.in-Ok-Some.section.address c.in-Ok-Some.section.size c.in-Ok-Some.section.start c.in-Ok-Some.section.next
step_is c = section_found _ _ _ _ _ c.in-Ok-Some.ensures c.in-Ok-Some.field-0-is

pub returns-then-address-stretch : goal.returns-then-address-stretch
returns-then-address-stretch c = c.loop-section.invariant

pub overflow_add-address : goal.overflow_add-address
overflow_add-address c = omega (arith, section_of _ _ _ (step_is (goal.at.overflow_add-address c).In-Ok-Some))

pub overflow_add-on : goal.overflow_add-on
overflow_add-on c = omega (arith, c.loop-section.invariant.counted)

pub overflow_add-on-in-loop-section : goal.overflow_add-on-in-loop-section
overflow_add-on-in-loop-section c =
    omega (arith, c.loop-section.invariant.counted, section_of _ _ _ (step_is (goal.at.overflow_add-on-in-loop-section c).In-Ok-Some))

pub loop-section-smaller : goal.loop-section-smaller
loop-section-smaller c = omega (arith, section_of _ _ _ (step_is (goal.at.loop-section-smaller c).In-Ok-Some))

pub loop-section-preserved : goal.loop-section-preserved
loop-section-preserved c =
    record {
      far = omega (arith, c.loop-section.invariant.far, section_of _ _ _ (step_is (goal.at.loop-section-preserved c).In-Ok-Some));
      counted = count_on _ _ c.loop-section.on (step_is (goal.at.loop-section-preserved c).In-Ok-Some) c.loop-section.invariant.counted;
      passed = λ m p. pass_in _ _ c.loop-section.on (step_is (goal.at.loop-section-preserved c).In-Ok-Some) m _ (omega arith) (omega arith) (c.loop-section.invariant.passed m p);
    }
