-- `one_write::first_repeat`: the sections before the offset store no address of kind 3 again, and those from it on decide.
use Prim.Native.Nat.{◌+◌}
use mathlib.Core.Path.{◌≡◌, sym}
use mathlib.Core.Bool.{Bool}
use native.Mathlib.Omega.{arith}
use lib.ListN.{take}
use Rattle.boot_table.specs.Table.{Section, step_at, reading}
use Rattle.boot_table.proofs.StepLaws.{section_of, section_found, end_found}
use Rattle.one_write.specs.Once.{written}
use Rattle.one_write.specs.Walk.{Meets}
use Rattle.one_write.proofs.WalkLaws.{meets_is, behind_none, behind_here, behind_end, behind_more}
use Rattle.one_write.proofs.first_repeat.Goals as goal
use Rattle.one_write.proofs.first_repeat.Goals.{In-Some, After-repeats}

pub loop-section-init : goal.loop-section-init
loop-section-init c = behind_none _ _ _ _ _ c.requires

pub whole_step-requires : goal.whole_step-requires
whole_step-requires c = c.loop-section.invariant.whole

pub returns-in_default : goal.returns-in_default
returns-in_default c =
    sym (behind_end _ _ _ _ _ (end_found _ _ _ _ c.whole_step.ensures c.in_default.is) c.loop-section.invariant)

-- a turn that finds a section
step_is : (c : In-Some) → step_at c.args.order c.args.table.now c.loop-section.offset
    ≡ Section c.in-Some.section.address c.in-Some.section.size c.in-Some.section.start c.in-Some.section.next
step_is c = section_found _ _ _ _ _ c.whole_step.ensures c.in-Some.is

pub span_of-span-requires : goal.span_of-span-requires
span_of-span-requires c = (section_of _ _ _ (step_is (goal.at.span_of-span-requires c).In-Some)).top

pub repeats-requires : goal.repeats-requires
repeats-requires c =
    record {
      well_formed = c.requires;
      between = c.loop-section.invariant.between;
    }

-- what the section was found to repeat
repeated : (c : After-repeats) {b : Bool} → c.repeats.result ≡ b
    → Meets (written c.args.map.now (take c.loop-section.earlier.sections (reading c.args.order c.args.table.now).sections)) c.in-Some.section.address (c.in-Some.section.address + c.in-Some.section.size) b
repeated c e = meets_is _ _ _ c.repeats.result (rw (c.span_of-span.ensures.0, c.span_of-span.ensures.1) at c.repeats.ensures) e

pub returns-then-repeats : goal.returns-then-repeats
returns-then-repeats c =
    let k = goal.at.returns-then-repeats c in
    sym (behind_here _ _ _ _ _ (step_is k.In-Some) c.loop-section.invariant (repeated k.After-repeats c.if-repeats.true))

pub earlier_with-earlier-requires : goal.earlier_with-earlier-requires
earlier_with-earlier-requires c =
    let b = c.loop-section.invariant in
    omega (arith, b.few, b.within, c.requires.short)

pub loop-section-smaller : goal.loop-section-smaller
loop-section-smaller c = omega (arith, section_of _ _ _ (step_is (goal.at.loop-section-smaller c).In-Some))

pub loop-section-preserved : goal.loop-section-preserved
loop-section-preserved c =
    let k = goal.at.loop-section-preserved c in
    behind_more _ _ _ _ _ _ (step_is k.In-Some) c.loop-section.invariant (repeated k.After-repeats c.if-repeats.false)
    (rw (c.span_of-span.ensures.0, c.span_of-span.ensures.1) at c.earlier_with-earlier.ensures)
