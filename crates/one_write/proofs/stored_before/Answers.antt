-- `one_write::stored_before`: of the range, the sections that are left say the same as all the first ones.
use mathlib.Core.Path.{◌≡◌, ◌∙◌, ap}
use native.Mathlib.Omega.{arith}
use lib.ListN.{take}
use Prim.Native.Nat.{ℕ, ◌+◌, ◌-◌, min, max}
use Rattle.boot_table.specs.Table.{Section, Reading, step_at, read_on}
use Rattle.boot_table.proofs.StepLaws.{section_of, section_found, end_found}
use Rattle.boot_table.proofs.ReadLaws.{read_next}
use Rattle.boot_table.proofs.FormLaws.{well_read}
use Rattle.region_map.specs.Map.{once}
use Rattle.one_write.specs.Once.{written}
use Rattle.one_write.specs.Walk.{Meets}
use Rattle.one_write.proofs.WalkLaws.{meets_none, meets_same, left_hit, left_miss, none_written, end_written}
use Rattle.one_write.proofs.stored_before.Goals as goal
use Rattle.one_write.proofs.stored_before.Goals.{In-Some, After-shares_once}

pub loop-init : goal.loop-init
loop-init c =
    let w = well_read c.args.order c.args.table.now c.requires in
    let n : c.args.sections ≡ c.args.sections - 0 = omega arith in
    record {
      whole = w.1;
      rest = λ x l u. ap (λ (r : Reading). written c.args.map.now (take c.args.sections r.sections) x) w.0
          ∙ ap (λ (k : ℕ). written c.args.map.now (take k (read_on c.args.order c.args.table.now 4).sections) x) n;
    }

pub whole_step-requires : goal.whole_step-requires
whole_step-requires c = c.loop.invariant.whole

pub returns-in_default : goal.returns-in_default
returns-in_default c =
    meets_same _ _ _ _ _ c.loop.invariant.rest
    (meets_none _ _ _ (λ x p q. end_written _ _ _ _ (c.args.sections - c.loop.counter) (end_found _ _ _ _ c.whole_step.ensures c.in_default.is) x))

-- a turn that finds a section
step_is : (c : In-Some) → step_at c.args.order c.args.table.now c.loop.offset
    ≡ Section c.in-Some.section.address c.in-Some.section.size c.in-Some.section.start c.in-Some.section.next
step_is c = section_found _ _ _ _ _ c.whole_step.ensures c.in-Some.is

pub span_of-requires : goal.span_of-requires
span_of-requires c = (section_of _ _ _ (step_is (goal.at.span_of-requires c).In-Some)).top

-- the section and the span share an address of kind 3, or none
shared : (c : After-shares_once) → Meets (once c.args.map.now) (max c.in-Some.section.address c.args.span.first) (min (c.in-Some.section.address + c.in-Some.section.size) c.args.span.end) c.shares_once.result
shared c = rw (c.span_of.ensures.0, c.span_of.ensures.1) at c.shares_once.ensures

pub returns-then-shares_once : goal.returns-then-shares_once
returns-then-shares_once c =
    let k = goal.at.returns-then-shares_once c in
    meets_same _ _ _ _ _ c.loop.invariant.rest
    (left_hit _ _ _ (step_is k.In-Some) _ (c.args.sections - c.loop.counter) _ _ (omega arith) c.shares_once.result (shared k.After-shares_once) c.if-shares_once.true)

pub loop-preserved : goal.loop-preserved
loop-preserved c =
    let k = goal.at.loop-preserved c in
    let n : c.args.sections - c.loop.counter - 1 ≡ c.args.sections - (c.loop.counter + 1) = omega arith in
    record {
      whole = read_next _ _ _ (step_is k.In-Some) c.loop.invariant.whole;
      rest = λ x p q. c.loop.invariant.rest x p q
          ∙ left_miss _ _ _ (step_is k.In-Some) _ (c.args.sections - c.loop.counter) _ _ (omega arith) c.shares_once.result (shared k.After-shares_once) c.if-shares_once.false x p q
          ∙ ap (λ (n : ℕ). written c.args.map.now (take n (read_on c.args.order c.args.table.now c.in-Some.section.next).sections) x) n;
    }

pub returns : goal.returns
returns c =
    let e : c.args.sections - c.loop.counter ≡ 0 = omega arith in
    meets_same _ _ _ _ _ c.loop.invariant.rest (meets_none _ _ _ (λ x p q. rw e (none_written c.args.map.now x)))
