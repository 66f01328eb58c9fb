-- `loader::storing::store_sections`: the sections before the offset are stored, and storing those from it on comes to storing all.
use Prim.Native.Nat.{ℕ}
use mathlib.Core.Path.{◌≡◌, refl, sym, ◌∙◌, ap}
use mathlib.Core.List.{List}
use native.Mathlib.Omega.{arith}
use Rattle.boot_table.specs.Table.{Section, Reading, step_at, read_on}
use Rattle.boot_table.proofs.StepLaws.{section_of, section_found, end_found}
use Rattle.region_map.specs.Map.{closed_from}
use Rattle.boot_table.proofs.ReadLaws.{read_next}
use Rattle.boot_table.proofs.FormLaws.{well_read}
use Rattle.loader.specs.Store.{store_bytes, store_all}
use Rattle.loader.proofs.RuleLaws.{opens_next}
use Rattle.loader.proofs.StoreLaws.{lent_body, lent_length, walk_store, walk_stored}
use Rattle.loader.proofs.AnswerLaws.{table_only}
use Rattle.loader.proofs.storing.store_sections.Goals as goal
use Rattle.loader.proofs.storing.store_sections.Goals.{In-Some}

pub loop-section-init : goal.loop-section-init
loop-section-init c =
    let q = table_only _ c.args.map.now c.args.table.now c.requires.accepted in
    let w = well_read _ c.args.table.now q.0 in
    record {
      whole = w.1;
      opens = rw w.0 at q.1;
      same = refl;
      rest = ap (λ (r : Reading). store_all c.args.map.now c.args.memory.now r.sections) w.0;
      places = record { row = λ x l u. absurd (omega arith); inside = omega arith };
    }

pub whole_step-requires : goal.whole_step-requires
whole_step-requires c = c.loop-section.invariant.whole

pub shape_of-memory-in_default : goal.shape_of-memory-in_default
shape_of-memory-in_default c = c.loop-section.invariant.same

pub returns-in_default : goal.returns-in_default
returns-in_default c =
    sym (c.loop-section.invariant.rest ∙ walk_stored _ _ _ _ _ (end_found _ _ _ _ c.whole_step.ensures c.in_default.is))

-- a turn that finds a section
step_is : (c : In-Some) → step_at c.args.order c.args.table.now c.loop-section.at
    ≡ Section c.in-Some.section.address c.in-Some.section.size c.in-Some.section.start c.in-Some.section.next
step_is c = section_found _ _ _ _ _ c.whole_step.ensures c.in-Some.is

pub overflow_add-end : goal.overflow_add-end
overflow_add-end c = omega (arith, section_of _ _ _ (step_is (goal.at.overflow_add-end c).In-Some))

pub slice_bounds-store_section-count : goal.slice_bounds-store_section-count
slice_bounds-store_section-count c = omega (arith, section_of _ _ _ (step_is (goal.at.slice_bounds-store_section-count c).In-Some))

pub slice_bounds-store_section-start : goal.slice_bounds-store_section-start
slice_bounds-store_section-start c = omega (arith, section_of _ _ _ (step_is (goal.at.slice_bounds-store_section-start c).In-Some))

pub slice_bounds-store_section-end : goal.slice_bounds-store_section-end
slice_bounds-store_section-end c = omega (arith, section_of _ _ _ (step_is (goal.at.slice_bounds-store_section-end c).In-Some))

pub store_section-region-requires : goal.store_section-region-requires
store_section-region-requires c =
    let n = lent_length _ _ _ (section_of _ _ _ (step_is (goal.at.store_section-region-requires c).In-Some)) in record {
      sound_map = (c.requires.sound_map.0, c.loop-section.invariant.same ∙ c.requires.sound_map.1, c.loop-section.invariant.places);
      open_to_end = (
        omega (arith, n, (section_of _ _ _ (step_is (goal.at.store_section-region-requires c).In-Some)).top),
        ap (λ (x : ℕ). closed_from c.args.map.now x c.in-Some.section.address) n ∙ (opens_next _ _ _ _ (step_is (goal.at.store_section-region-requires c).In-Some) c.loop-section.invariant.opens).0,
      );
    }

pub loop-section-smaller : goal.loop-section-smaller
loop-section-smaller c = omega (arith, section_of _ _ _ (step_is (goal.at.loop-section-smaller c).In-Some))

pub loop-section-preserved : goal.loop-section-preserved
loop-section-preserved c =
    let e = step_is (goal.at.loop-section-preserved c).In-Some in
    record {
      whole = read_next _ _ _ e c.loop-section.invariant.whole;
      opens = (opens_next _ _ _ _ e c.loop-section.invariant.opens).1;
      same = c.store_section-region.auto.memory ∙ c.loop-section.invariant.same;
      rest = c.loop-section.invariant.rest ∙ walk_store _ _ _ _ _ e
          ∙ ap (λ (x : List ℕ). store_all c.args.map.now x (read_on c.args.order c.args.table.now c.in-Some.section.next).sections)
          (sym (c.store_section-region.ensures.memory_after ∙ ap (store_bytes c.args.map.now c.loop-section.memory c.in-Some.section.address) (lent_body c.args.table.now c.in-Some.section.start c.in-Some.section.size)));
      places = c.store_section-region.ensures.places;
    }
