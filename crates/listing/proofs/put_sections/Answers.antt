-- `listing::put_sections`: the lines before the offset are written, and writing those from it on comes to writing all.
use Prim.Native.Nat.{ℕ, ◌+◌}
use mathlib.Core.Path.{◌≡◌, refl, sym, ap, ◌∙◌}
use mathlib.Core.List.{List}
use native.Mathlib.Omega.{arith}
use lib.ListN.{length, length-append}
use Rattle.words.specs.Run.{over}
use Rattle.words.proofs.RunLaws.{over_none, over_over}
use Rattle.boot_table.specs.Table.{Section, Reading, step_at, read_on}
use Rattle.boot_table.proofs.StepLaws.{section_of, section_found, end_found}
use Rattle.boot_table.proofs.ReadLaws.{read_next}
use Rattle.boot_table.proofs.FormLaws.{well_read}
use Rattle.listing.specs.Listing.{section_line, section_lines}
use Rattle.listing.proofs.ListingLaws.{lines_section, lines_end}
use Rattle.listing.proofs.put_sections.Goals as goal
use Rattle.listing.proofs.put_sections.Goals.{In-Some}

pub loop-section-init : goal.loop-section-init
loop-section-init c =
    let w = well_read _ c.args.table.now c.requires.well_formed in
    record {
      whole = w.1;
      same = refl;
      place = ap (λ (r : Reading). c.args.from + length (section_lines r.sections)) w.0;
      rest = ap (λ (r : Reading). over c.args.buffer.now c.args.from (section_lines r.sections)) w.0;
    }

pub whole_step-requires : goal.whole_step-requires
whole_step-requires c = c.loop-section.invariant.whole

pub shape_of-buffer-in_default : goal.shape_of-buffer-in_default
shape_of-buffer-in_default c = c.loop-section.invariant.same

pub returns-in_default : goal.returns-in_default
returns-in_default c =
    let t = c.args.table.now in
    let e = lines_end _ t c.loop-section.at (end_found _ _ _ _ c.whole_step.ensures c.in_default.is) in
    record {
      value = omega (arith, ap length e);
      buffer_after = sym (c.loop-section.invariant.rest ∙ ap (over c.loop-section.buffer c.loop-section.to) e ∙ over_none _ _);
    }

-- a turn that finds a section
step_is : (c : In-Some) → step_at c.args.order c.args.table.now c.loop-section.at
    ≡ Section c.in-Some.section.address c.in-Some.section.size c.in-Some.section.start c.in-Some.section.next
step_is c = section_found _ _ _ _ _ c.whole_step.ensures c.in-Some.is

pub put_section-to-requires : goal.put_section-to-requires
put_section-to-requires c =
    omega (arith, c.requires, simp length-append at (ap length (lines_section _ _ _ (step_is (goal.at.put_section-to-requires c).In-Some))))

pub loop-section-smaller : goal.loop-section-smaller
loop-section-smaller c = omega (arith, section_of _ _ _ (step_is (goal.at.loop-section-smaller c).In-Some))

pub loop-section-preserved : goal.loop-section-preserved
loop-section-preserved c =
    let e = lines_section _ c.args.table.now c.loop-section.at (step_is (goal.at.loop-section-preserved c).In-Some) in
    let n = simp length-append at (ap length e) in
    let more = section_lines (read_on c.args.order c.args.table.now c.in-Some.section.next).sections in
    record {
      whole = read_next _ _ _ (step_is (goal.at.loop-section-preserved c).In-Some) c.loop-section.invariant.whole;
      same = c.put_section-to.auto.buffer ∙ c.loop-section.invariant.same;
      place = omega (arith, n);
      rest = c.loop-section.invariant.rest ∙ ap (over c.loop-section.buffer c.loop-section.to) e
          ∙ sym (over_over c.loop-section.buffer c.loop-section.to (section_line c.in-Some.section.address c.in-Some.section.size) (omega (arith, c.requires, n)) more c.put_section-to.result c.put_section-to.ensures.value)
          ∙ ap (λ (x : List ℕ). over x c.put_section-to.result more) (sym c.put_section-to.ensures.buffer_after);
    }
