-- `joiner::copy_sections`: the sections before the offset are copied as one run, and the table is whole from there on.
use Prim.Native.Nat.{ℕ, ◌-◌}
use mathlib.Core.Path.{◌≡◌, refl, sym, ap, ◌∙◌}
use mathlib.Core.List.{List}
use native.Mathlib.Omega.{arith}
use lib.ListN.{length, take, drop, length-drop}
use lib.Seq.{length-take-le}
use Rattle.words.specs.Run.{over}
use Rattle.words.proofs.RunLaws.{lent_back, over_none, length_over}
use Rattle.boot_table.proofs.StepLaws.{section_found, end_of, end_found}
use Rattle.boot_table.proofs.ReadLaws.{read_room}
use Rattle.boot_table.proofs.FormLaws.{well_read}
use Rattle.joiner.proofs.WriteLaws.{turn_whole, copy_section}
use Rattle.joiner.proofs.copy_sections.Goals as goal
use Rattle.joiner.proofs.copy_sections.Goals.{In-Some}

pub loop-section-init : goal.loop-section-init
loop-section-init c =
    let w = (well_read _ c.args.table.now c.requires.well_formed).1 in
    record {
      low = omega arith;
      whole = w;
      room = read_room _ _ _ w;
      place = omega arith;
      same = refl;
      is = sym (over_none _ _);
    }

pub returns-in_default : goal.returns-in_default
returns-in_default c =
    let t = c.args.table.now in
    let e = end_of _ t c.loop-section.at (end_found _ _ _ _ c.whole_step.ensures c.in_default.is) in
    let z : c.loop-section.at - 4 ≡ length t - 8 = omega arith in
    record {
      ends = omega arith;
      output_after = rw (← z) c.loop-section.invariant.is;
    }

pub loop-section-preserved : goal.loop-section-preserved
loop-section-preserved c =
    let t = c.args.table.now in
    let d = c.args.output.now in
    let from = c.args.from in
    let at = c.loop-section.at in
    let to = c.loop-section.to in
    let next = c.in-Some.section.next in
    let on = turn_whole _ _ _ _ _ _ _ (sym (section_found _ _ _ _ _ c.whole_step.ensures c.in-Some.is)) c.loop-section.invariant.whole in
    let n : length (take (next - 4) (drop 4 t)) ≡ next - 4 = length-take-le (next - 4) (drop 4 t) (simp length-drop (omega arith)) in
    let is = lent_back c.loop-section.output (take (next - at) (drop at t)) c.copy.new.part to (omega arith) c.copy.ensures
    ∙ ap (λ (x : List ℕ). over x to (take (next - at) (drop at t))) c.loop-section.invariant.is
    ∙ copy_section t d from at next to c.loop-section.invariant.low (omega arith) (omega arith) c.loop-section.invariant.place (omega (arith, c.requires)) in
    record {
      low = omega arith;
      whole = on.0;
      room = on.2;
      place = omega arith;
      same = ap length is ∙ length_over d from (take (next - 4) (drop 4 t)) (omega (arith, c.requires));
      is = is;
    }
