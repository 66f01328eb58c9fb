-- `boot_table::step_at`: each return is the outcome that the tests before it lead to.
use mathlib.Core.Path.{refl, sym, ◌∙◌}
use native.Mathlib.Omega.{arith}
use Rattle.boot_table.specs.Table.{next_of}
use Rattle.boot_table.proofs.StepLaws.{step_cut, step_after, step_short, step_high, section_step_lem, end_step_lem}
use borrow.Author.Tests.{ltb-true, ltb-false}
use Rattle.boot_table.proofs.step_at.Goals as goal

pub returns-then-table-at : goal.returns-then-table-at
returns-then-table-at c = sym (step_cut _ _ _ (omega arith))

pub returns-then-room-lt4 : goal.returns-then-room-lt4
returns-then-room-lt4 c = sym (step_cut _ _ _ (omega arith))

pub returns-then-room-eq4 : goal.returns-then-room-eq4
returns-then-room-eq4 c = sym (end_step_lem _ _ _ (omega arith) (sym c.size_at-word.ensures ∙ c.if-size-eq0.true))

pub returns-then-size-eq0 : goal.returns-then-size-eq0
returns-then-size-eq0 c =
    sym (step_after _ _ _ _ (omega arith) c.size_at-word.ensures c.if-size-eq0.true (omega arith))

pub returns-then-room-lt8 : goal.returns-then-room-lt8
unfolding next_of
returns-then-room-lt8 c =
    sym (step_short _ _ _ _ (omega arith) c.size_at-word.ensures c.if-size-eq0.false (omega arith))

pub returns-then-table-start : goal.returns-then-table-start
unfolding next_of
returns-then-table-start c =
    sym (step_short _ _ _ _ (omega arith) c.size_at-word.ensures c.if-size-eq0.false (omega (arith, c.padded-padded.ensures)))

pub returns-then-is_past_top : goal.returns-then-is_past_top
unfolding next_of
returns-then-is_past_top c =
    sym (step_high _ _ _ _ (omega arith) c.size_at-word.ensures _ c.if-size-eq0.false (omega (arith, c.padded-padded.ensures)) c.address_at-address.ensures
    (ltb-true _ _ (sym c.is_past_top.ensures ∙ c.if-is_past_top.true)))

pub returns : goal.returns
returns c =
    sym (section_step_lem _ _ _ (record {
      start_is = refl;
      next_is = omega (arith, c.padded-padded.ensures);
      within = omega arith;
      some = omega (arith, c.if-size-eq0.false);
      head = omega arith;
      size_is = c.size_at-word.ensures;
      address_is = c.address_at-address.ensures;
      top = ltb-false _ _ (sym c.is_past_top.ensures ∙ c.if-is_past_top.false);
    }))
