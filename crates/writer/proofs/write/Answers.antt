-- `writer::write`: what was judged is the answer; a refusal leaves the output as it was, and else the entry word, the sections and the zero word are the table.
use Rattle.std.proofs.Common.{◌≡◌, length, refl, arith, ◌∙◌}
use Rattle.std.proofs.lemmas.Result.{err_from_is_err_and}
use Rattle.words.proofs.RefusalLaws.{number_some}
use Rattle.writer.specs.Write.{write_answer}
use Rattle.writer.proofs.AnswerLaws.{judged_bad, judged_length, room_long, room_short, room_done, output_kept}
use Rattle.writer.proofs.WriteLaws.{entry_fits, sections_fit, zero_fits, all_stored}
use Rattle.writer.proofs.write.Goals as goal
use Rattle.writer.proofs.write.Goals.{Else-output-length}

pub returns-in_err-length : goal.returns-in_err-length
returns-in_err-length c =
    let p = err_from_is_err_and c.from_residual.result c.from_residual.ensures.1 in
    let e = judged_bad _ _ _ c.args.«data».now (length c.args.output.now) _ c.in_err-length.ensures in
    rw (p.1, p.2) (record { value = e; output_after = output_kept _ _ _ _ _ _ e (number_some _) })

pub returns-then-length-gt-TABLE_LIMIT : goal.returns-then-length-gt-TABLE_LIMIT
returns-then-length-gt-TABLE_LIMIT c =
    let e = room_long _ _ _ c.if-length-gt-TABLE_LIMIT.true ∙ judged_length _ _ _ _ (length c.args.output.now) _ c.in_ok-length.ensures in
    record { value = e; output_after = output_kept _ _ _ _ _ _ e (λ z. omega arith) }

pub returns-then-output-length : goal.returns-then-output-length
returns-then-output-length c =
    let e = room_short _ _ _ (omega arith) c.if-output-length.true ∙ judged_length _ _ _ _ (length c.args.output.now) _ c.in_ok-length.ensures in
    record { value = e; output_after = output_kept _ _ _ _ _ _ e (λ z. omega arith) }

-- the table is within the limit, and has room
answer_is : (c : Else-output-length)
    → record { number = 0; place = 0; length = c.in_ok-length.length; sections = length c.args.sections.now } ≡ write_answer c.args.order c.args.entry c.args.sections.now c.args.«data».now (length c.args.output.now)
answer_is c = room_done _ _ _ (omega arith) (omega arith) ∙ judged_length _ _ _ _ _ _ c.in_ok-length.ensures

pub put_header-requires : goal.put_header-requires
put_header-requires c = entry_fits _ _ _ _ _ _ (answer_is (goal.at.put_header-requires c).Else-output-length) refl

pub put_sections-end-requires : goal.put_sections-end-requires
put_sections-end-requires c =
    sections_fit _ _ _ _ _ _ (answer_is (goal.at.put_sections-end-requires c).Else-output-length) refl _ c.put_header.auto.output

pub put_header-requires-2 : goal.put_header-requires-2
put_header-requires-2 c =
    zero_fits _ _ _ _ _ _ (answer_is (goal.at.put_header-requires-2 c).Else-output-length) refl _ c.put_header.auto.output _ _ c.put_sections-end.auto.output c.put_sections-end.ensures.0

pub returns : goal.returns
returns c =
    let e = answer_is (goal.at.returns c).Else-output-length in
    record {
      value = e;
      output_after =
          all_stored _ _ _ _ _ _ e refl _ c.put_header.auto.output _ _ c.put_sections-end.auto.output c.put_sections-end.ensures.0
          _ c.put_header.ensures c.put_sections-end.ensures.1 c.put_header-2.ensures;
    }
