-- `listing::list`: each return is the text that the tests before it lead to, or nothing where the buffer is too short.
use Prim.Native.Nat.{◌+◌, ◌≤◌}
use mathlib.Core.Path.{◌≡◌, refl, sym, ap, ◌∙◌}
use native.Mathlib.Omega.{arith}
use lib.ListN.{length}
use Rattle.boot_table.specs.Table.{entry_of, reading}
use Rattle.boot_table.proofs.FormLaws.{well_long}
use Rattle.std.specs.Prelude.{Ok, Err}
use Rattle.words.proofs.RefusalLaws.{number_some}
use Rattle.boot_table.specs.Form.{Form, form_of, answer_of, WellFormed}
use Rattle.listing.specs.Text.{decimal_text}
use Rattle.listing.specs.Listing.{list_limit, entry_line, section_lines, end_line, text_bound}
use Rattle.listing.proofs.TextLaws.{put_three}
use Rattle.listing.proofs.ListingLaws.{length_entry, length_end, length_refused, text_long, bound_long, bound_within, text_refused, refused_few, listed_well, text_listed, listed_room, text_bound_lem, list_none, list_put}
use Rattle.listing.proofs.list.Goals as goal
use Rattle.listing.proofs.list.Goals.{In-Ok, In-Err}

pub returns-then-buffer-lt9 : goal.returns-then-buffer-lt9
returns-then-buffer-lt9 c = list_none _ c.args.table.now c.args.buffer.now (omega (arith, bound_long c.args.table.now (omega arith)))

pub returns-then-table-gt-LIST_LIMIT : goal.returns-then-table-gt-LIST_LIMIT
returns-then-table-gt-LIST_LIMIT c =
    let t = c.args.table.now in
    list_put _ t c.args.buffer.now (omega (arith, bound_long t (omega arith))) _ _ (rw (text_long _ t (omega arith)) c.put.ensures)

pub returns-then-buffer-table : goal.returns-then-buffer-table
returns-then-buffer-table c = list_none _ c.args.table.now c.args.buffer.now (omega (arith, bound_within c.args.table.now (omega arith)))

-- a table that is refused
module _ (c : In-Err) where
  abbrev misform : Form
  misform = answer_of (Err c.in-Err.refusal)

  is_misform : misform ≡ form_of c.args.order c.args.table.now
  is_misform = sym (ap answer_of c.in-Err.is) ∙ c.form_of.ensures

pub put_refused-requires : goal.put_refused-requires
put_refused-requires c =
    let k = (goal.at.put_refused-requires c).In-Err in
    rw (c.number.ensures, c.place.ensures, length_refused) (omega (arith, refused_few _ c.args.table.now (omega arith) (misform k) (is_misform k)))

pub returns-in-Err : goal.returns-in-Err
returns-in-Err c =
    let k = (goal.at.returns-in-Err c).In-Err in
    let t = c.args.table.now in
    list_put _ t c.args.buffer.now (omega (arith, bound_within t (omega arith))) _ _
    (rw (text_refused _ t (omega arith) (misform k) (is_misform k) (number_some c.in-Err.refusal)) (rw (c.number.ensures, c.place.ensures) at c.put_refused.ensures))

-- a table that is listed: it is within the limit and well-formed, and the buffer has room for its text, line by line
module _ (c : In-Ok) where
  abbrev form : Form
  form = answer_of (Ok c.in-Ok.counts)

  is_form : form ≡ form_of c.args.order c.args.table.now
  is_form = sym (ap answer_of c.in-Ok.is) ∙ c.form_of.ensures

  short : length c.args.table.now ≤ list_limit
  short = omega arith

  well : WellFormed c.args.order c.args.table.now
  well = listed_well _ c.args.table.now short form is_form refl

  room : 21 + length (section_lines (reading c.args.order c.args.table.now).sections) + length (decimal_text form.sections) + length (decimal_text form.bytes) ≤ length c.args.buffer.now
  room = omega (arith, listed_room _ c.args.table.now short form is_form refl)

  enough : text_bound c.args.table.now ≤ length c.args.buffer.now
  enough = omega (arith, bound_within c.args.table.now short)

pub entry_of-requires : goal.entry_of-requires
entry_of-requires c = omega (arith, well_long _ _ (well (goal.at.entry_of-requires c).In-Ok))

pub put_entry-a-requires : goal.put_entry-a-requires
put_entry-a-requires c = omega (arith, length_entry c.entry_of.result, room (goal.at.put_entry-a-requires c).In-Ok)

pub put_sections-b-requires : goal.put_sections-b-requires
put_sections-b-requires c =
    record {
      well_formed = well (goal.at.put_sections-b-requires c).In-Ok;
      room = omega (arith, length_entry c.entry_of.result, room (goal.at.put_sections-b-requires c).In-Ok);
    }

pub put_end-requires : goal.put_end-requires
put_end-requires c = rw length_end (omega (arith, length_entry c.entry_of.result, room (goal.at.put_end-requires c).In-Ok))

pub returns-in-Ok : goal.returns-in-Ok
returns-in-Ok c =
    let k = (goal.at.returns-in-Ok c).In-Ok in
    let o = c.args.order in
    let t = c.args.table.now in
    let d = c.args.buffer.now in
    let f = form k in
    let e = text_listed o t (short k) f (is_form k) refl in
    list_put o t d (enough k) c.put_end.result c.put_end.new.buffer
    (rw e
    (put_three d 0 (entry_line (entry_of o t)) (section_lines (reading o t).sections) (end_line f.sections f.bytes)
    c.put_entry-a.new.buffer c.put_sections-b.new.buffer c.put_end.new.buffer c.put_entry-a.result c.put_sections-b.result c.put_end.result
    (rw (← e) (omega (arith, text_bound_lem o t, enough k)))
    (rw c.entry_of.ensures at c.put_entry-a.ensures) c.put_sections-b.ensures c.put_end.ensures))
