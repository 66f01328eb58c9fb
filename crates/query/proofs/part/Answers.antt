-- `query::part`: the part is lent out of the table that the answer names.
use mathlib.Core.Path.{◌≡◌, sym, ap}
use native.Mathlib.Omega.{arith}
use lib.ListN.{length}
use Rattle.std.specs.Prelude.{Some}
use Rattle.query.specs.Find.{find_answer, part_of}
use Rattle.query.specs.Covering.{NoPart}
use Rattle.query.proofs.FindLaws.{find_inside, find_fits, some_found, none_found, refusal_found, part_newer, part_older, part_lent, start_lent}
use Rattle.query.proofs.part.Goals as goal
use Rattle.query.proofs.part.Goals.{In_default, In-Ok-Some, in_default-via-in-Ok+in_default, in_default-via-in_default}

-- the answer tells of no part
no_part : (c : In_default) → NoPart c.args.older.now c.args.newer.now (find_answer c.args.order c.args.older.now c.args.newer.now c.args.address)
no_part c = elim c.in_default.branch [
  | in_default-via-in-Ok+in_default w ↦ none_found _ _ _ _ c.find.result c.find.ensures w.in_default.field-0 w.in_default.is (cc)
  | in_default-via-in_default w ↦ refusal_found _ _ _ _ c.find.result c.find.ensures w.in_default.field-0 w.in_default.is
]

pub returns-in_default-clause-bytes : goal.returns-in_default-clause-bytes
returns-in_default-clause-bytes c = sym (no_part (goal.at.returns-in_default-clause-bytes c).In_default).bytes

pub returns-in_default-clause-start : goal.returns-in_default-clause-start
returns-in_default-clause-start c = sym ((no_part (goal.at.returns-in_default-clause-start c).In_default).start _ _)

-- the answer tells of a part
found : (c : In-Ok-Some) → part_of (Some c.in-Ok-Some.part) c.in-Ok-Some.field-0.read ≡ find_answer c.args.order c.args.older.now c.args.newer.now c.args.address
found c = some_found _ _ _ _ c.find.result c.find.ensures c.in-Ok-Some.field-0 c.in-Ok-Some.part c.in-Ok-Some.is (cc)

pub overflow_add-to : goal.overflow_add-to
overflow_add-to c = record { fits = find_fits _ _ _ _ _ _ (found (goal.at.overflow_add-to c).In-Ok-Some) (omega arith) (omega arith) }

pub slice_bounds-result-end-in-Newer : goal.slice_bounds-result-end-in-Newer
slice_bounds-result-end-in-Newer c =
    let is = part_newer c.in-Ok-Some.part c.in-Ok-Some.field-0.read c.args.older.now c.args.newer.now c.in-Newer.is in
    omega (arith, find_inside _ _ _ _ _ (found (goal.at.slice_bounds-result-end-in-Newer c).In-Ok-Some), ap length is)

pub slice_bounds-result-end-in-Older : goal.slice_bounds-result-end-in-Older
slice_bounds-result-end-in-Older c =
    let is = part_older c.in-Ok-Some.part c.in-Ok-Some.field-0.read c.args.older.now c.args.newer.now c.in-Older.is in
    omega (arith, find_inside _ _ _ _ _ (found (goal.at.slice_bounds-result-end-in-Older c).In-Ok-Some), ap length is)

pub returns-in-Newer : goal.returns-in-Newer
returns-in-Newer c =
    let p = c.in-Ok-Some.part in
    let n = c.in-Ok-Some.field-0.read in
    let e = found (goal.at.returns-in-Newer c).In-Ok-Some in
    record {
      bytes = part_lent _ _ _ _ _ e (part_newer p n c.args.older.now c.args.newer.now c.in-Newer.is);
      start = start_lent _ _ _ _ _ _ e (part_newer p n c.args.older.ref_ptr c.args.newer.ref_ptr c.in-Newer.is) (omega arith);
    }

pub returns-in-Older : goal.returns-in-Older
returns-in-Older c =
    let p = c.in-Ok-Some.part in
    let n = c.in-Ok-Some.field-0.read in
    let e = found (goal.at.returns-in-Older c).In-Ok-Some in
    record {
      bytes = part_lent _ _ _ _ _ e (part_older p n c.args.older.now c.args.newer.now c.in-Older.is);
      start = start_lent _ _ _ _ _ _ e (part_older p n c.args.older.ref_ptr c.args.newer.ref_ptr c.in-Older.is) (omega arith);
    }
