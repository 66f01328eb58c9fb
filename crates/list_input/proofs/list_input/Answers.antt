-- `list_input::list_input`: the text is no longer than the buffer that it was written into, and is what is written.
use mathlib.Core.Path.{sym}
use native.Mathlib.Omega.{arith}
use lib.Seq.{length-take-le}
use Rattle.listing.proofs.ListingLaws.{list_within}
use Rattle.list_input.proofs.FrontLaws.{text_put, listed_ok, listed_err}
use Rattle.list_input.proofs.list_input.Goals as goal

pub slice_bounds-text-end : goal.slice_bounds-text-end
slice_bounds-text-end g c = omega (arith, list_within _ _ _ _ c.list-m.ensures.value)

pub slice_bounds-write_all-end : goal.slice_bounds-write_all-end
slice_bounds-write_all-end g c = sym (length-take-le _ _ (omega (arith, list_within _ _ _ _ c.list-m.ensures.value)))

pub returns-clause-ok : goal.returns-clause-ok
returns-clause-ok g c =
    let put = text_put _ _ _ _ _ (omega arith) c.list-m.ensures.value c.list-m.ensures.buffer_after in
    listed_ok _ _ (omega arith) _ _ _ _ _ put _ c.in_ok-n.ensures.bytes c.write_all.ensures.ok

pub returns-clause-err : goal.returns-clause-err
returns-clause-err g c =
    let put = text_put _ _ _ _ _ (omega arith) c.list-m.ensures.value c.list-m.ensures.buffer_after in
    listed_err _ _ (omega arith) _ _ _ _ _ put _ c.in_ok-n.ensures.bytes c.write_all.ensures.err
