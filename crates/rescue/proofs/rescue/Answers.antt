-- `rescue::rescue`: each answer and the output are the definitions', by the tests on the way.
use Prim.Native.Nat.{ℕ, ◌-◌, ◌≤◌}
use mathlib.Core.Path.{◌≡◌, refl, sym, ap, ◌∙◌}
use mathlib.Core.List.{List}
use native.Mathlib.Omega.{arith}
use lib.ListN.{length}
use lib.Seq.{length-take-le}
use Rattle.words.specs.declared.ByteOrder.{ByteOrder}
use Rattle.words.specs.Run.{over}
use Rattle.words.proofs.RunLaws.{over_front}
use Rattle.boot_table.specs.Form.{table_limit}
use Rattle.rescue.specs.declared.Run.{Run}
use Rattle.rescue.specs.Rescue.{rescued, used_bytes, done_answer}
use Rattle.rescue.proofs.WholeRunLaws.{Front, run_front}
use Rattle.rescue.proofs.AnswerLaws.{rescue_done, output_rescued}
use Rattle.rescue.proofs.rescue.Goals as goal
use Rattle.rescue.proofs.rescue.Goals.{After-whole_run-run}

-- what the tests before the run and the run itself say
record Ready (o : ByteOrder) (t : List ℕ) (r : Run) : Type 0 where
  short : length t ≤ table_limit
  long : 4 ≤ length t
  front : Front o t r

ready : (c : After-whole_run-run) → Ready c.args.order c.args.table.now c.whole_run-run.result
ready c =
    let long : 4 ≤ length c.args.table.now = omega arith in
    record {
      short = omega arith;
      long = long;
      front = run_front _ _ (λ i. (c.type_inv.table i).fits) long _ c.whole_run-run.ensures;
    }

pub overflow_add-length : goal.overflow_add-length
overflow_add-length c = let f = ready (goal.at.overflow_add-length c).After-whole_run-run in omega (arith, f.front.within, f.short)

pub slice_bounds-write_rescued-end : goal.slice_bounds-write_rescued-end
slice_bounds-write_rescued-end c =
    let f = ready (goal.at.slice_bounds-write_rescued-end c).After-whole_run-run in
    sym (length-take-le _ c.args.table.now (omega (arith, f.front.within)))

pub overflow_sub-unused : goal.overflow_sub-unused
overflow_sub-unused c =
    let f = ready (goal.at.overflow_sub-unused c).After-whole_run-run in
    omega (arith, c.used.ensures, f.front.used, f.front.enough)

pub returns : goal.returns
returns c =
    let o = c.args.order in
    let t = c.args.table.now in
    let out = c.args.output.now in
    let r = ready (goal.at.returns c).After-whole_run-run in
    let f = r.front in
    let n : length t - c.used.result ≡ length t - used_bytes o t = ap (λ (n : ℕ). length t - n) (c.used.ensures ∙ f.used) in
    let e = rescue_done o t (length out) r.short r.long
    (omega (arith, f.size)) (omega (arith, f.size)) in
    record {
      value = (λ i. record { number = 0; place = 0; length = sym f.size i; sections = f.count i; unused = n i; added = f.added i }) ∙ e;
      output_after =
          c.write_rescued.ensures
          ∙ ap (over out 0) (sym f.is)
          ∙ over_front out (rescued o t)
          ∙ output_rescued o t out (done_answer o t) e refl;
    }
