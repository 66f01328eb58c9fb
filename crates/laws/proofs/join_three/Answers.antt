-- `laws::join_three`: demand 3, of what the four calls ensure.
use Rattle.joiner.specs.Join.{answer_of as joined_of}
use Rattle.laws.proofs.CallLaws.{three_calls, part_within}
use Rattle.laws.proofs.join_three.Goals as goal

pub slice_bounds-join-end : goal.slice_bounds-join-end
slice_bounds-join-end c =
    let j = c.join-joined_ab in
    part_within _ _ _ c.args.ab.now (joined_of j.result) c.reported.result _ j.ensures.value c.reported.ensures j.auto.output

pub slice_bounds-join-end-3 : goal.slice_bounds-join-end-3
slice_bounds-join-end-3 c =
    let j = c.join-joined_bc in
    part_within _ _ _ c.args.bc.now (joined_of j.result) c.reported-2.result _ j.ensures.value c.reported-2.ensures j.auto.output

pub returns : goal.returns
returns c =
    let a = c.args in
    let x = c.join-joined_ab in
    let n = c.reported in
    let l = c.join-joined_left in
    let y = c.join-joined_bc in
    let k = c.reported-2 in
    let r = c.join-joined_right in
    three_calls a.order a.first.now a.second.now a.third.now a.ab.now a.left.now a.bc.now a.right.now
    (λ i. (c.type_inv.first i).fits) (λ i. (c.type_inv.second i).fits) (λ i. (c.type_inv.third i).fits)
    (joined_of x.result) (joined_of l.result) (joined_of y.result) (joined_of r.result) n.result k.result x.new.output l.new.output y.new.output r.new.output
    x.ensures.value n.ensures x.ensures.output_after l.ensures.value l.ensures.output_after
    y.ensures.value k.ensures y.ensures.output_after r.ensures.value r.ensures.output_after
