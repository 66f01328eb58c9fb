-- `laws::join_both_ways`: request 11, of what the four calls ensure.
use Rattle.loader.specs.Load.{answer_of as loaded_of}
use Rattle.joiner.specs.Join.{answer_of as joined_of}
use Rattle.laws.proofs.CallLaws.{both_calls, part_within}
use Rattle.laws.proofs.join_both_ways.Goals as goal

pub slice_bounds-load-end : goal.slice_bounds-load-end
slice_bounds-load-end c =
    let j = c.join-joined_ab in
    part_within _ _ _ c.args.ab.now (joined_of j.result) c.reported.result _ j.ensures.value c.reported.ensures j.auto.output

pub slice_bounds-load-end-3 : goal.slice_bounds-load-end-3
slice_bounds-load-end-3 c =
    let j = c.join-joined_ba in
    part_within _ _ _ c.args.ba.now (joined_of j.result) c.reported-2.result _ j.ensures.value c.reported-2.ensures j.auto.output

pub returns : goal.returns
returns c =
    let a = c.args in
    let x = c.join-joined_ab in
    let y = c.join-joined_ba in
    let n = c.reported in
    let k = c.reported-2 in
    let f = c.load-loaded_ab in
    let g = c.load-loaded_ba in
    both_calls a.order a.map.now a.first.now a.second.now a.ab.now a.ba.now a.ab_memory.now a.ba_memory.now
    (λ i. (c.type_inv.first i).fits) (λ i. (c.type_inv.second i).fits)
    (joined_of x.result) (joined_of y.result) n.result k.result x.new.output y.new.output (loaded_of f.result) (loaded_of g.result) f.new.memory g.new.memory
    x.ensures.value n.ensures x.ensures.output_after y.ensures.value k.ensures y.ensures.output_after
    f.ensures.value f.ensures.memory_after g.ensures.value g.ensures.memory_after
