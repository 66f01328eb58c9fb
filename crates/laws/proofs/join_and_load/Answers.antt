-- `laws::join_and_load`: demand 3, of what the four calls ensure.
use Rattle.loader.specs.Load.{answer_of as loaded_of}
use Rattle.joiner.specs.Join.{answer_of as joined_of}
use Rattle.laws.proofs.CallLaws.{turn_calls, part_within}
use Rattle.laws.proofs.join_and_load.Goals as goal

pub slice_bounds-load-end : goal.slice_bounds-load-end
slice_bounds-load-end c =
    let j = c.join-joined in
    part_within _ _ _ c.args.output.now (joined_of j.result) c.reported.result _ j.ensures.value c.reported.ensures j.auto.output

pub returns : goal.returns
returns c =
    let a = c.args in
    let j = c.join-joined in
    let n = c.reported in
    let w = c.load-whole in
    let f = c.load-loaded_first in
    let g = c.load-loaded_second in
    turn_calls a.order a.map.now a.first.now a.second.now a.output.now a.join_memory.now a.turn_memory.now
    (λ i. (c.type_inv.first i).fits) (λ i. (c.type_inv.second i).fits)
    (joined_of j.result) n.result j.new.output (loaded_of w.result) (loaded_of f.result) (loaded_of g.result) w.new.memory f.new.memory g.new.memory
    j.ensures.value n.ensures j.ensures.output_after w.ensures.value w.ensures.memory_after
    f.ensures.value f.ensures.memory_after g.ensures.value g.ensures.memory_after
