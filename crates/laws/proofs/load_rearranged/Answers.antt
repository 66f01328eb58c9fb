-- `laws::load_rearranged`: demand 3 and request 11, of what the two calls ensure.
use Rattle.loader.specs.Load.{answer_of as loaded_of}
use Rattle.laws.proofs.CallLaws.{rearranged_calls}
use Rattle.laws.proofs.load_rearranged.Goals as goal

pub returns : goal.returns
returns c =
    let a = c.args in
    let f = c.load-loaded_original in
    let g = c.load-loaded_rearranged in
    rearranged_calls a.order a.map.now a.original.now a.rearranged.now a.original_memory.now a.rearranged_memory.now
    (λ i. (c.type_inv.original i).fits)
    (loaded_of f.result) (loaded_of g.result) f.new.memory g.new.memory
    f.ensures.value f.ensures.memory_after g.ensures.value g.ensures.memory_after
