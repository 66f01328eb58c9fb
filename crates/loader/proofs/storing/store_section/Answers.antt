-- `loader::storing::store_section`: what is done is stored, and storing the rest of the data comes to storing all of it.
use Prim.Native.Nat.{ℕ, ◌≤◌, ◌<◌, ◌-◌, ◌+◌}
use mathlib.Core.Path.{◌≡◌, refl, sym, ◌∙◌, ap}
use mathlib.Core.List.{List}
use native.Mathlib.Omega.{arith}
use lib.ListN.{length, take, drop, length-drop}
use lib.Seq.{drop-length, length-take-le}
use Rattle.words.specs.Run.{over}
use Rattle.words.proofs.RunLaws.{part_to_end}
use Rattle.region_map.proofs.OpenLaws.{open_each}
use Rattle.loader.specs.Store.{store_bytes}
use Rattle.loader.proofs.StoreLaws.{region_stored, store_more}
use Rattle.loader.proofs.storing.store_section.Goals as goal
use Rattle.loader.proofs.storing.store_section.Goals.{After-slice_known-in-loop-done-1}

pub loop-done-init : goal.loop-done-init
loop-done-init c =
    let e : c.args.address + 0 ≡ c.args.address = omega arith in
    record { here = omega arith; few = omega arith; same = refl; rest = rw e; places = c.requires.sound_map.2 }

pub region_for-region-requires : goal.region_for-region-requires
region_for-region-requires c =
    (c.requires.sound_map.0, open_each c.args.map.now (length c.args.body.now) c.args.address _ c.requires.open_to_end.1 (omega (arith, c.loop-done.invariant.here)) (omega (arith, c.loop-done.invariant.here)), c.loop-done.invariant.places)

pub store_run-count-requires : goal.store_run-count-requires
store_run-count-requires c =
    let body = c.args.body.now in record { inside = (c.region_for-region.ensures.1, c.region_for-region.ensures.2, rw (part_to_end body c.loop-done.done) (omega (arith, length-drop c.loop-done.done body))); room = omega (arith, c.region_for-region.ensures.0.inside, c.loop-done.invariant.same, c.requires.sound_map.1) }

-- a turn stores at least one byte, and no more than are left
turn : (c : After-slice_known-in-loop-done-1) → (0 < c.store_run-count.result)
    × (c.loop-done.done + c.store_run-count.result ≤ length c.args.body.now)
turn c =
    let body = c.args.body.now in
    let d = c.loop-done.done in
    let run = c.store_run-count.ensures.count in
    let n : length (take (length body - d) (drop d body)) ≡ length body - d = ap length (part_to_end body d) ∙ length-drop d body in
    (run.0, omega (arith, run.1, n))

pub overflow_add-at : goal.overflow_add-at
overflow_add-at c = omega (arith, turn (goal.at.overflow_add-at c).After-slice_known-in-loop-done-1, c.loop-done.invariant.here)

pub overflow_add-done : goal.overflow_add-done
overflow_add-done c = omega (arith, turn (goal.at.overflow_add-done c).After-slice_known-in-loop-done-1)

pub loop-done-smaller : goal.loop-done-smaller
loop-done-smaller c = omega (arith, turn (goal.at.loop-done-smaller c).After-slice_known-in-loop-done-1)

pub loop-done-preserved : goal.loop-done-preserved
loop-done-preserved c =
    let d = c.loop-done.done in
    let few : c.store_run-count.result ≤ length (drop d c.args.body.now) = rw (length-drop d c.args.body.now) (omega (arith, turn (goal.at.loop-done-preserved c).After-slice_known-in-loop-done-1)) in
    record {
      here = omega (arith, c.loop-done.invariant.here);
      few = (turn (goal.at.loop-done-preserved c).After-slice_known-in-loop-done-1).1;
      same = c.store_run-count.auto.memory ∙ c.loop-done.invariant.same;
      rest = c.loop-done.invariant.rest
          ∙ store_more c.args.map.now c.loop-done.memory c.args.body.now c.store_run-count.new.memory c.args.address d c.store_run-count.result few
          (c.store_run-count.ensures.memory_after
          ∙ ap (λ (x : List ℕ). over c.loop-done.memory (c.region_for-region.result.place + (c.loop-done.at - c.region_for-region.result.first)) (take c.store_run-count.result x)) (part_to_end c.args.body.now d)
          ∙ region_stored _ _ _ _ c.region_for-region.result c.region_for-region.ensures.0 c.region_for-region.ensures.1 c.region_for-region.ensures.2 (c.loop-done.invariant.same ∙ c.requires.sound_map.1) (rw (length-take-le c.store_run-count.result (drop d c.args.body.now) few) c.store_run-count.ensures.count.2)
          ∙ ap (λ (x : ℕ). store_bytes c.args.map.now c.loop-done.memory x (take c.store_run-count.result (drop d c.args.body.now))) c.loop-done.invariant.here);
      places = c.region_for-region.ensures.0;
    }

pub shape_of-memory : goal.shape_of-memory
shape_of-memory c = c.loop-done.invariant.same

pub returns : goal.returns
unfolding store_bytes
returns c =
    let e : c.loop-done.done ≡ length c.args.body.now = omega arith in record { places = c.loop-done.invariant.places; memory_after = sym (rw (c.loop-done.invariant.rest, e, drop-length)) }
