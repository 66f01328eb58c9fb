-- `loader::storing::store_run`: the part of memory from the run's place on gets the run's bytes.
use Prim.Native.Nat.{◌-◌, ◌≤◌}
use mathlib.Core.Path.{sym}
use native.Mathlib.Omega.{arith}
use lib.Seq.{length-take-le}
use Rattle.words.proofs.RunLaws.{lent_back}
use Rattle.loader.proofs.StoreLaws.{run_fits}
use Rattle.loader.proofs.storing.store_run.Goals as goal
use Rattle.loader.proofs.storing.store_run.Goals.{After-min-count}

pub slice_bounds-copy-end : goal.slice_bounds-copy-end
slice_bounds-copy-end c = sym (length-take-le _ _ (omega arith))

-- no more than the region has from the address on
few : (c : After-min-count) → c.min-count.result ≤ c.args.region.end - c.args.address
few c = omega arith

pub copy-requires : goal.copy-requires
copy-requires c =
    run_fits c.args.memory.now c.args.body.now c.args.region c.args.address _
    c.requires.inside.0 (few (goal.at.copy-requires c).After-min-count) c.requires.room

pub returns : goal.returns
returns c = record {
  count = (omega arith, omega arith, omega arith);
  memory_after = lent_back c.args.memory.now _ c.copy.new.part _ (omega arith) c.copy.ensures;
}
