-- `loader::storing::region_for`: the known region holds the address, or the one that is found does.
use Rattle.region_map.proofs.PlaceLaws.{region_places, region_holds}
use Rattle.region_map.proofs.FaultLaws.{sound_length}
use Rattle.loader.proofs.storing.region_for.Goals as goal

pub region_of-requires : goal.region_of-requires
region_of-requires c = sound_length _ c.requires.0

pub returns : goal.returns
returns c =
    let h = region_holds _ _ c.requires.1 in
    rw c.region_of.ensures (region_places _ c.requires.0 _, h.0, h.1)
