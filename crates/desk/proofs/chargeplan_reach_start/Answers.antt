-- `chargeplan_reach_start` meets its contract: what the table answers, with its verdict packed. Assumes nothing.
use Rattle.packing.proofs.Sizes.{reach-start-fields}
use Rattle.desk.proofs.chargeplan_reach_start.Goals as goal

pub pack_reached-requires : goal.pack_reached-requires
pack_reached-requires c = reach-start-fields _ _ _ _ _ _ _ c.start.ensures
