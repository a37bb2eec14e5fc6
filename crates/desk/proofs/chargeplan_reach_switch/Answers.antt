-- `chargeplan_reach_switch` meets its contract: what the table answers, with its verdict packed. Assumes nothing.
use Rattle.packing.proofs.Sizes.{reach-switch-fields}
use Rattle.desk.proofs.chargeplan_reach_switch.Goals as goal

pub pack_reached-requires : goal.pack_reached-requires
pack_reached-requires c = reach-switch-fields _ _ _ _ _ _ _ _ _ c.switch.ensures
