-- `chargeplan_gauge_start` meets its contract: what starting gives, with its verdict packed. Assumes nothing.
use Rattle.packing.proofs.Sizes.{start-fields}
use Rattle.desk.proofs.chargeplan_gauge_start.Goals as goal

pub pack_started-requires : goal.pack_started-requires
pack_started-requires c = rw c.start.ensures.gauged (start-fields _ _ _ _ _ _)
