-- `chargeplan_least_credit` meets its contract: what it answers, packed. Assumes nothing.
use Rattle.packing.proofs.Sizes.{least-fields}
use Rattle.desk.proofs.chargeplan_least_credit.Goals as goal

pub pack_least-requires : goal.pack_least-requires
pack_least-requires c = least-fields _ _ _ _ _ _ _ _ c.least_credit.ensures
