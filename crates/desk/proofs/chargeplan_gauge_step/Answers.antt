-- `chargeplan_gauge_step` meets its contract: the gauge moved on, and the verdict of the step packed. Assumes nothing.
use Rattle.packing.proofs.Sizes.{step-fields}
use Rattle.desk.proofs.chargeplan_gauge_step.Goals as goal

pub pack_alone-requires : goal.pack_alone-requires
pack_alone-requires c = rw c.step.ensures.answered (step-fields _ _ _ _ _ _ _)
