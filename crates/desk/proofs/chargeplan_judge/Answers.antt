-- `chargeplan_judge` meets its contract: the verdict of judging, packed. Assumes nothing.
use Rattle.packing.proofs.Sizes.{judge-fields}
use Rattle.desk.proofs.chargeplan_judge.Goals as goal

pub pack_alone-requires : goal.pack_alone-requires
pack_alone-requires c = rw (c.from.ensures, c.judge.ensures.verdict) (judge-fields _ _ _ _ _ _ _ _ _ _)
