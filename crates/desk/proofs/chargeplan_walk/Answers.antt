-- `chargeplan_walk` meets its contract: what the walk answers, packed. Assumes nothing.
use Rattle.std.proofs.Common.{arith}
use Rattle.packing.proofs.Sizes.{bit-met, walk-fields}
use Rattle.desk.proofs.chargeplan_walk.Goals as goal

pub pack-requires : goal.pack-requires
pack-requires c =
    rw (c.from.ensures, c.from-2.ensures, bit-met c.from-told.result.met, c.from-told.ensures, c.walk.ensures.walked)
    (walk-fields _ _ _ _ _ _ _ _ _ _ _ _ (omega (arith, c.ranges.allowance)))
