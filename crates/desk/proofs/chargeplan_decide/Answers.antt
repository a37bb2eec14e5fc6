-- `chargeplan_decide` meets its contract: the verdict of the decision, packed. Assumes nothing.
use Rattle.packing.proofs.Sizes.{decide-fields}
use Rattle.desk.proofs.chargeplan_decide.Goals as goal

pub pack_alone-requires : goal.pack_alone-requires
pack_alone-requires c = rw c.from.ensures (decide-fields _ _ _ _ _ _ _ _ c.decide-decided.ensures)
