-- `chargeplan_search` meets its contract: what search answers, packed. Assumes nothing.
use Rattle.packing.proofs.Sizes.{search-fields}
use Rattle.desk.proofs.chargeplan_search.Goals as goal

pub pack-requires : goal.pack-requires
pack-requires c = rw c.from-told.ensures (search-fields _ _ _ _ _ _ _ _ c.search-searched.ensures)
