-- `find_peaks` meets its contract. Assumes nothing.
use Rattle.closing.proofs.Peaks.{findable-found}
use Rattle.closing.proofs.find_peaks.Goals as goal

pub returns : goal.returns
returns c = findable-found c.requires c.first_place-arcs.ensures c.set_only.ensures c.close.ensures
