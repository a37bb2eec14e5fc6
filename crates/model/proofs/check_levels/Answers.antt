-- `model::check_levels` meets its contract. Assumes nothing.
use Rattle.model.specs.Fitness.{levels_of}
use Rattle.model.proofs.check_levels.Goals as goal

pub returns : goal.returns
unfolding levels_of
returns c = c.check_levels_within.ensures
