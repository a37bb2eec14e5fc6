-- `rounds::lift` meets its contract. Assumes nothing.
use Rattle.closing.proofs.Lifts.{lifted-max}
use Rattle.closing.proofs.rounds.lift.Goals as goal

pub returns : goal.returns
returns c = lifted-max _ _ _ _ c.max.ensures
