-- `reach::charges_of` meets its contract: at every turn the charges below s are those of the words. Assumes nothing.
use Rattle.reach.specs.Words.{Charged}
use Rattle.reach.proofs.charges_of.Given as goal

abbrev pub invariant-loop-s : goal.invariant-loop-s
invariant-loop-s l = Charged l.words l.s l.charges
