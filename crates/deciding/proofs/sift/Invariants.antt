use Rattle.deciding.proofs.Sifts.{SiftedTo}
use Rattle.deciding.proofs.sift.Given as goal

abbrev pub invariant-loop-v : goal.invariant-loop-v
invariant-loop-v l = SiftedTo l.initial.set l.last l.set l.v l.changed l.some
