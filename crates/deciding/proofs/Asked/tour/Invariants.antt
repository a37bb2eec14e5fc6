use lib.ListN.{length}
use Rattle.deciding.proofs.Tours.{Touring}
use Rattle.deciding.proofs.Asked.tour.Given as goal

abbrev pub invariant-loop-level : goal.invariant-loop-level
invariant-loop-level l = Touring l.self.groups.now.rows l.self.groups.now.places l.self.question (length l.initial.best) l.initial.best l.best l.level
