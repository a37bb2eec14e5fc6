use Rattle.closing.specs.Stratum.{stratum_of}
use Rattle.closing.proofs.Tries.{Expanding}
use Rattle.closing.proofs.Stage.expand.Given as goal

abbrev pub invariant-loop-i : goal.invariant-loop-i
invariant-loop-i l =
    Expanding (stratum_of l.self) l.self.groups.now.places l.v l.first l.i l.initial.best l.initial.later l.best l.later
