use Rattle.closing.specs.Stratum.{stratum_of}
use Rattle.closing.specs.Tables.{Rounded}
use Rattle.closing.proofs.Stage.round.Given as goal

abbrev pub invariant-loop-v : goal.invariant-loop-v
invariant-loop-v l =
    Rounded (stratum_of l.self) 0 l.v l.initial.best l.initial.later l.initial.notes.done l.best l.later l.notes.done l.due
