use Rattle.closing.specs.Stratum.{stratum_of}
use Rattle.closing.proofs.Climbs.{Climbing}
use Rattle.closing.proofs.Stage.climb.Given as goal

abbrev pub invariant-loop-arc : goal.invariant-loop-arc
invariant-loop-arc l =
    Climbing (stratum_of l.self) l.v l.charge l.initial.best l.best l.mode l.e
