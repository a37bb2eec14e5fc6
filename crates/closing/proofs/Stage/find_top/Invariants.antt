use Rattle.closing.specs.Stratum.{stratum_of}
use Rattle.closing.proofs.Climbs.{Circling}
use Rattle.closing.proofs.Stage.find_top.Given as goal

abbrev pub invariant-loop-arc : goal.invariant-loop-arc
invariant-loop-arc l =
    Circling (stratum_of l.self) l.v l.charge l.mode l.e l.high
