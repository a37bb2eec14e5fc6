use Rattle.judge.proofs.Paths.{Following}
use Rattle.judge.proofs.check_path.Given as goal

abbrev pub invariant-loop-i : goal.invariant-loop-i
invariant-loop-i l = Following l.model l.plan l.mode l.i
