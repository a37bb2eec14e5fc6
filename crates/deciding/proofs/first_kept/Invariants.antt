-- `first_kept` meets its contract: at every turn no mode below has a peak that a cycle keeps. Assumes nothing.
use lib.ListN.{length}
use Rattle.deciding.specs.Deciding.{net_of}
use Rattle.deciding.proofs.Kept.{NoneKept}
use Rattle.deciding.proofs.first_kept.Given as goal

abbrev pub invariant-loop-mode : goal.invariant-loop-mode
invariant-loop-mode l = NoneKept (net_of l.asked (length l.set)) l.asked.question.bound l.set l.mode
