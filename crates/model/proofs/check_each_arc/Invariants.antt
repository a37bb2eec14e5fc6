use Rattle.model.specs.Lists.{lists_of}
use Rattle.model.proofs.Arcs.{Checking}
use Rattle.model.proofs.check_each_arc.Given as goal

abbrev pub invariant-loop-i : goal.invariant-loop-i
invariant-loop-i l = Checking l.fn.given.n l.power (lists_of l.fn.given.lists) l.i
