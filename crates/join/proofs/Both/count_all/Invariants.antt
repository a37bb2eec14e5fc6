use Rattle.model.specs.Lists.{held}
use Rattle.join.proofs.Counting.{Counting}
use Rattle.join.proofs.Both.count_all.Given as goal

abbrev pub invariant-loop-x : goal.invariant-loop-x
invariant-loop-x l = Counting l.fn.self.habit.now.modes l.fn.self.knee.now.colours l.x-items (held l.fn.self.habit.now).arcs l.count l.x-index
