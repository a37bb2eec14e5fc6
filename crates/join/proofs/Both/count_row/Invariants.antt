use Rattle.join.proofs.Counting.{RowCounting}
use Rattle.join.proofs.Both.count_row.Given as goal

abbrev pub invariant-loop-y : goal.invariant-loop-y
invariant-loop-y l = RowCounting l.fn.self.habit.now.modes l.x l.y-items l.initial.so_far l.so_far l.y-index
