use Rattle.filling.specs.Filling.{lists_lent, SameLent}
use Rattle.join.proofs.Writing.{RowWriting}
use Rattle.join.proofs.Both.write_row.Given as goal

abbrev pub invariant-loop-y : goal.invariant-loop-y
invariant-loop-y l =
    RowWriting l.fn.self.habit.now.modes l.fn.self.knee.now.colours l.x l.y-items l.at (lists_lent l.initial.lists) (lists_lent l.lists) l.i l.y-index
    × SameLent l.initial.lists l.lists
