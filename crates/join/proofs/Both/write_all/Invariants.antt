use Rattle.model.specs.Lists.{held}
use Rattle.filling.specs.Filling.{lists_lent, SameLent}
use Rattle.join.proofs.Writing.{AllWriting}
use Rattle.join.proofs.Both.write_all.Given as goal

abbrev pub invariant-loop-x : goal.invariant-loop-x
invariant-loop-x l =
    AllWriting l.fn.self.habit.now.modes l.fn.self.knee.now.colours l.x-items (held l.fn.self.habit.now).arcs (lists_lent l.initial.lists) (lists_lent l.lists) l.at l.x-index
    × SameLent l.initial.lists l.lists
