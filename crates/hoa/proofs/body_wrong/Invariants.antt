use Rattle.fields.specs.Fields.{pieces_left}
use Rattle.hoa.proofs.Bodies.{Walked}
use Rattle.hoa.proofs.body_wrong.Given as goal

abbrev pub invariant-loop-line : goal.invariant-loop-line
invariant-loop-line l =
    goal.iterator-loop-line.can_next l.lines × goal.iterator-loop-line.is_finite l.lines × Walked l.body l.n l.k l.j l.blocks (pieces_left l.lines)
