use Rattle.std.proofs.Common.{◌≡◌, length}
use Rattle.fields.specs.Fields.{pieces_left}
use Rattle.reading.specs.Within.{edges_left}
use Rattle.reading.proofs.EdgesIterator.next.Given as goal

abbrev pub invariant-loop-line : goal.invariant-loop-line
invariant-loop-line l = edges_left l.initial.self ≡ edges_left l.self

abbrev pub decreases-loop-line : goal.decreases-loop-line
decreases-loop-line l = length (pieces_left l.self.lines)
