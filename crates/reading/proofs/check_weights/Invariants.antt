use Rattle.std.proofs.Common.{◌≡◌, ◌+◌, length}
use Rattle.std.specs.Iterator.Adapters.{enumerate_source, enumerate_count}
use Rattle.fields.specs.Fields.{lines_of, pieces_left}
use Rattle.reading.specs.Within.{weights_verdict}
use Rattle.reading.proofs.check_weights.Given as goal

abbrev pub invariant-loop-i : goal.invariant-loop-i
invariant-loop-i l =
    (enumerate_count l.i-iterator + length (pieces_left (enumerate_source l.i-iterator)) ≡ length (lines_of l.arcs))
    × (weights_verdict (lines_of l.arcs) 0 ≡ weights_verdict (pieces_left (enumerate_source l.i-iterator)) (enumerate_count l.i-iterator))
