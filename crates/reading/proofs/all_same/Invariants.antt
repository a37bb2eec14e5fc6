use Rattle.std.proofs.Common.{◌≡◌, map}
use Rattle.fields.specs.Fields.{lines_of, pieces_left}
use Rattle.hoa.specs.Text.{edges_from}
use Rattle.dimacs.specs.Text.{text_arc_on}
use Rattle.reading.specs.Agreement.{all_same}
use Rattle.reading.specs.Within.{edges_left}
use Rattle.reading.proofs.all_same.Given as goal

abbrev pub invariant-loop-arc : goal.invariant-loop-arc
invariant-loop-arc l =
    all_same (edges_from 0 (lines_of l.body)) (map text_arc_on (lines_of l.arcs))
    ≡ all_same (edges_left l.edges) (map text_arc_on (pieces_left l.arc-iterator))
