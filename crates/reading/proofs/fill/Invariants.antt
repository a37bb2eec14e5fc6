use Rattle.std.proofs.Common.{map}
use Rattle.std.specs.Iterator.Adapters.{enumerate_source, enumerate_count, zip_first, zip_second}
use Rattle.fields.specs.Fields.{lines_of}
use Rattle.hoa.specs.Text.{edges_from}
use Rattle.dimacs.specs.Text.{text_arc_on}
use Rattle.filling.specs.Filling.{lists_lent, SameLent}
use Rattle.reading.specs.ModelRead.{arcs_read}
use Rattle.reading.proofs.Writing.{arcs_left, TextsWriting}
use Rattle.reading.proofs.fill.Given as goal

abbrev pub invariant-loop-i : goal.invariant-loop-i
invariant-loop-i l =
    TextsWriting (arcs_read (edges_from 0 (lines_of l.body)) (map text_arc_on (lines_of l.arcs)))
    (arcs_left (zip_first (enumerate_source l.i-iterator)) (zip_second (enumerate_source l.i-iterator))) (enumerate_count l.i-iterator)
    (lists_lent l.initial.lists) (lists_lent l.lists)
    × SameLent l.initial.lists l.lists
