use Rattle.std.proofs.Common.{◌≡◌, ◌+◌, length}
use lib.ListN.{drop}
use Rattle.fields.specs.Fields.{lines_of, pieces_left}
use Rattle.dimacs.specs.Text.{arcs_wrong}
use Rattle.dimacs.proofs.arcs_wrong.Given as goal

abbrev pub invariant-loop-line : goal.invariant-loop-line
invariant-loop-line l =
    let left = pieces_left l.line-iterator in
    let all = drop l.place.line (lines_of l.text) in
    (l.i + length left ≡ length all) × (arcs_wrong l.n l.m l.place.line 0 all ≡ arcs_wrong l.n l.m (l.place.line + l.i) l.i left)
