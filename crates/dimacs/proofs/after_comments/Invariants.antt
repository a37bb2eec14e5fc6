use Rattle.std.proofs.Common.{◌≡◌, ◌+◌, ◌≤◌}
use lib.ListN.{drop}
use Rattle.fields.specs.Fields.{lines_of, LineAt, pieces_left}
use Rattle.dimacs.specs.Text.{comments}
use Rattle.dimacs.proofs.after_comments.Given as goal

abbrev pub invariant-loop-line : goal.invariant-loop-line
invariant-loop-line l =
    let left = pieces_left l.line-iterator in
    (l.place.line ≤ l.place.at)
    × LineAt l.text l.place.at l.place.line
    × (lines_of (drop l.place.at l.text) ≡ left)
    × (comments (lines_of l.text) ≡ l.place.line + comments left)
