-- `dimacs::head_of` meets its contract: the line after the comments, and the place where it ends. Assumes nothing.
use Rattle.std.proofs.Common.{add-one, arith, ap, ◌∙◌}
use Rattle.fields.specs.Bytes.{feed}
use Rattle.fields.specs.Fields.{line_of, lines_of}
use Rattle.fields.proofs.Pieces.{end-most}
use Rattle.fields.proofs.Places.{line-is, line_step}
use Rattle.dimacs.proofs.head_of.Goals as goal

pub slice_bounds-result-end : goal.slice_bounds-result-end
slice_bounds-result-end c =
    let s = c.args.text.now in
    omega (arith, end-most feed s c.after_comments-place.result.at c.piece_end-e.result c.after_comments-place.ensures.2.within c.piece_end-e.ensures)

pub returns-clause-problem : goal.returns-clause-problem
returns-clause-problem c =
    let s = c.args.text.now in
    let told = c.after_comments-place.ensures in
    let place = c.after_comments-place.result in
    line-is s place.at place.line c.piece_end-e.result told.2 c.piece_end-e.ensures ∙ ap (line_of (lines_of s)) told.0

pub returns-clause-place : goal.returns-clause-place
returns-clause-place c =
    let place = c.after_comments-place.result in
    rw (add-one place.line)
    (line_step c.args.text.now place.at place.line c.piece_end-e.result c.after_comments-place.ensures.2 c.piece_end-e.ensures)
