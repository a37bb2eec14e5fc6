-- `dimacs::after_comments` meets its contract: a line after the other, as long as it is a comment. Assumes nothing.
use Rattle.std.proofs.Common.{add-one, arith, sym, ◌∙◌}
use Rattle.fields.proofs.Places.{line_took}
use Rattle.dimacs.proofs.Lists.{comments-none, comments-stop, comments-more}
use Rattle.dimacs.proofs.after_comments.Goals as goal

pub returns-then-not-is_comment : goal.returns-then-not-is_comment
returns-then-not-is_comment c =
    let known = c.loop-line.invariant in
    let stop = comments-stop _ _ _ c.in-Some.ensures.steps (sym c.is_comment.ensures ∙ c.if-not-is_comment.true) in
    (omega (arith, stop, known.3), known.0, known.1)

pub loop-line-preserved : goal.loop-line-preserved
loop-line-preserved c =
    let place = c.loop-line.place in
    let known = c.loop-line.invariant in
    let took = line_took c.args.text.now place.at place.line _ _ known.1 (known.2 ∙ c.in-Some.ensures.steps) in
    let more = comments-more _ _ _ c.in-Some.ensures.steps (sym c.is_comment.ensures ∙ c.if-not-is_comment.false) in
    (omega (arith, known.0, took.some), rw (add-one place.line) took.next, took.left, omega (arith, known.3, more))

pub returns : goal.returns
returns c =
    let known = c.loop-line.invariant in
    (omega (arith, known.3, comments-none _ c.in-None.ensures.steps.0), known.0, known.1)
