-- `dimacs::dimacs_wrong` meets its contract: the line after the comments, then those after it. Assumes nothing.
use Rattle.std.proofs.Common.{ℕ, Option, arith, sym, ap, ◌∙◌}
use Rattle.fields.specs.Fields.{lines_of, line_or_none}
use Rattle.fields.proofs.Wrong.{wrong_at}
use Rattle.dimacs.proofs.Lists.{text-wrong, text-arcs}
use Rattle.dimacs.proofs.dimacs_wrong.Goals as goal

pub returns-then-not-is_problem : goal.returns-then-not-is_problem
returns-then-not-is_problem c =
    let told = c.head_of-head.ensures in
    let wrong = text-wrong (lines_of c.args.text.now) _ _ told.line told.problem (sym c.is_problem.ensures ∙ c.if-not-is_problem.true) in
    wrong_at _ _ (omega (arith, told.line)) (sym wrong)

pub returns : goal.returns
returns c =
    let told = c.head_of-head.ensures in
    rw (c.arcs_wrong.ensures, c.modes_on.ensures, c.count_on.ensures)
    (ap {B = Option ℕ} line_or_none
    (text-arcs (lines_of c.args.text.now) _ _ told.line told.problem (sym c.is_problem.ensures ∙ c.if-not-is_problem.false)))
