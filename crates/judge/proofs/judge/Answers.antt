-- `judge::judge` meets its contract: what judge_model says of the plan is what judging says. Assumes nothing.
use mathlib.Core.Path.{ap}
use Rattle.refusals.specs.declared.Answer.{Answer}
use Rattle.refusals.specs.Refusals.{answer_of}
use Rattle.model.specs.Lists.{lists_of}
use Rattle.judge.proofs.Answers.{told-verdict}
use Rattle.judge.proofs.judge.Goals as goal

pub returns-clause-verdict : goal.returns-clause-verdict
returns-clause-verdict c =
    let g = c.args.given.now in
    let w = c.args.plan.now in
    told-verdict g.n g.start g.k (lists_of g.lists) c.args.barred c.args.b c.args.c w.p w.q w.arcs.now _ c.in_ok-judged.ensures

pub returns-clause-answer : goal.returns-clause-answer
returns-clause-answer c =
    let g = c.args.given.now in
    let w = c.args.plan.now in
    ap {B = Answer} answer_of
    (told-verdict g.n g.start g.k (lists_of g.lists) c.args.barred c.args.b c.args.c w.p w.q w.arcs.now _ c.in_ok-judged.ensures)
