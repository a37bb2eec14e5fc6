-- `planwalk::walk` meets its contract: what step_until asks is what judging says of the plan. Assumes nothing.
use mathlib.Core.Path.{sym}
use native.Mathlib.Omega.{arith}
use Rattle.std.proofs.lemmas.Result.{err_from_is_err_and}
use Rattle.model.specs.Lists.{lists_of}
use Rattle.judge.proofs.Judged.{judged-yes}
use Rattle.judge.proofs.Answers.{told-judged, told-arcs}
use Rattle.planwalk.proofs.Steps.{walk_unjudged}
use Rattle.planwalk.proofs.walk.Goals as goal

pub step_until-requires : goal.step_until-requires
step_until-requires c =
    let a = c.args in
    let g = a.given.now in
    let w = a.plan.now in
    let judged = told-judged g.n g.start g.k (lists_of g.lists) a.barred a.b a.c w.p w.q w.arcs.now _ c.in_ok-judged.ensures (sym c.in_ok-judged-2.was) in
    let right = (judged-yes g.n g.start g.k (lists_of g.lists) a.barred a.b a.c w.p w.q w.arcs.now).0 judged in (
      told-arcs g.n g.start g.k (lists_of g.lists) a.barred a.b a.c w.p w.q w.arcs.now _ c.in_ok-judged.ensures (sym c.in_ok-judged-2.was),
      omega (arith, right.lengths.parts, right.lengths.has_arc),
      omega (arith, right.fit.few_colours, c.if-j-given.false),
    )

pub returns-in_err-judged-2-clause-walked : goal.returns-in_err-judged-2-clause-walked
returns-in_err-judged-2-clause-walked c =
    let a = c.args in
    let g = a.given.now in
    let w = a.plan.now in
    let p = err_from_is_err_and c.from_residual-in_err-judged-2.result c.from_residual-in_err-judged-2.ensures.1 in
    rw (p.1, p.2)
    (sym (walk_unjudged g.n g.start g.k (lists_of g.lists) a.barred a.b a.c w.p w.q w.arcs.now a.j a.allowance _ c.in_ok-judged.ensures _
    (sym c.in_err-judged-2.was)))
