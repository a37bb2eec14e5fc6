-- `model::check_each_arc` meets its contract: the loop keeps `Checking`, and its two ways out are its two ends. Assumes nothing.
use mathlib.Core.Path.{sym, ◌∙◌}
use native.Mathlib.Omega.{arith}
use Rattle.model.specs.Lists.{lists_of}
use Rattle.model.proofs.Arcs.{checking-none, checking-more, checking-unfit, checking-done}
use Rattle.model.proofs.check_each_arc.Goals as goal

pub loop-i-init : goal.loop-i-init
loop-i-init c = checking-none c.args.given.now.n c.two_to-power.result (lists_of c.args.given.now.lists)

pub returns-then-unfit_arc : goal.returns-then-unfit_arc
returns-then-unfit_arc c =
    let g = c.args.given.now in
    let power = c.two_to-power in
    rw (sym power.ensures) (sym (checking-unfit g.n power.result (lists_of g.lists) c.loop-i.i c.loop-i.invariant _ (omega arith) c.arc_at-arc.ensures
    (sym c.unfit_arc.ensures ∙ c.if-unfit_arc.true)))

pub loop-i-preserved : goal.loop-i-preserved
loop-i-preserved c =
    let g = c.args.given.now in
    checking-more g.n c.two_to-power.result (lists_of g.lists) c.loop-i.i c.loop-i.invariant _ (omega arith) c.arc_at-arc.ensures
    (sym c.unfit_arc.ensures ∙ c.if-unfit_arc.false)

pub returns : goal.returns
returns c =
    let g = c.args.given.now in
    let power = c.two_to-power in
    rw (sym power.ensures) (sym (checking-done g.n power.result (lists_of g.lists) c.loop-i.i c.loop-i.invariant (omega arith)))
