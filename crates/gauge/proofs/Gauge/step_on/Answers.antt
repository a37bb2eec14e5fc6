-- `Gauge::step_on` meets its contract: a step that is possible lands. Assumes nothing.
use mathlib.Core.Path.{sym, ◌∙◌}
use Rattle.model.specs.Lists.{lists_of}
use Rattle.gauge.proofs.Gauges.{lists_lands}
use Rattle.gauge.proofs.Gauge.step_on.Goals as goal

pub returns : goal.returns
returns c =
    let a = c.args in
    let g = a.given.now in
    let (below, taken) = rw c.in_ok-taken.ensures.ok_part at c.arc.ensures.some in
    c.land.ensures
    ∙ sym (lists_lands g.n g.start g.k (lists_of g.lists) a.b a.arc a.self _ taken below _
    (sym c.in_ok-step.ensures.ok_part ∙ c.bounded_step-stepped.ensures) c.if-taken-self.false)
