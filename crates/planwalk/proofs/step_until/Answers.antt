-- `planwalk::step_until` meets its contract: the loop keeps `Stepping`, and its two ways out are the two answers. Assumes nothing.
use mathlib.Core.Path.{sym, ◌∙◌}
use native.Mathlib.Omega.{arith}
use Rattle.planwalk.proofs.Walking.{stepping-none, stepping-done, stepping-met, stepping-on}
use Rattle.planwalk.proofs.step_until.Goals as goal

pub loop-steps-init : goal.loop-steps-init
loop-steps-init c = stepping-none c.requires.1

pub returns-then-meets_colour : goal.returns-then-meets_colour
returns-then-meets_colour c =
    let h = c.requires in
    sym (stepping-met h.0 c.loop-steps.invariant h.1 (omega arith) (sym c.meets_colour.ensures ∙ c.if-meets_colour.true))

pub loop-steps-preserved : goal.loop-steps-preserved
loop-steps-preserved c =
    let h = c.requires in
    rw c.position_after-at.ensures
    (stepping-on h.0 c.loop-steps.invariant h.1 (omega arith) (sym c.meets_colour.ensures ∙ c.if-meets_colour.false))

pub returns : goal.returns
returns c = sym (stepping-done c.loop-steps.invariant c.loop-steps-test.false)
