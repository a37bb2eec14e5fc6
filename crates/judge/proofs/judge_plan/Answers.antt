-- `judge::judge_plan` meets its contract: where 11 to 14 do not apply the numbers are arcs of the model. Assumes nothing.
use mathlib.Core.Path.{sym}
use native.Mathlib.Omega.{arith}
use Rattle.judge.proofs.Arcs.{shape-arcs, arcs-take, arcs-drop}
use Rattle.judge.proofs.judge_plan.Goals as goal

pub split_at-requires : goal.split_at-requires
split_at-requires c =
    let plan = c.args.plan.now in
    (shape-arcs c.args.model.now c.requires plan.p plan.q plan.arcs.now (sym c.in_ok-check_shape.ensures)).1

pub invariant_of-shaped : goal.invariant_of-shaped
invariant_of-shaped c =
    let g = c.args.model.now in
    let plan = c.args.plan.now in
    let (arcs, part, short) = shape-arcs g c.requires plan.p plan.q plan.arcs.now (sym c.in_ok-check_shape.ensures) in
    record {
      fit = c.requires;
      leads = rw c.split_at.ensures.front (arcs-take g plan.arcs.now arcs plan.p part);
      turns = rw c.split_at.ensures.back (arcs-drop g plan.arcs.now arcs plan.p);
      short = omega (arith, c.split_at.ensures.front_len, c.split_at.ensures.back_len);
    }
