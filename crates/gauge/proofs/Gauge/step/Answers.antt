-- `Gauge::step` meets its contract: the refusals of fitness and of 6 are the step's, the bound fits 16 bits, and 1 to 4 let the lists through. Assumes
-- nothing.
use mathlib.Core.Path.{sym}
use native.Mathlib.Omega.{arith}
use Rattle.std.proofs.lemmas.Result.{err_from_is_err_and}
use Rattle.model.specs.Lists.{lists_of}
use Rattle.model.proofs.Fitness.{fitness-header, levels-yes}
use Rattle.gauge.proofs.Gauges.{step_unfit, step_levels}
use Rattle.gauge.proofs.Gauge.step.Goals as goal

pub returns-in_err-check_fitness-clause-gauged : goal.returns-in_err-check_fitness-clause-gauged
returns-in_err-check_fitness-clause-gauged c =
    let g = c.args.given.now in
    let p = err_from_is_err_and c.from_residual.result c.from_residual.ensures.1 in
    rw (p.1, p.2) (sym (step_unfit g.n g.start g.k (lists_of g.lists) c.args.b c.args.arc c.args.self _ c.in_err-check_fitness.ensures))

pub returns-in_err-check_levels-clause-gauged : goal.returns-in_err-check_levels-clause-gauged
returns-in_err-check_levels-clause-gauged c =
    let g = c.args.given.now in
    let p = err_from_is_err_and c.from_residual-in_err-check_levels.result c.from_residual-in_err-check_levels.ensures.1 in
    rw (p.1, p.2)
    (sym (step_levels g.n g.start g.k (lists_of g.lists) c.args.b c.args.arc c.args.self _ c.in_ok-check_fitness.ensures
    (rw c.from-charge.ensures at c.in_err-check_levels.ensures)))

pub overflow_cast-b : goal.overflow_cast-b
overflow_cast-b c =
    let h = (levels-yes c.args.b c.from-charge.result).0 (sym c.in_ok-check_levels.ensures) in
    omega arith

pub step_matched-requires : goal.step_matched-requires
step_matched-requires c =
    let g = c.args.given.now in
    fitness-header g.n g.start g.k (lists_of g.lists) (sym c.in_ok-check_fitness.ensures)
