-- `Gauge::start` meets its contract: the levels fit 16 bits, and what 1 to 4 let through fits 8. Assumes nothing.
use mathlib.Core.Path.{sym}
use native.Mathlib.Omega.{arith}
use Rattle.model.specs.Lists.{lists_of}
use Rattle.model.proofs.Fitness.{fitness-header, levels-yes}
use Rattle.gauge.proofs.Gauge.start.Goals as goal

pub overflow_cast-result : goal.overflow_cast-result
overflow_cast-result c =
    let g = c.args.given.now in
    let h = fitness-header g.n g.start g.k (lists_of g.lists) (sym c.in_ok-check_fitness.ensures) in
    omega arith

pub overflow_cast-result-2 : goal.overflow_cast-result-2
overflow_cast-result-2 c =
    let h = (levels-yes c.args.b c.args.c).0 (sym c.in_ok-check_levels.ensures) in
    omega arith

pub overflow_cast-result-3 : goal.overflow_cast-result-3
overflow_cast-result-3 c =
    let g = c.args.given.now in
    let h = fitness-header g.n g.start g.k (lists_of g.lists) (sym c.in_ok-check_fitness.ensures) in
    omega arith

pub overflow_cast-result-4 : goal.overflow_cast-result-4
overflow_cast-result-4 c =
    let g = c.args.given.now in
    let h = fitness-header g.n g.start g.k (lists_of g.lists) (sym c.in_ok-check_fitness.ensures) in
    omega arith

pub overflow_cast-result-5 : goal.overflow_cast-result-5
overflow_cast-result-5 c =
    let h = (levels-yes c.args.b c.args.c).0 (sym c.in_ok-check_levels.ensures) in
    omega arith
