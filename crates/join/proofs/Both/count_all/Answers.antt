-- `join::Both::count_all` meets its contract: the loop keeps `Counting`. Assumes nothing.
use mathlib.Core.Path.{refl}
use Rattle.std.proofs.lemmas.Result.{err_from_is_err_and}
use Rattle.model.specs.Lists.{held}
use Rattle.join.proofs.Counting.{counting-more, counting-stops, counting-done}
use Rattle.join.proofs.Both.count_all.Goals as goal

pub returns-in_err-count : goal.returns-in_err-count
returns-in_err-count c =
    let p = err_from_is_err_and c.from_residual.result c.from_residual.ensures.1 in
    let ys = (held c.args.self.now.habit.now).arcs in
    rw (p.1, p.2, ← c.arcs_of-x-items.ensures)
    (counting-stops c.args.self.now.habit.now.modes c.args.self.now.knee.now.colours c.arcs_of-x-items.result.now ys c.loop-x.count c.loop-x.x-index
    c.loop-x.invariant _ c.loop-x-test.true refl _ (λ k. c.in_err-count.ensures k))

pub loop-x-preserved : goal.loop-x-preserved
loop-x-preserved c =
    let ys = (held c.args.self.now.habit.now).arcs in
    counting-more c.args.self.now.habit.now.modes c.args.self.now.knee.now.colours c.arcs_of-x-items.result.now ys c.loop-x.count c.loop-x.x-index
    c.loop-x.invariant _ c.loop-x-test.true refl c.in_ok-count.count c.args.self.now.habit_fit.fit.few_arcs (λ k. c.in_ok-count.ensures k)

pub returns : goal.returns
returns c =
    let ys = (held c.args.self.now.habit.now).arcs in
    rw (← c.arcs_of-x-items.ensures)
    (counting-done c.args.self.now.habit.now.modes c.args.self.now.knee.now.colours c.arcs_of-x-items.result.now ys c.loop-x.count c.loop-x.x-index c.loop-x.invariant
    c.loop-x-test.false)
