-- `join::Both::count_row` meets its contract: the loop keeps `RowCounting`. Assumes nothing.
use mathlib.Core.Path.{refl, sym, ◌∙◌}
use Rattle.join.proofs.Counting.{row-counting-skip, row-counting-more, row-counting-above, row-counting-done}
use Rattle.join.proofs.Both.count_row.Goals as goal
use Rattle.join.proofs.Both.count_row.Goals.{then-x-y+else-sum_above, else-x-y}

pub returns-then-sum_above : goal.returns-then-sum_above
returns-then-sum_above c k =
    rw (← c.arcs_of-y-items.ensures)
    (row-counting-above c.args.self.now.habit.now.modes c.args.x c.arcs_of-y-items.result.now c.args.count c.loop-y.so_far c.loop-y.y-index
    c.loop-y.invariant _ c.loop-y-test.true refl c.if-x-y.true (sym c.sum_above.ensures ∙ c.if-sum_above.true) k)

pub loop-y-preserved : goal.loop-y-preserved
loop-y-preserved c =
    let n = c.args.self.now.habit.now.modes in
    let ys = c.arcs_of-y-items.result.now in
    elim c.if-x-y.branch [
      | then-x-y+else-sum_above w ↦
          rw w.so_far-is (row-counting-more n c.args.x ys c.args.count c.loop-y.so_far c.loop-y.y-index c.loop-y.invariant _ c.loop-y-test.true refl
          w.if-x-y.true (sym w.sum_above.ensures ∙ w.if-sum_above.false))
      | else-x-y w ↦
          rw w.so_far-is (row-counting-skip n c.args.x ys c.args.count c.loop-y.so_far c.loop-y.y-index c.loop-y.invariant _ c.loop-y-test.true refl
          w.if-x-y.false)
    ]

pub returns : goal.returns
returns c k =
    rw (← c.arcs_of-y-items.ensures)
    (row-counting-done c.args.self.now.habit.now.modes c.args.x c.arcs_of-y-items.result.now c.args.count c.loop-y.so_far c.loop-y.y-index c.loop-y.invariant
    c.loop-y-test.false k)
