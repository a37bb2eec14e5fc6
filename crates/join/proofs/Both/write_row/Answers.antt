-- `join::Both::write_row` meets its contract: the loop keeps `RowWriting`. Assumes nothing.
use mathlib.Core.Path.{refl}
use Rattle.filling.specs.Filling.{lists_lent}
use Rattle.filling.proofs.Lent.{same-then}
use Rattle.join.proofs.Writing.{row-writing-skip, row-writing-narrow, row-writing-put, row-writing-done}
use Rattle.join.proofs.Both.write_row.Goals as goal
use Rattle.join.proofs.Both.write_row.Goals.{then-x-y, else-x-y}

pub join_arc-arc-requires : goal.join_arc-arc-requires
join_arc-arc-requires c =
    let a = c.args in (
      c.requires.below,
      row-writing-narrow a.self.now.habit.now.modes a.self.now.knee.now.colours a.x c.arcs_of-y-items.result.now a.at (lists_lent a.lists.now) (lists_lent c.loop-y.lists)
          c.loop-y.i c.loop-y.y-index c.loop-y.invariant.0 _ c.loop-y-test.true refl c.if-x-y.true,
    )

pub loop-y-preserved : goal.loop-y-preserved
loop-y-preserved c =
    let a = c.args in
    elim c.if-x-y.branch [
      | then-x-y w ↦
          rw (w.lists-is, w.i-is) (
            row-writing-put a.self.now.habit.now.modes a.self.now.knee.now.colours a.x c.arcs_of-y-items.result.now a.at (lists_lent a.lists.now) (lists_lent c.loop-y.lists)
                c.loop-y.i c.loop-y.y-index c.loop-y.invariant.0 _ c.loop-y-test.true refl w.if-x-y.true (lists_lent w.write.new.self) w.join_arc-arc.ensures
                w.write.ensures.arc,
            same-then c.loop-y.invariant.1 w.write.ensures.same_lists,
          )
      | else-x-y w ↦
          rw (w.lists-is, w.i-is) (
            row-writing-skip a.self.now.habit.now.modes a.self.now.knee.now.colours a.x c.arcs_of-y-items.result.now a.at (lists_lent a.lists.now) (lists_lent c.loop-y.lists)
                c.loop-y.i c.loop-y.y-index c.loop-y.invariant.0 _ c.loop-y-test.true refl w.if-x-y.false,
            c.loop-y.invariant.1,
          )
    ]

pub returns-clause-row : goal.returns-clause-row
returns-clause-row c =
    let a = c.args in
    rw (← c.arcs_of-y-items.ensures)
    (row-writing-done a.self.now.habit.now.modes a.self.now.knee.now.colours a.x c.arcs_of-y-items.result.now a.at (lists_lent a.lists.now) (lists_lent c.loop-y.lists)
    c.loop-y.i c.loop-y.y-index c.loop-y.invariant.0 c.loop-y-test.false)
