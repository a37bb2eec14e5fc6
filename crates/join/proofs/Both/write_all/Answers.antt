-- `join::Both::write_all` meets its contract: the loop keeps `AllWriting`. Assumes nothing.
use mathlib.Core.Path.{refl}
use Prim.Native.Nat.{◌≤◌}
use Rattle.limits.specs.Ceilings.{arcs_most}
use Rattle.model.specs.Lists.{held}
use Rattle.model.specs.Automaton.{no_arc}
use lib.ListN.{length, get_or}
use Rattle.filling.specs.Filling.{lists_lent}
use Rattle.filling.proofs.Lent.{same-then}
use Rattle.join.specs.Joined.{join_arcs}
use Rattle.join.proofs.Writing.{arc-below, row-narrow, row-few, all-writing-more, all-writing-done}
use Rattle.join.proofs.Both.write_all.Goals as goal

pub write_row-at-requires : goal.write_row-at-requires
write_row-at-requires c =
    let n = c.args.self.now.habit.now.modes in
    let k = c.args.self.now.knee.now.colours in
    let xs = c.arcs_of-x-items.result.now in
    let ys = (held c.args.self.now.habit.now).arcs in
    let old = lists_lent c.args.lists.now in
    let now = lists_lent c.loop-x.lists in
    let x = get_or xs c.loop-x.x-index no_arc in
    let few : length (join_arcs n k xs ys) ≤ arcs_most = rw c.arcs_of-x-items.ensures c.requires.few in
    record {
      below = arc-below c.args.self.now.knee.now c.args.self.now.knee_fit xs c.arcs_of-x-items.ensures c.loop-x.x-index c.loop-x-test.true;
      narrow = row-narrow n k xs ys old now c.loop-x.at c.loop-x.x-index c.loop-x.invariant.0 x c.loop-x-test.true refl;
      few = row-few n k xs ys old now c.loop-x.at c.loop-x.x-index c.loop-x.invariant.0 x c.loop-x-test.true refl few;
    }

pub loop-x-preserved : goal.loop-x-preserved
loop-x-preserved c =
    let n = c.args.self.now.habit.now.modes in
    let k = c.args.self.now.knee.now.colours in
    let xs = c.arcs_of-x-items.result.now in
    let ys = (held c.args.self.now.habit.now).arcs in (
      all-writing-more n k xs ys (lists_lent c.args.lists.now) (lists_lent c.loop-x.lists) c.loop-x.at c.loop-x.x-index c.loop-x.invariant.0 _
          c.loop-x-test.true refl c.write_row-at.result (lists_lent c.write_row-at.new.lists) c.write_row-at.ensures.row,
      same-then c.loop-x.invariant.1 c.write_row-at.ensures.same_lists,
    )

pub returns-clause-all : goal.returns-clause-all
returns-clause-all c =
    let n = c.args.self.now.habit.now.modes in
    let k = c.args.self.now.knee.now.colours in
    let xs = c.arcs_of-x-items.result.now in
    let ys = (held c.args.self.now.habit.now).arcs in
    rw (← c.arcs_of-x-items.ensures)
    (all-writing-done n k xs ys (lists_lent c.args.lists.now) (lists_lent c.loop-x.lists) c.loop-x.at c.loop-x.x-index c.loop-x.invariant.0
    c.loop-x-test.false)
