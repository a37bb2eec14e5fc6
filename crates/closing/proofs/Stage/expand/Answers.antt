-- `Stage::expand` meets its contract: at every turn the arcs at the places below i are tried. Assumes nothing.
use native.Mathlib.Omega.{arith}
use Rattle.groups.specs.Grouped.{InGroup}
use Rattle.closing.proofs.Tries.{expanding-more}
use Rattle.closing.proofs.Stage.expand.Goals as goal

pub loop-i-preserved : goal.loop-i-preserved
loop-i-preserved c =
    let q = c.arc_placed.ensures in
    -- place i is one of mode v's
    let placed : InGroup c.args.self.now.groups.now.places c.args.v c.loop-i.i =
    record {
      from = omega (arith, c.loop-i.auto.i, c.first_place-first.ensures);
      below = omega (arith, c.loop-i-test.true, c.first_place-end.ensures);
    } in
    expanding-more _ _ _ _ q (rw q (c.requires.placed.0.leaves c.args.v c.loop-i.i c.requires.placed.1 placed)) c.loop-i.invariant c.relax.ensures
