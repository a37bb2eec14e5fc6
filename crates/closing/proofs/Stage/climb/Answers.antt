-- `Stage::climb` meets its contract: at every turn the table is climbed so far. Assumes nothing.
use native.Mathlib.Omega.{arith}
use Rattle.closing.proofs.Climbs.{climbing-more, steps-inside}
use Rattle.closing.proofs.Stage.climb.Goals as goal

pub loop-arc-preserved : goal.loop-arc-preserved
loop-arc-preserved c =
    let k = c.loop-arc.invariant in
    let s = c.in-Some-step_from.ensures in
    climbing-more _ _ (omega (arith, (steps-inside c.requires.0 s).0, k.climbed.size)) k s c.rise.ensures
