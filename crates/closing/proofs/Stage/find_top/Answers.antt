-- `Stage::find_top` meets its contract: at every turn the walk stands somewhere on the loop. Assumes nothing.
use Rattle.closing.proofs.Climbs.{circling-more, circling-top}
use Rattle.closing.proofs.Stage.find_top.Goals as goal

pub loop-arc-preserved : goal.loop-arc-preserved
loop-arc-preserved c = circling-more c.loop-arc.invariant c.in_ok-stepped.ensures c.charge_after-high.ensures

pub returns-then-charge-e : goal.returns-then-charge-e
returns-then-charge-e c = circling-top c.requires.1 c.loop-arc.invariant c.if-mode-v.true c.if-charge-e.true
