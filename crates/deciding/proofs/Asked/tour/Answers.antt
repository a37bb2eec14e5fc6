-- `Asked::tour` meets its contract: at every turn the levels below are closed. Assumes nothing.
use mathlib.Core.Path.{◌≡◌}
use native.Mathlib.Omega.{arith}
use Rattle.deciding.proofs.Tours.{touring-more, touring-done, last-max}
use Rattle.deciding.proofs.Asked.tour.Goals as goal

pub loop-level-preserved : goal.loop-level-preserved
loop-level-preserved c =
    let able = c.requires.0 in
    let e = c.enter_next.ensures in
    touring-more able c.loop-level.invariant (rw c.first_place-arcs.ensures at c.level_of.ensures) e.closes e.size
    (omega (arith, c.loop-level-test.true, last-max c.args.self.now.question.duties)) c.requires.1

pub returns : goal.returns
returns c =
    let able = c.requires.0 in
    let l : c.max-last.result ≡ c.loop-level.level = omega arith in
    touring-done able c.loop-level.invariant (rw (c.first_place-arcs.ensures, l) at c.level_of-2.ensures) c.close_last.ensures.closes
    (omega (arith, c.loop-level-test.false, last-max c.args.self.now.question.duties))
