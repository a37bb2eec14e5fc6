-- `close` meets its contract: at every turn the table is a later one, and the modes tried have less room to rise. Assumes nothing.
use mathlib.Core.Path.{refl, ◌∙◌}
use Rattle.limits.specs.Ceilings.{modes_most}
use Rattle.closing.proofs.Dues.{closing-none, closing-done, room_falls}
use Rattle.closing.proofs.close.Goals as goal

pub loop-stage-init : goal.loop-stage-init
loop-stage-init c = (refl, closing-none _ _ _ _ _ modes_most (c.fill.ensures.after (λ y e. e)) refl)

pub loop-stage-smaller : goal.loop-stage-smaller
loop-stage-smaller c =
    let k = c.loop-stage.invariant in
    let r = c.round.ensures in
    room_falls _ _ _ (r.size_done ∙ k.0) c.requires.work.low (r.keeps _ k.1) (r.more c.loop-stage-test.true)

pub returns : goal.returns
returns c =
    let r = c.round.ensures in
    closing-done _ c.requires.work.low (r.keeps _ c.loop-stage.invariant.1) (r.settled c.loop-stage-test.false)
