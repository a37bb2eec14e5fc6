-- `Stage::round` meets its contract: at every turn the modes below v are visited. Assumes nothing.
use native.Mathlib.Omega.{arith}
use Rattle.closing.proofs.Dues.{turned}
use Rattle.closing.proofs.Stage.round.Goals as goal

pub returns : goal.returns
returns c =
    let k = c.loop-v.invariant in
    let r = c.raise_loops.ensures in
    turned r.risen (omega arith) (rw r.same at k)
