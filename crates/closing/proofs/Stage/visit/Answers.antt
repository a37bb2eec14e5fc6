-- `Stage::visit` meets its contract. Assumes nothing.
use native.Mathlib.Omega.{arith}
use Rattle.closing.proofs.Dues.{rounded-due}
use Rattle.closing.proofs.Stage.visit.Goals as goal

pub returns : goal.returns
returns c = rounded-due _ (omega (arith, c.requires.0.work.ready.few_modes, c.requires.1)) c.if-word-notes.false c.expand.ensures
