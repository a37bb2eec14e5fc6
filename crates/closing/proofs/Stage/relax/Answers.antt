-- `Stage::relax` meets its contract: the mode is not reached, or the arc is not tried, leaves the level or stays in it. Assumes nothing.
use native.Mathlib.Omega.{arith}
use Rattle.closing.specs.Stratum.{stratum_of}
use Rattle.closing.proofs.Tries.{Tries, tried-stays}
use Rattle.closing.proofs.Stage.relax.Goals as goal

pub returns-else-stepped : goal.returns-else-stepped
returns-else-stepped c =
    let s = c.in-Some-step.stepped in
    -- the arc, as it is tried
    let k : Tries (stratum_of c.args.self.now) c.args.best.now c.args.a c.args.v c.in-Some.charge s.leaves s.mode s.charge =
    record {
      known = c.requires.leaves_mode.0;
      on = c.requires.leaves_mode.1;
      source = c.requires.leaves_mode.2;
      word = omega (arith, c.in-Some.ensures, c.in-Some.is, c.checked_sub.ensures);
      moved = c.in-Some-step.ensures;
    } in
    tried-stays k _ _ (omega (arith, k.moved.enters, c.requires.workable.0.ready.targets c.args.a k.known k.on)) c.if-stepped.false c.rise.ensures
