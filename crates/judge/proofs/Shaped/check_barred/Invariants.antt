use mathlib.Core.Path.{◌≡◌}
use Prim.Native.Nat.{◌+◌}
use lib.ListN.{length, drop}
use Rattle.model.specs.Lists.{held}
use Rattle.judge.specs.Colours.{barred_from}
use Rattle.judge.proofs.Shaped.check_barred.Given as goal

abbrev pub invariant-loop-i : goal.invariant-loop-i
invariant-loop-i l =
    let s = l.fn.self in
    barred_from (held s.model.now) l.barred s.cycle.now (length s.prefix.now)
    ≡ barred_from (held s.model.now) l.barred (drop l.i s.cycle.now) (length s.prefix.now + l.i)
