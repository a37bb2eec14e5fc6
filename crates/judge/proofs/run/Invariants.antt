use mathlib.Core.Path.{◌≡◌}
use Prim.Native.Nat.{◌+◌}
use lib.ListN.{drop}
use Rattle.model.specs.Lists.{held}
use Rattle.judge.specs.Charges.{ran}
use Rattle.judge.proofs.run.Given as goal

abbrev pub invariant-loop-i : goal.invariant-loop-i
invariant-loop-i l = ran (held l.model) l.bound l.arcs l.step l.charge ≡ ran (held l.model) l.bound (drop l.i l.arcs) (l.step + l.i) l.reached
