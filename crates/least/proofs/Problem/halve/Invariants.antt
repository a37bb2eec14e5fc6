use Prim.Native.Nat.{◌-◌}
use Rattle.least.specs.Within.{LassoAt}
use Rattle.least.proofs.Halving.{Narrowed}
use Rattle.least.proofs.Problem.halve.Given as goal

abbrev pub invariant-loop-low : goal.invariant-loop-low
invariant-loop-low l = Narrowed (LassoAt l.self) l.self.lowest l.self.highest l.low l.high

abbrev pub decreases-loop-low : goal.decreases-loop-low
decreases-loop-low l = l.high - l.low
