use mathlib.Core.Path.{◌≡◌}
use Prim.Native.Nat.{◌≤◌}
use lib.ListN.{length, drop}
use Rattle.judge.specs.Shape.{numbers}
use Rattle.judge.proofs.check_numbers.Given as goal

abbrev pub invariant-loop-i : goal.invariant-loop-i
invariant-loop-i l = (l.i ≤ length l.plan) × (numbers l.count (drop l.from l.plan) l.from ≡ numbers l.count (drop l.i l.plan) l.i)
