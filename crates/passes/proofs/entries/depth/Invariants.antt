use Prim.Native.Nat.{ℕ, ◌+◌, ◌≤◌}
use Rattle.passes.specs.Trace.{Chain}
use Rattle.passes.proofs.entries.depth.Given as goal

abbrev pub invariant-loop-j : goal.invariant-loop-j
invariant-loop-j l = (l.j + l.steps ≤ l.i) × ((k : ℕ) → Chain l.work l.j k → Chain l.work l.i (k + l.steps))

abbrev pub decreases-loop-j : goal.decreases-loop-j
decreases-loop-j l = l.j
