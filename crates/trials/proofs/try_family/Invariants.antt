-- `try_family` is safe: each model adds 1 to one of the three counts. Assumes nothing.
use Rattle.std.proofs.Common.{◌+◌, ◌≤◌}
use Rattle.trials.proofs.try_family.Given as goal

abbrev pub invariant-loop-i : goal.invariant-loop-i
invariant-loop-i l = l.plans + l.none + l.differences ≤ l.i
