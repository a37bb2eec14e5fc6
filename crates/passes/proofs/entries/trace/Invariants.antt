use Rattle.passes.proofs.Traces.{Tracing}
use Rattle.passes.proofs.entries.trace.Given as goal

abbrev pub invariant-loop-at : goal.invariant-loop-at
invariant-loop-at l = Tracing l.work l.i l.steps l.initial.plan l.plan l.entry l.at
