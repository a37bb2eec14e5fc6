use Rattle.planwalk.proofs.Walking.{Stepping}
use Rattle.planwalk.proofs.step_until.Given as goal

abbrev pub invariant-loop-steps : goal.invariant-loop-steps
invariant-loop-steps l = Stepping l.model l.j l.plan l.p l.allowance l.at l.steps
