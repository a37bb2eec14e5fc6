-- `Searching::write_prefix` meets its contract: at the beginning the prefix is empty; else the pass finds an arc that comes to the peak, and the arcs read
-- back and that arc are the prefix. Assumes nothing.
use native.Mathlib.Omega.{arith}
use Rattle.search.proofs.Written.{prefix-none, prefix-written}
use Rattle.search.proofs.plans.Searching.write_prefix.Goals as goal

pub returns-then-peak-self : goal.returns-then-peak-self
returns-then-peak-self c = prefix-none _ c.if-mode-self.true c.if-peak-self.true

pub bounds-plan-last : goal.bounds-plan-last
bounds-plan-last c =
    omega (arith, c.find_prefix-end.ensures.few, c.trace-last.ensures.few, c.trace-last.auto.plan, c.requires.fits)

pub returns : goal.returns
returns c = prefix-written c.find_prefix-end.ensures c.trace-last.ensures (bounds-plan-last c)
