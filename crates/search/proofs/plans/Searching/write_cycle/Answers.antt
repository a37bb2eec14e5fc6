-- `Searching::write_cycle` meets its contract: the pass finds an arc that closes a cycle, and the arcs read back and that arc are the
-- cycle. Assumes nothing.
use native.Mathlib.Omega.{arith}
use Rattle.search.proofs.Written.{cycle-found, cycle-written}
use Rattle.search.proofs.plans.Searching.write_cycle.Goals as goal

pub unwrap-end-requires : goal.unwrap-end-requires
unwrap-end-requires c = cycle-found c.find_cycle.ensures c.requires.kept.2

pub bounds-part-last : goal.bounds-part-last
bounds-part-last c =
    let closed = rw c.unwrap-end.ensures at c.find_cycle.ensures.some in
    omega (arith, closed.few, c.trace-last.ensures.few, c.trace-last.auto.plan, c.requires.fits)

pub returns : goal.returns
returns c =
    let closed = rw c.unwrap-end.ensures at c.find_cycle.ensures.some in
    cycle-written closed c.trace-last.ensures (bounds-part-last c)
