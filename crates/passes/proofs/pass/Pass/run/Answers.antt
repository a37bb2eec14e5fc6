-- `Pass::run` meets its contract: at every turn the entries below head are treated. Assumes nothing.
use mathlib.Core.Path.{refl, sym, ap, ◌∙◌}
use native.Mathlib.Omega.{arith}
use Rattle.passes.specs.Pass.{room}
use Rattle.passes.specs.Tasks.{pass_in}
use Rattle.passes.proofs.Queue.{queue-room, ready-some}
use Rattle.passes.proofs.Passes.{none-there, treated-first, treated-more, passed-covered}
use Rattle.passes.proofs.pass.Pass.run.Goals as goal

pub begin-requires : goal.begin-requires
begin-requires c =
    let ready = c.requires.ready in
    let h = c.requires.begins in
    let some = ready-some ready in
    (h.0, some.1, omega (arith, h.1, ready.low), some.2)

pub loop-head-init : goal.loop-head-init
loop-head-init c =
    let s = c.args in
    let h = c.requires.begins in (
      refl,
      refl,
      treated-first (pass_in s.self.now) s.node s.charge h.2 h.0 h.1 c.begin.ensures.0 c.begin.ensures.1,
    )

pub loop-head-smaller : goal.loop-head-smaller
loop-head-smaller c =
    let same = ap (λ n. room n c.args.self.now.task.bound) c.loop-head.invariant.0 in
    omega (arith, queue-room c.loop-head.invariant.2.from.queue, c.loop-head-test.true, same)

pub loop-head-preserved : goal.loop-head-preserved
loop-head-preserved c =
    let v = c.visit-outcome.ensures.visited in (
      v.grown.best_size ∙ c.loop-head.invariant.0,
      v.grown.size ∙ c.loop-head.invariant.1,
      treated-more (none-there _ (sym c.is_some.ensures ∙ c.if-is_some.false)) c.loop-head.invariant.2 c.loop-head-test.true v,
    )

pub returns : goal.returns
returns c = passed-covered c.loop-head.invariant.2 c.loop-head-test.false
