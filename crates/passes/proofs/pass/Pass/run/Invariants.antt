use mathlib.Core.Path.{◌≡◌}
use Prim.Native.Nat.{◌-◌}
use lib.ListN.{length}
use Rattle.passes.specs.Pass.{room}
use Rattle.passes.specs.Queue.{Treated}
use Rattle.passes.specs.Tasks.{pass_in}
use Rattle.passes.proofs.pass.Pass.run.Given as goal

abbrev pub invariant-loop-head : goal.invariant-loop-head
invariant-loop-head l =
    (length l.best ≡ length l.initial.best) × (length l.work ≡ length l.initial.work)
    × Treated (pass_in l.self) l.node l.charge l.best l.work l.head l.tail

abbrev pub decreases-loop-head : goal.decreases-loop-head
decreases-loop-head l =
    room (length l.initial.best) l.self.task.bound - l.head
