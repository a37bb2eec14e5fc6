use Rattle.std.specs.Prelude.{None}
use Prim.Native.Nat.{◌%◌}
use Rattle.groups.specs.Grouped.{first_place}
use Rattle.passes.specs.Queue.{node_at, charge_at, Tried}
use Rattle.passes.specs.Tasks.{pass_in}
use Rattle.passes.proofs.pass.Pass.visit.Given as goal

abbrev pub invariant-loop-i : goal.invariant-loop-i
invariant-loop-i l =
    Tried (pass_in l.self) l.initial.best l.initial.work l.tail (first_place l.self.groups.now.places (node_at l.initial.work l.head % l.self.task.modes)) l.i (node_at l.initial.work l.head)
    (charge_at l.initial.work l.head) l.best l.work None l.entries
