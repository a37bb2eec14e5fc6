use mathlib.Core.Path.{◌≡◌}
use Prim.Native.Nat.{◌+◌, ◌-◌, ◌*◌}
use lib.ListN.{length}
use Rattle.limits.specs.Ceilings.{modes_most}
use Rattle.passes.specs.Queue.{sum}
use Rattle.closing.specs.Stratum.{stratum_of}
use Rattle.closing.specs.Tables.{Closing}
use Rattle.closing.proofs.close.Given as goal

abbrev pub invariant-loop-stage : goal.invariant-loop-stage
invariant-loop-stage l =
    (length l.notes.done ≡ modes_most) × Closing (stratum_of l.stage) l.initial.best l.best l.later l.notes.done

abbrev pub decreases-loop-stage : goal.decreases-loop-stage
decreases-loop-stage l = modes_most * (l.stage.level.bound + 1) - sum l.notes.done
