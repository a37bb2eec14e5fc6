-- `Stage::raise_loops` meets its contract: at every turn the table is a later one. Assumes nothing.
use mathlib.Core.Path.{◌≡◌}
use Rattle.closing.specs.Stratum.{stratum_of}
use Rattle.closing.specs.Tables.{Risen}
use Rattle.closing.proofs.Stage.raise_loops.Given as goal

abbrev pub invariant-loop-v : goal.invariant-loop-v
invariant-loop-v l =
    (l.notes.done ≡ l.initial.notes.done) × Risen (stratum_of l.self) l.initial.best l.best
