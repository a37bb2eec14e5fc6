use mathlib.Core.Path.{◌≡◌}
use lib.ListN.{length}
use Rattle.passes.specs.Queue.{sum}
use Rattle.deciding.specs.Deciding.{asked_net}
use Rattle.deciding.proofs.Kept.{Deciding}
use Rattle.deciding.proofs.Asked.sift_all.Given as goal

abbrev pub invariant-loop : goal.invariant-loop
invariant-loop l =
    (length l.set ≡ length l.initial.set) × Deciding (asked_net l.self.groups.now.rows l.self.groups.now.places l.self.question (length l.initial.set)) l.self.question.bound l.self.question.credit l.set

abbrev pub decreases-loop : goal.decreases-loop
decreases-loop l = sum l.set
