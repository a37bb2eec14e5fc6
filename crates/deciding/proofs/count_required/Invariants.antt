use mathlib.Core.Path.{◌≡◌}
use Rattle.model.specs.Required.{required}
use Rattle.deciding.proofs.count_required.Given as goal

abbrev pub invariant-loop-j : goal.invariant-loop-j
invariant-loop-j l = l.count ≡ required l.barred l.j
