-- `Problem::least_in` meets its contract: where the highest level fails all do, else halving finds the least. Assumes nothing.
use mathlib.Core.Path.{sym, ◌∙◌}
use mathlib.Core.Bool.{false≢true}
use Rattle.least.specs.Within.{value, none}
use Rattle.least.proofs.Halving.{none-serves}
use Rattle.least.proofs.Standing.{lasso-grows}
use Rattle.least.proofs.Problem.least_in.Goals as goal

pub returns-then-not-has_plan : goal.returns-then-not-has_plan
returns-then-not-has_plan c =
    let a = c.args in
    none (none-serves (lasso-grows a.self.now)
    (λ lasso. false≢true (sym c.if-not-has_plan.true ∙ c.has_plan.ensures.1 lasso)))

pub returns : goal.returns
returns c = value c.halve.ensures
