-- What the inner functions are given and answer: the checks with the model that is handed back, and, once none of 1 to 8 applies, halving over the rows and groups of
-- the model. No public promise rests on these words.
use Rattle.std.specs.Prelude.{ℕ, ◌+◌, ◌*◌, ◌≤◌, Result, Ok, Err}
use Rattle.limits.specs.Ceilings.{product_most}
use Rattle.refusals.specs.declared.Refusal.{Refusal}
use Rattle.refusals.specs.declared.Refusal.TheVariants.{NoPlan}
use Rattle.refusals.specs.Refusals.{and_then}
use Rattle.model.specs.declared.Model.{Model}
use Rattle.model.specs.Lists.{Lists}
use Rattle.model.specs.Fitness.{Holds, fitted_of}
use Rattle.nets.specs.Net.{AcceptedLasso}
use Rattle.deciding.specs.declared.Question.{Question}
use Rattle.deciding.specs.Deciding.{asked_net, Decidable}
use Rattle.decide.specs.Within.{checked_with}
use Rattle.least.specs.declared.Sought.{Sought}
use Rattle.least.specs.declared.Sought.TheVariants.{Credit, Bound}
use Rattle.least.specs.declared.Problem.{Problem}
use Rattle.least.specs.Least.{LeastFound, bound_at, credit_at, Least, NoneServes, level_of, space_of}

-- 1 to 8, and the model
abbrev pub checked_of : Sought → ℕ → ℕ → ℕ → Lists → ℕ → ℕ → Result Model Refusal
checked_of s n start k l given words = checked_with (λ g. and_then (level_of s given) (space_of s g.modes g.colours given words)) (fitted_of n start k l)

-- the value holds a fit model, and 7 does not apply
pub record Answerable (g : Model) (given : ℕ) : Type 0 where
  pub holds : Holds g
  pub product : g.modes * (given + 1) ≤ product_most

-- the lowest level that is looked at; the highest is `largest_tried`
abbrev pub lowest_tried : Sought → ℕ → ℕ
lowest_tried Credit given = 0
lowest_tried Bound given = given

-- what is asked of the decision with the level y
abbrev pub question_at : Problem → ℕ → Question
question_at p y =
    record {
      start = p.start;
      duties = p.duties;
      credit = credit_at p.sought p.known y;
      bound = bound_at p.sought p.known y;
    }

-- the net of rows and groups has an accepted lasso with the level y
unfoldable pub LassoAt : Problem → ℕ → Type 0
LassoAt p y =
    AcceptedLasso (asked_net p.groups.now.rows p.groups.now.places (question_at p y) p.modes) (bound_at p.sought p.known y) (credit_at p.sought p.known y)

-- a level of the range
abbrev pub InRange : Problem → ℕ → Type 0
InRange p y = (p.lowest ≤ y) × (y ≤ p.highest)

-- every level of the range can be decided
pub record Decidables (p : Problem) : Type 0 where
  pub order : p.lowest ≤ p.highest
  pub each : (y : ℕ) → InRange p y → Decidable p.groups.now.rows p.groups.now.places (question_at p y) p.modes

-- what is answered: the least level that serves, or 10 where none does
pub data Answered (Allow Serves : ℕ → Type 0) : LeastFound → Type 0 where
  value : {m : ℕ} → Least Allow Serves m → Answered Allow Serves (Ok m)
  none : NoneServes Allow Serves → Answered Allow Serves (Err NoPlan)
