-- What the inner functions are given and answer, once none of 1 to 8 applies. No public promise rests on these words.
use Rattle.std.specs.Prelude.{ℕ, ◌≤◌, Result, Ok, Err}
use Rattle.limits.specs.Ceilings.{decide_bound_most, decide_space}
use Rattle.refusals.specs.declared.Refusal.{Refusal}
use Rattle.refusals.specs.Refusals.{Verdict, and_then}
use Rattle.model.specs.declared.Model.{Model}
use Rattle.model.specs.Lists.{Lists}
use Rattle.model.specs.Fitness.{Holds, fitted_of, levels_within}
use Rattle.decide.specs.Decide.{space_of}

-- the model that 1 to 5 let through, where a further check of it says yes
abbrev pub checked_with : (Model → Verdict) → Result Model Refusal → Result Model Refusal
checked_with check (Ok g) = and_then (check g) (Ok g)
checked_with check (Err r) = Err r

-- 1 to 6 and 8, and the model
abbrev pub checked_of : ℕ → ℕ → ℕ → Lists → ℕ → ℕ → ℕ → Result Model Refusal
checked_of n s k l b c words =
    checked_with (λ g. and_then (levels_within decide_bound_most b c) (space_of g.modes g.colours words)) (fitted_of n s k l)

-- the value holds a fit model, and neither 6 nor 8 applies
pub record Answerable (g : Model) (b c words : ℕ) : Type 0 where
  pub holds : Holds g
  pub credit : c ≤ b
  pub low : b ≤ decide_bound_most
  pub space : decide_space g.colours g.modes ≤ words
