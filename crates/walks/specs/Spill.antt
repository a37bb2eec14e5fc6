-- What the bound cuts off along a walk. Document 02, Ask 2: "the sum, over the history, of what each step lost".
use Rattle.std.specs.Prelude.{Option, Some, None}
use Rattle.std.specs.Prelude.{ℕ, ◌+◌, List, [], ◌∷◌}
use Rattle.walks.specs.declared.Step.{Step}
use Rattle.walks.specs.BoundedStep.{Move, stepped}

-- what a step lost, and what is lost from the charge on that it leads to; a step that is not possible is not made, and nothing is lost
abbrev pub spilled_on : Option Step → (ℕ → ℕ) → ℕ
spilled_on (Some u) f = u.lost + f u.charge
spilled_on None f = 0

-- what a step lost
abbrev pub lost_in : Option Step → ℕ
lost_in s = spilled_on s (λ e. 0)

-- the sum of what each step lost, of the moves walked one after the other from charge e
unfoldable pub spilled : ℕ → List Move → ℕ → ℕ
spilled b [] e = 0
spilled b (m ∷ ms) e = spilled_on (stepped b m e) (spilled b ms)
