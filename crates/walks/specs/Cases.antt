-- The bounded step written out as cases. Document 02, Ask 10: "named cases: too little charge, below the bound, exactly the bound, above it."
-- Document 001, section 2: eᵢ₊₁ = min (b, eᵢ + wᵢ), "only up to the maximum bound b; increases above b are discarded", and the run is feasible where
-- all are at least 0. Here e - draw + gain stands in place of eᵢ + wᵢ, and it is at least 0 where the charge is at least the draw.
use Rattle.std.specs.Prelude.{Option, None}
use Rattle.std.specs.Prelude.{◌≡◌, cond, ℕ, ◌+◌, ◌-◌, ◌≤◌, ◌<◌, leb, ltb, eqb, ℤ, pos, negsuc, ◌+ℤ◌}
use Rattle.walks.specs.declared.Step.{Step}
use Rattle.walks.specs.BoundedStep.{to}
use Rattle.walks.specs.declared.StepCase.{StepCase}
use Rattle.walks.specs.declared.StepCase.TheVariants.{TooLittle, Below, Exactly, Above}
use Rattle.walks.specs.BoundedStep.{Move}

-- the charge e and the move m fall under a case, with the bound b: each case as a fact over the numbers
abbrev pub Falls : StepCase → ℕ → Move → ℕ → Type 0
Falls TooLittle b m e = e < m.draw
Falls Below b m e = (m.draw ≤ e) × (e - m.draw + m.gain < b)
Falls Exactly b m e = (m.draw ≤ e) × (e - m.draw + m.gain ≡ b)
Falls Above b m e = (m.draw ≤ e) × (b < e - m.draw + m.gain)

-- "any charge, draw, gain and bound fall under exactly one of them": under one, and under no other
abbrev pub FallsUnderOne : ℕ → Move → ℕ → Type 0
FallsUnderOne b m e = (x : StepCase) × Falls x b m e × ((y : StepCase) → Falls y b m e → y ≡ x)

-- the case of a sum that is at least 0
abbrev pub bound_case : ℕ → ℕ → StepCase
bound_case b x = cond (ltb x b) Below (cond (eqb x b) Exactly Above)

-- the case that they fall under
unfoldable pub step_case : ℕ → Move → ℕ → StepCase
step_case b m e = cond (leb m.draw e) (bound_case b (e - m.draw + m.gain)) TooLittle

-- the step in each case
abbrev pub step_in : StepCase → ℕ → Move → ℕ → Option Step
step_in TooLittle b m e = None
step_in Below b m e = to (e - m.draw + m.gain) 0
step_in Exactly b m e = to b 0
step_in Above b m e = to b (e - m.draw + m.gain - b)

-- the case of document 001's sum, which may be below 0
abbrev pub sum_case : ℕ → ℤ → StepCase
sum_case b (pos x) = bound_case b x
sum_case b (negsuc x) = TooLittle

-- the case of the charge e and a weight w, whose sum is e + w
unfoldable pub weight_case : ℕ → ℤ → ℕ → StepCase
weight_case b w e = sum_case b (pos e +ℤ w)
