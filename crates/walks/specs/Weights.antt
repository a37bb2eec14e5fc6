-- What a weight means, and the step with it, which no code follows. Document 01, "The model and the charge": "A step on an arc with weight w takes
-- charge e to the smaller of e + w and b. It is possible only where e + w is at least 0. Exactly 0 is allowed." Document 02, Ask 4: "An old weight w
-- means draw −w, gain 0 where w is negative, else draw 0, gain w". The law stepped-weight says that the step with a weight is the bounded step by
-- its move.
use Rattle.std.specs.Prelude.{Option, None}
use Rattle.std.specs.Prelude.{ℕ, suc, ◌-◌, min, ℤ, pos, negsuc, ◌+ℤ◌}
use Rattle.walks.specs.declared.Step.{Step}
use Rattle.walks.specs.BoundedStep.{to}
use Rattle.walks.specs.BoundedStep.{Move}

-- what a weight takes from the charge
abbrev pub draw_of : ℤ → ℕ
draw_of (pos x) = 0
draw_of (negsuc x) = suc x

-- what a weight gives to the charge
abbrev pub gain_of : ℤ → ℕ
gain_of (pos x) = x
gain_of (negsuc x) = 0

abbrev pub move_of_weight : ℤ → Move
move_of_weight w = record { draw = draw_of w; gain = gain_of w }

-- a sum of charge and weight, under the bound b: at least 0, it leads to the smaller of the sum and b, and what the sum has above b is
-- lost; below 0, it is not possible
abbrev pub clipped : ℕ → ℤ → Option Step
clipped b (pos x) = to (min x b) (x - b)
clipped b (negsuc x) = None

-- the step with weight w from charge e, under the bound b
unfoldable pub weighed : ℕ → ℤ → ℕ → Option Step
weighed b w e = clipped b (pos e +ℤ w)
