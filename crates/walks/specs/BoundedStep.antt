-- The bounded step. Document 02, Ask 4: "An arc now has a draw and a gain .. It is possible where the charge is at least the draw, and then takes
-- e to the smaller of e − draw + gain and b." Ask 2: "The addition under the bound now also tells what it cut off."
use Rattle.std.specs.Prelude.{Option, Some, None}
use Rattle.std.specs.Prelude.{ℕ, ◌+◌, ◌-◌, min, Bool, true, false, leb}
use Rattle.walks.specs.declared.Step.{Step}

-- draws first, then gains
pub record Move : Type 0 where
  pub draw : ℕ
  pub gain : ℕ

-- the charge after a possible move, under the bound b
abbrev pub after : ℕ → Move → ℕ → ℕ
after b m e = min (e - m.draw + m.gain) b

-- what a possible move loses: the part of e - draw + gain above the bound
abbrev pub lost : ℕ → Move → ℕ → ℕ
lost b m e = e - m.draw + m.gain - b

-- a possible step: the charge that it leads to, and what the bound cut off
abbrev pub to : ℕ → ℕ → Option Step
to e l = Some (record { charge = e; lost = l })

abbrev pub possible_if : Bool → Option Step → Option Step
possible_if true s = s
possible_if false s = None

-- the step by the move m from charge e, under the bound b: possible where the charge is at least the draw
unfoldable pub stepped : ℕ → Move → ℕ → Option Step
stepped b m e = possible_if (leb m.draw e) (to (after b m e) (lost b m e))
