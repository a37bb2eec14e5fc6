-- What the functions within promise each other, and what they are given.
use Rattle.std.specs.Prelude.{ℕ, suc, ◌+◌, ◌*◌, ◌^◌, ◌≤◌, ◌<◌, List, [], ◌∷◌, length, Result, Ok}
use Rattle.limits.specs.Ceilings.{arcs_most, colours_most}
use Rattle.refusals.specs.declared.Refusal.{Refusal}
use Rattle.refusals.specs.declared.Refusal.TheVariants.{JoinSize}
use Rattle.refusals.specs.Refusals.{refuse}
use Rattle.model.specs.declared.Arc.{Arc}
use Rattle.model.specs.declared.Model.{Model}
use Rattle.model.specs.Lists.{held}
use Rattle.filling.specs.Filling.{AllNarrow}
use Rattle.join.specs.Joined.{join_row, joined}
use Rattle.join.specs.Joining.{sum_above}

-- the joined arcs of two models as the code holds them
abbrev pub joined_held : Model → Model → List Arc
joined_held g h = (joined (held g) (held h)).arcs

-- The first pass: how many arcs there are behind m others; 23 where a sum of one is above 10,000.
unfoldable pub counted : ℕ → List Arc → Result ℕ Refusal
counted m [] = Ok m
counted m (a ∷ l) = refuse (sum_above a) JoinSize (counted (suc m) l)

-- The second pass: a knee's arc, whose colour byte has no bit at or above k, which is at most 4
pub record Below (k : ℕ) (x : Arc) : Type 0 where
  pub few : k ≤ colours_most
  pub colours : x.colours < 2 ^ k

-- two colour bytes, of which the second goes above the k bits of the first
pub record ColoursFit (x y k : ℕ) : Type 0 where
  pub few : k ≤ colours_most
  pub below : x < 2 ^ k
  pub fits : x + 2 ^ k * y < 256

-- the row of an arc of the knee g that can be written from place i on
pub record RowFits (g : Model) (x : Arc) (h : Model) (i : ℕ) : Type 0 where
  pub below : Below g.colours x
  pub narrow : AllNarrow (join_row h.modes g.colours x (held h).arcs)
  pub few : i + length (join_row h.modes g.colours x (held h).arcs) ≤ arcs_most

-- two models whose joined arcs can be written
pub record AllFit (g h : Model) : Type 0 where
  pub narrow : AllNarrow (joined_held g h)
  pub few : length (joined_held g h) ≤ arcs_most
