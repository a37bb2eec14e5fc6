-- The arcs of a model with one weight for each. Document 02, Ask 4: "An old weight w means draw −w, gain 0 where w is negative, else draw 0,
-- gain w". Assumes nothing.
use mathlib.Core.Path.{◌≡◌, refl, ap}
use mathlib.Core.List.{List}
use Prim.Native.Nat.{ℕ}
use lib.IntN.{ℤ, pos}
use lib.ListN.{get_or, get_or-map}
use Rattle.walks.specs.BoundedStep.{Move}
use Rattle.walks.specs.Weights.{draw_of, gain_of, move_of_weight}
use Rattle.model.specs.Automaton.{move_of}
use Rattle.model.specs.Lists.{weighted, arc_of}

module _ (ss ts : List ℕ) (ws : List ℤ) (cs xs : List ℕ) (a : ℕ) where
  -- arc a
  weighted-arc : arc_of (weighted ss ts ws cs xs) a
      ≡ record {
        source = get_or ss a 0;
        target = get_or ts a 0;
        draw = draw_of (get_or ws a (pos 0));
        gain = gain_of (get_or ws a (pos 0));
        colours = get_or cs a 0;
        action = get_or xs a 0;
      }
  weighted-arc = rw (get_or-map draw_of ws a (pos 0), get_or-map gain_of ws a (pos 0)) refl

  -- it draws and gains what its weight does
  pub weighted-move : move_of (arc_of (weighted ss ts ws cs xs) a) ≡ move_of_weight (get_or ws a (pos 0))
  weighted-move = ap {B = Move} move_of weighted-arc
