-- The arcs of a model as rows, by the numbers that they are given. Document 02, Ask 7: "Plans still carry the
-- given arc numbers." A row says which required colours the arc meets, whether it has a barred one (Ask 6), and whether it is on (Ask 9).
use Rattle.std.specs.Prelude.{ℕ, zero, suc, ◌-◌, ◌≡◌, Bool, false, not, List, [], ◌∷◌, ◌++◌, replicate, eqb, get_or}
use Rattle.std.specs.Int.Bits.{bit_and}
use Rattle.limits.specs.Ceilings.{arcs_most}
use Rattle.model.specs.declared.Arc.{Arc}
use Rattle.model.specs.declared.Model.{Model}
use Rattle.model.specs.Automaton.{no_arc}
use Rattle.model.specs.Required.{compressed}
use Rattle.switches.specs.Switches.{is_on}
use Rattle.groups.specs.declared.Row.{Row}

-- whether a colour byte y has a barred colour. It has no bit at or above k where the arc is one of a fit model, so that those of x do not matter
-- (theorem common-mask).
abbrev pub barred_in : ℕ → ℕ → Bool
barred_in x y = not (eqb (bit_and y x) 0)

-- the row of an arc, on or off as o says: its colours are the required ones, close together
abbrev pub row_of : ℕ → Bool → Arc → Row
row_of x o a =
    record {
      source = a.source;
      target = a.target;
      draw = a.draw;
      gain = a.gain;
      colours = compressed x a.colours;
      barred = barred_in x a.colours;
      on = o;
    }

-- what stands where no arc is
abbrev pub no_row : Row
no_row = record { source = 0; target = 0; draw = 0; gain = 0; colours = 0; barred = false; on = false }

-- the rows of m arcs
abbrev pub rows_up_to : ℕ → List ℕ → (ℕ → Arc) → ℕ → List Row
rows_up_to x on arc zero = []
rows_up_to x on arc (suc m) = rows_up_to x on arc m ++ (row_of x (is_on on m) (arc m) ∷ [])

-- the rows, and blank ones up to the end
abbrev pub rows_and : ℕ → List ℕ → (ℕ → Arc) → ℕ → List Row
rows_and x on arc m = rows_up_to x on arc m ++ replicate (arcs_most - m) no_row

-- arc a, as the code holds it
abbrev pub arc_in : Model → ℕ → Arc
arc_in g a = get_or g.arcs a no_arc

-- the rows of a model
abbrev pub rows_of : Model → ℕ → List ℕ → List Row
rows_of g x on = rows_and x on (arc_in g) g.count

-- what is read of the row of arc a
abbrev pub source_at : List Row → ℕ → ℕ
source_at w a = (get_or w a no_row).source

abbrev pub target_at : List Row → ℕ → ℕ
target_at w a = (get_or w a no_row).target

abbrev pub draw_at : List Row → ℕ → ℕ
draw_at w a = (get_or w a no_row).draw

abbrev pub gain_at : List Row → ℕ → ℕ
gain_at w a = (get_or w a no_row).gain

-- its required colours, close together
abbrev pub colours_at : List Row → ℕ → ℕ
colours_at w a = (get_or w a no_row).colours

-- whether it has a barred colour
abbrev pub barred_at : List Row → ℕ → Bool
barred_at w a = (get_or w a no_row).barred

-- whether it is on
abbrev pub on_at : List Row → ℕ → Bool
on_at w a = (get_or w a no_row).on

-- what is read of row a is the arc y, on or off as o says
pub record ReadsArc (x : ℕ) (o : Bool) (w : List Row) (a : ℕ) (y : Arc) : Type 0 where
  pub source : source_at w a ≡ y.source
  pub target : target_at w a ≡ y.target
  pub draw : draw_at w a ≡ y.draw
  pub gain : gain_at w a ≡ y.gain
  pub colours : colours_at w a ≡ compressed x y.colours
  pub barred : barred_at w a ≡ barred_in x y.colours
  pub on : on_at w a ≡ o
