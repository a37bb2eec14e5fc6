-- What two texts say of a model, by the places of their lines, counted from 0. Document 02, Ask 1: "From HOA take, one to a line .."; "From DIMACS
-- take .."; "The i-th `a` line belongs to the i-th edge."
use Rattle.std.specs.Prelude.{◌≡◌, List, ℕ, suc, ◌+◌, ◌-◌, ◌<◌, length}
use Rattle.walks.specs.Weights.{draw_of, gain_of}
use Rattle.model.specs.declared.Arc.{Arc}
use Rattle.model.specs.Automaton.{Automaton, arc_at, bit}
use Rattle.fields.specs.Fields.{line_of, number_after}
use Rattle.hoa.specs.Words.{states_word, start_word, accept_word}
use Rattle.hoa.specs.Text.{Edge, contains}
use Rattle.hoa.specs.Edges.{edge_lines, EdgeAt}
use Rattle.dimacs.specs.Lines.{modes_on, count_on, from_on, to_on, weight_on}
use Rattle.dimacs.specs.Text.{comments, problem_line}

-- the `a` line of arc i: the i-th line behind the `p` line
abbrev pub arc_line : List (List ℕ) → ℕ → List ℕ
arc_line d i = line_of d (suc (comments d) + i)

-- The lines h of HOA text and d of DIMACS text say of arc i that it is a. EdgeAt has the places of the edge's line and of its `State:` line.
pub record ArcSaid (h d : List (List ℕ)) (i : ℕ) (a : Arc) : Type 0 where
  pub edge : Edge
  pub at : EdgeAt h i edge
  pub source : a.source ≡ edge.source
  pub target : a.target ≡ edge.target
  -- "a colour byte whose bit j .. says that the arc meets colour j"
  pub colours : (j : ℕ) → bit a.colours j ≡ contains j edge.colours
  -- "modes counted from 1"
  pub from : suc a.source ≡ from_on (arc_line d i)
  pub to : suc a.target ≡ to_on (arc_line d i)
  pub draw : a.draw ≡ draw_of (weight_on (arc_line d i))
  pub gain : a.gain ≡ gain_of (weight_on (arc_line d i))
  -- Ask 5: "always 0 in files"
  pub action : a.action ≡ 0

-- They say of the whole model that it is g: the numbers on its lines, as many arcs as edges and as the `p` line says, and each arc.
pub record Said (h d : List (List ℕ)) (g : Automaton) : Type 0 where
  pub modes : g.modes ≡ number_after states_word (line_of h 1)
  pub start : g.start ≡ number_after start_word (line_of h 2)
  pub colours : g.colours ≡ number_after accept_word (line_of h 4)
  pub modes_too : g.modes ≡ modes_on (problem_line d)
  pub edges : length g.arcs ≡ edge_lines h (length h - 7)
  pub count : length g.arcs ≡ count_on (problem_line d)
  pub arcs : (i : ℕ) → i < length g.arcs → ArcSaid h d i (arc_at g i)
