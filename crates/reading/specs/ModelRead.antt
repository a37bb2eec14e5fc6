-- The model that two texts define. Document 02, Ask 1: "The model read is the one the two texts define"; Ask 4: "An old weight w means draw −w, gain 0
-- where w is negative, else draw 0, gain w; .. and files are read this way".
use Rattle.std.specs.Prelude.{ℕ, List, [], ◌∷◌}
use Rattle.walks.specs.Weights.{draw_of, gain_of}
use Rattle.model.specs.declared.Arc.{Arc}
use Rattle.model.specs.Automaton.{Automaton}
use Rattle.fields.specs.Fields.{lines_of}
use Rattle.hoa.specs.Text.{Edge, edges_of, modes_of, start_of, colours_of, colour_byte}
use Rattle.dimacs.specs.Text.{TextArc, text_arcs_of}

-- the arc of an edge and its `a` line; Ask 5: "an action byte .. (always 0 in files ..)"
abbrev pub arc_read : Edge → TextArc → Arc
arc_read e a =
    record {
      source = e.source;
      target = e.target;
      draw = draw_of a.weight;
      gain = gain_of a.weight;
      colours = colour_byte e.colours;
      action = 0;
    }

-- "The i-th `a` line belongs to the i-th edge."
unfoldable pub arcs_read : List Edge → List TextArc → List Arc
arcs_read [] l = []
arcs_read (e ∷ es) [] = []
arcs_read (e ∷ es) (a ∷ l) = arc_read e a ∷ arcs_read es l

-- the model of the lines h of HOA text and d of DIMACS text
abbrev pub model_in : List (List ℕ) → List (List ℕ) → Automaton
model_in h d = record { modes = modes_of h; start = start_of h; colours = colours_of h; arcs = arcs_read (edges_of h) (text_arcs_of d) }

-- the model of two texts
abbrev pub model_read : List ℕ → List ℕ → Automaton
model_read hoa dimacs = model_in (lines_of hoa) (lines_of dimacs)
