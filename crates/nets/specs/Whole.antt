-- The net of a whole model: every arc that is on may be used in a prefix, those of them without a barred colour in a cycle, and every required
-- colour is a duty. Document 01, "The model and the charge": "Accepted: each of the k colours stands on some arc of the round"; document 02, Ask 6: "some
-- colours may appear in the run-in and never in the round"; Ask 9: "Search .. use only arcs that are on".
use Rattle.std.specs.Prelude.{not, ◌&&◌, List, ℕ, ltb, length}
use Rattle.model.specs.Automaton.{Automaton, arc_at, bit, has_barred, move_of}
use Rattle.model.specs.Required.{required, compressed}
use Rattle.model.specs.Plans.{Plan}
use Rattle.switches.specs.Switches.{is_on}
use Rattle.nets.specs.Graph.{Graph}
use Rattle.nets.specs.Net.{Net, AcceptedLasso}

-- the graph of a model: each arc with what it draws and gains
abbrev pub graph_of : Automaton → Graph
graph_of g = record { source = λ a. (arc_at g a).source; target = λ a. (arc_at g a).target; move = λ a. move_of (arc_at g a) }

-- an arc that is there is on as the switches say; those without a barred colour are lasting; a duty is a required colour, by its place among these
abbrev pub whole : Automaton → ℕ → List ℕ → Net
whole g x on =
    record {
      graph = graph_of g;
      modes = g.modes;
      start = g.start;
      count = length g.arcs;
      on = λ a. ltb a (length g.arcs) && is_on on a;
      lasting = λ a. not (has_barred g x a);
      duties = required x g.colours;
      meets = λ j a. bit (compressed x (arc_at g a).colours) j;
    }

-- the plan with a lasso's prefix and cycle
abbrev pub lasso_plan : {g : Net} {b c : ℕ} → AcceptedLasso g b c → Plan
lasso_plan p = record { prefix = p.prefix; cycle = p.cycle }
