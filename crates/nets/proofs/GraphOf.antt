-- The graph of a model says of its walks what the model's own words say, for every net over that graph: where arcs lead, and which steps
-- are possible. Assumes nothing.
use mathlib.Core.List.{List, [], ◌∷◌}
use mathlib.Core.Logic.{◌↔◌}
use Prim.Native.Nat.{ℕ, ◌<◌}
use lib.ListN.{length}
use Rattle.walks.specs.Walk.{walked, IsPossible}
use Rattle.walks.specs.Moves.{Possible}
use Rattle.walks.proofs.Walks.{walked-moves}
use Rattle.model.specs.Automaton.{Automaton, arc_at, moves_of}
use Rattle.model.specs.Plans
use Rattle.nets.specs.Graph.{moves, Leads}
use Rattle.nets.specs.Whole.{graph_of}

-- arcs lead in the model as they lead in its graph
pub leads-graph : (g : Automaton) (w : List ℕ) (s t : ℕ) → Plans.Leads g s w t ↔ Leads (graph_of g) (λ a. a < length g.arcs) s w t
leads-graph g [] s t = (λ h. h, λ h. h)
leads-graph g (a ∷ w) s t =
    let ih = leads-graph g w (arc_at g a).target t in
    (λ h. (h.0, h.1, ih.0 h.2), λ h. (h.0, h.1, ih.1 h.2))

-- the walk of the arcs is possible exactly where the moves are
pub possible-graph : (g : Automaton) (b c : ℕ) (w : List ℕ) → IsPossible (walked b (moves_of g w) c) ↔ Possible b (moves (graph_of g) w) c
possible-graph g b c w = (walked-moves b (moves_of g w) c).possible
