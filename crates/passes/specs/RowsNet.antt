-- The net of arcs that stand in rows (groups Rows): what a pass, or the closing of a table, knows of a model.
use Rattle.std.specs.Prelude.{ℕ, Bool, not, List}
use Rattle.model.specs.Automaton.{bit}
use Rattle.nets.specs.Graph.{Graph}
use Rattle.nets.specs.Net.{Net}
use Rattle.groups.specs.declared.Row.{Row}
use Rattle.groups.specs.Rows.{source_at, target_at, draw_at, gain_at, colours_at, barred_at, on_at}

-- the graph of arcs by their fields
abbrev pub fields_graph : (ℕ → ℕ) → (ℕ → ℕ) → (ℕ → ℕ) → (ℕ → ℕ) → Graph
fields_graph source target draw gain = record { source = source; target = target; move = λ a. record { draw = draw a; gain = gain a } }

-- the net of n modes and m arcs by the fields of its arcs, with the start mode s and k duties; an arc with a barred colour does not last
abbrev pub fields_net : (ℕ → ℕ) → (ℕ → ℕ) → (ℕ → ℕ) → (ℕ → ℕ) → (ℕ → ℕ) → (ℕ → Bool) → (ℕ → Bool) → ℕ → ℕ → ℕ → ℕ → Net
fields_net source target draw gain colours barred on n s k m =
    record {
      graph = fields_graph source target draw gain;
      modes = n;
      start = s;
      count = m;
      on = on;
      lasting = λ a. not (barred a);
      duties = k;
      meets = λ j a. bit (colours a) j;
    }

-- the graph, and the net, of arcs that stand in rows
abbrev pub rows_graph : List Row → Graph
rows_graph rows = fields_graph (source_at rows) (target_at rows) (draw_at rows) (gain_at rows)

abbrev pub rows_net : List Row → ℕ → ℕ → ℕ → ℕ → Net
rows_net rows = fields_net (source_at rows) (target_at rows) (draw_at rows) (gain_at rows) (colours_at rows) (barred_at rows) (on_at rows)
