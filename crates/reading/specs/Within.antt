-- What the functions within promise each other, and what they are given.
use Rattle.std.specs.Prelude.{ℕ, suc, Bool, ◌||◌, List, [], ◌∷◌, ltb, Ok}
use Rattle.limits.specs.Ceilings.{draw_most, gain_most}
use Rattle.refusals.specs.declared.Refusal.TheVariants.{UnfitArc}
use Rattle.refusals.specs.Refusals.{Verdict, refuse}
use Rattle.walks.specs.Weights.{draw_of, gain_of}
use Rattle.fields.specs.Fields.{pieces_left}
use Rattle.hoa.specs.Lines.{target_of}
use Rattle.hoa.specs.Text.{Edge, colours_said, edges_from, modes_of, start_of, colours_of}
use Rattle.dimacs.specs.Lines.{weight_on}
use Rattle.filling.specs.declared.Numbers.{Numbers}
use Rattle.reading.specs.declared.Edge as found
use Rattle.reading.specs.declared.Edges.{Edges}

-- the edge on a line of the block of mode s
abbrev pub edge_on : ℕ → List ℕ → Edge
edge_on s l = record { source = s; target = target_of l; colours = colours_said l }

-- an edge as the code has it
abbrev pub edge_said : found.Edge → Edge
edge_said e = edge_on e.source e.line.now

-- the edges that a walk over them has left
abbrev pub edges_left : Edges → List Edge
edges_left w = edges_from w.source (pieces_left w.lines)

-- the weight on an `a` line is outside its range
unfoldable pub out_of_range : List ℕ → Bool
out_of_range l = ltb draw_most (draw_of (weight_on l)) || ltb gain_most (gain_of (weight_on l))

-- 5 of `a` lines, of which the first is line i: nothing else of an arc that is read can be unfit (law weights-five)
unfoldable pub weights_verdict : List (List ℕ) → ℕ → Verdict
weights_verdict [] i = Ok tt
weights_verdict (l ∷ ls) i = refuse (out_of_range l) (UnfitArc i) (weights_verdict ls (suc i))

-- what is answered of a model of HOA text with m arcs that is read
abbrev pub read_by : List (List ℕ) → ℕ → Numbers
read_by h m = record { modes = modes_of h; start = start_of h; colours = colours_of h; count = m }
