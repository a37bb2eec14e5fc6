-- The model. Document 01, "The model and the charge": "A model has n modes, 0 to n−1, a start mode, k colours (duties), and m arcs, numbered
-- from 0 in the order given." Document 001, Definition 2.1: a weighted, transition-based, generalised Büchi automaton.
use Rattle.std.specs.Prelude.{ℕ, zero, suc, ◌/◌, ◌%◌, ◌^◌, Bool, false, ◌&&◌, ◌||◌, List, map, eqb, get_or}
use Rattle.walks.specs.BoundedStep.{Move}
use Rattle.model.specs.declared.Arc.{Arc}

-- modes: document 01's n; colours: its k; arcs: the m arcs, in the order given
pub record Automaton : Type 0 where
  pub modes : ℕ
  pub start : ℕ
  pub colours : ℕ
  pub arcs : List Arc

-- what stands for an arc that is not there
abbrev pub no_arc : Arc
no_arc = record { source = 0; target = 0; draw = 0; gain = 0; colours = 0; action = 0 }

-- the arc with number a
abbrev pub arc_at : Automaton → ℕ → Arc
arc_at g a = get_or g.arcs a no_arc

-- bit j of a number
abbrev pub bit : ℕ → ℕ → Bool
bit x j = eqb (x / 2 ^ j % 2) 1

-- "a colour byte whose bit j (j below k) says that the arc meets colour j"
abbrev pub meets : Automaton → ℕ → ℕ → Bool
meets g j a = bit (arc_at g a).colours j

-- two bytes have a bit in common, below k
abbrev pub common : ℕ → ℕ → ℕ → Bool
common x y zero = false
common x y (suc k) = bit x k && bit y k || common x y k

-- arc a has a barred colour. Document 02, Ask 6: "A byte names these barred colours; its bits at or above k are ignored." In all definitions
-- this byte is x.
abbrev pub has_barred : Automaton → ℕ → ℕ → Bool
has_barred g x a = common x (arc_at g a).colours g.colours

-- what an arc draws and gains
abbrev pub move_of : Arc → Move
move_of a = record { draw = a.draw; gain = a.gain }

-- the moves of the arcs with these numbers
abbrev pub moves_of : Automaton → List ℕ → List Move
moves_of g w = map (λ a. move_of (arc_at g a)) w
