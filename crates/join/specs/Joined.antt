-- The joined model of a knee and a habit. Document 02, Ask 5: "The joined mode of i and j is i × n2 + j, where n2 is the habit's mode count; the
-- start modes join likewise. For each pair of arcs with equal action, knee's arc outermost, there is one joined arc".
use Rattle.std.specs.Prelude.{ℕ, ◌+◌, ◌*◌, ◌^◌, Bool, true, false, List, [], ◌∷◌, ◌++◌, eqb}
use Rattle.model.specs.declared.Arc.{Arc}
use Rattle.model.specs.Automaton.{Automaton}

-- the joined mode of i and j, where the habit has n₂ modes
abbrev pub join_mode : ℕ → ℕ → ℕ → ℕ
join_mode n₂ i j = i * n₂ + j

-- The joined arc of the knee's arc x and the habit's arc y, where the knee has k colours: "it keeps their action; draws and gains are added; the
-- habit's colour j becomes the knee's k plus j". The habit's byte stands above the knee's k bits (laws knee-colour, habit-colour).
abbrev pub join_arc : ℕ → ℕ → Arc → Arc → Arc
join_arc n₂ k x y =
    record {
      source = join_mode n₂ x.source y.source;
      target = join_mode n₂ x.target y.target;
      draw = x.draw + y.draw;
      gain = x.gain + y.gain;
      colours = x.colours + 2 ^ k * y.colours;
      action = x.action;
    }

-- an arc in front of others, where the test holds
abbrev pub keep : Bool → Arc → List Arc → List Arc
keep true a l = a ∷ l
keep false a l = l

-- a knee's arc joined with each of the habit's arcs "with equal action", in the order given
unfoldable pub join_row : ℕ → ℕ → Arc → List Arc → List Arc
join_row n₂ k x [] = []
join_row n₂ k x (y ∷ ys) = keep (eqb x.action y.action) (join_arc n₂ k x y) (join_row n₂ k x ys)

-- "knee's arc outermost": the rows of the knee's arcs, one after the other
unfoldable pub join_arcs : ℕ → ℕ → List Arc → List Arc → List Arc
join_arcs n₂ k [] ys = []
join_arcs n₂ k (x ∷ xs) ys = join_row n₂ k x ys ++ join_arcs n₂ k xs ys

-- g: the knee; h: the habit
abbrev pub joined : Automaton → Automaton → Automaton
joined g h =
    record {
      modes = g.modes * h.modes;
      start = join_mode h.modes g.start h.start;
      colours = g.colours + h.colours;
      arcs = join_arcs h.modes g.colours g.arcs h.arcs;
    }
