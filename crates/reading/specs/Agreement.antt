-- Two texts that agree. Document 02, Ask 1: "texts that disagree in n, m or an edge's ends are 21"; "The i-th `a` line belongs to the i-th edge."
use Rattle.std.specs.Prelude.{ℕ, suc, Bool, true, false, ◌&&◌, List, [], ◌∷◌, eqb}
use Rattle.hoa.specs.Text.{Edge, edges_of}
use Rattle.hoa.specs.Text as hoa
use Rattle.dimacs.specs.Text.{TextArc, text_arcs_of}
use Rattle.dimacs.specs.Text as dimacs

-- the same ends; `a` lines count modes from 1
abbrev pub same_ends : Edge → TextArc → Bool
same_ends e a = eqb (suc e.source) a.from && eqb (suc e.target) a.to

-- as many edges as `a` lines, with the same ends
unfoldable pub all_same : List Edge → List TextArc → Bool
all_same [] [] = true
all_same [] (a ∷ l) = false
all_same (e ∷ es) [] = false
all_same (e ∷ es) (a ∷ l) = same_ends e a && all_same es l

-- 21 does not apply to texts of these lines
unfoldable pub agree : List (List ℕ) → List (List ℕ) → Bool
agree h d = eqb (hoa.modes_of h) (dimacs.modes_of d) && all_same (edges_of h) (text_arcs_of d)
