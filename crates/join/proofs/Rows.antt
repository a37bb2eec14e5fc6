-- Rows of joined arcs, taken arc by arc. Assumes nothing.
use mathlib.Core.Path.{◌≡◌, refl, ap}
use mathlib.Core.Bool.{Bool, true, false}
use mathlib.Core.List.{List, [], ◌∷◌, ◌++◌}
use Prim.Native.Nat.{ℕ, suc, ◌≤◌, ◌<◌}
use native.Mathlib.Omega.{arith}
use lib.Dec.{eqb}
use lib.ListN.{length, get_or, drop, drop_of_length-le}
use lib.Seq.{drop-cons}
use Rattle.model.specs.declared.Arc.{Arc}
use Rattle.model.specs.Automaton.{no_arc}
use Rattle.join.specs.Joined.{join_arc, keep, join_row, join_arcs}

-- the row of a knee's arc x, with the habit's arcs ys from number j on; the habit has n modes, and the knee k colours
abbrev pub row_from : ℕ → ℕ → Arc → List Arc → ℕ → List Arc
row_from n k x ys j = join_row n k x (drop j ys)

module _ (n k : ℕ) (x : Arc) (ys : List Arc) (j : ℕ) where
  pub row-turn : j < length ys → let y = get_or ys j no_arc in
      row_from n k x ys j ≡ keep (eqb x.action y.action) (join_arc n k x y) (row_from n k x ys (suc j))
  unfolding join_row
  row-turn lt = ap {B = List Arc} (join_row n k x) (drop-cons ys j no_arc lt)

  pub row-end : length ys ≤ j → row_from n k x ys j ≡ []
  unfolding join_row
  row-end ge = rw (drop_of_length-le ys ge) refl

-- a row has no more arcs than the habit
module _ (n k : ℕ) (x : Arc) where
  keep-length : (t : Bool) (a : Arc) (l : List Arc) → length (keep t a l) ≤ suc (length l)
  keep-length true a l = omega arith
  keep-length false a l = omega arith

  pub row-length : (ys : List Arc) → length (join_row n k x ys) ≤ length ys
  unfolding join_row
  row-length [] = omega arith
  row-length (y ∷ ys) = omega (arith, row-length ys, keep-length (eqb x.action y.action) (join_arc n k x y) (join_row n k x ys))

-- the rows of the knee's arcs xs from number i on
abbrev pub rows_from : ℕ → ℕ → List Arc → List Arc → ℕ → List Arc
rows_from n k xs ys i = join_arcs n k (drop i xs) ys

module _ (n k : ℕ) (xs ys : List Arc) (i : ℕ) where
  pub rows-turn : i < length xs → rows_from n k xs ys i ≡ join_row n k (get_or xs i no_arc) ys ++ rows_from n k xs ys (suc i)
  unfolding join_arcs
  rows-turn lt = ap {B = List Arc} (λ (l : List Arc). join_arcs n k l ys) (drop-cons xs i no_arc lt)

  pub rows-end : length xs ≤ i → rows_from n k xs ys i ≡ []
  unfolding join_arcs
  rows-end ge = rw (drop_of_length-le xs ge) refl
