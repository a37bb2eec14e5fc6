-- Accumulated weights and feasible runs, over the integers, which no code follows. Document 001, section 2: for a run with the weights w₁, w₂, ..,
-- "the (c, b)-accumulated weights .. are the elements of the finite or infinite sequence .. (e₁, e₂, ..) defined by e₁ = min (b, c) and eᵢ₊₁ = min (b,
-- eᵢ + wᵢ)"; the run is "(c, b)-feasible if [they are] ≥ 0 for all indices i". The law possible-accumulated says that the walks of specs/Walk are
-- possible exactly where they are feasible runs.
use Rattle.std.specs.Prelude.{ℕ, cond, List, [], ◌∷◌, ℤ, pos, neg_ℤ, ◌+ℤ◌, ◌≤ℤ◌}
use Rattle.std.specs.Int.Signed.{le_z}
use Rattle.walks.specs.BoundedStep.{Move}

-- min
abbrev pub smaller : ℤ → ℤ → ℤ
smaller x y = cond (le_z x y) x y

-- e, and the accumulated weights after it
abbrev pub accumulated_from : ℤ → List ℤ → ℤ → List ℤ
accumulated_from b [] e = e ∷ []
accumulated_from b (w ∷ ws) e = e ∷ accumulated_from b ws (smaller b (e +ℤ w))

-- e₁, e₂, .. of a run with the weights ws; as everywhere in the definitions, the bound stands before the credit
unfoldable pub accumulated : ℕ → ℕ → List ℤ → List ℤ
accumulated b c ws = accumulated_from (pos b) ws (smaller (pos b) (pos c))

-- all are at least 0
abbrev pub NonNegative : List ℤ → Type 0
NonNegative [] = Unit {0}
NonNegative (e ∷ es) = (pos 0 ≤ℤ e) × NonNegative es

-- the run with the weights ws is feasible
abbrev pub FeasibleRun : ℕ → ℕ → List ℤ → Type 0
FeasibleRun b c ws = NonNegative (accumulated b c ws)

-- the weights of a run of moves. Document 02, Ask 4, "Draw first, then gain": each move is two weights of document 001's, the draw, taken, and then
-- the gain.
abbrev pub run_weights : List Move → List ℤ
run_weights [] = []
run_weights (m ∷ ms) = neg_ℤ (pos m.draw) ∷ pos m.gain ∷ run_weights ms
