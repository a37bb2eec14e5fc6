-- The words in which the theory speaks of walks of moves. The law walked-moves (proofs/Walks) says that this is the walk of specs/Walk.
use Rattle.std.specs.Prelude.{ℕ, ◌+◌, ◌≤◌, List, [], ◌∷◌, ◌⊎◌}
use Rattle.walks.specs.BoundedStep.{Move, after}
use Rattle.walks.specs.Walk.{times}

-- the charge after the moves
abbrev pub charge : ℕ → List Move → ℕ → ℕ
charge b [] e = e
charge b (m ∷ ms) e = charge b ms (after b m e)

-- what the moves draw, and what they gain, in all
abbrev pub draws : List Move → ℕ
draws [] = 0
draws (m ∷ ms) = m.draw + draws ms

abbrev pub gains : List Move → ℕ
gains [] = 0
gains (m ∷ ms) = m.gain + gains ms

-- every move is possible, from charge e
abbrev pub Possible : ℕ → List Move → ℕ → Type 0
Possible b [] e = Unit {0}
Possible b (m ∷ ms) e = (m.draw ≤ e) × Possible b ms (after b m e)

-- the moves can be walked any number of times over
abbrev pub Forever : ℕ → List Move → ℕ → Type 0
Forever b ms e = (r : ℕ) → Possible b (times r ms) e

-- possible, and it ends no lower than it began
abbrev pub Keeps : ℕ → List Move → ℕ → Type 0
Keeps b ms e = Possible b ms e × (e ≤ charge b ms e)

-- the first round is possible and ends no lower than it began, or the second is also possible and ends no lower than it began
abbrev pub TwoRounds : ℕ → List Move → ℕ → Type 0
TwoRounds b ms e = Possible b ms e × ((e ≤ charge b ms e) ⊎ Keeps b ms (charge b ms e))
