-- A graph of modes and numbered arcs, each with a move, and its finite runs. Document 001, section 2: "A run in a WBA is a finite or
-- infinite sequence". Several nets may stand over one graph: moves and Leads are then the same for all of them.
use Rattle.std.specs.Prelude.{ℕ, ◌≡◌, List, [], ◌∷◌, map}
use Rattle.walks.specs.BoundedStep.{Move}

-- the mode that an arc leaves, the mode that it enters, and what it draws and gains
pub record Graph : Type 0 where
  pub source : ℕ → ℕ
  pub target : ℕ → ℕ
  pub move : ℕ → Move

-- the moves of the arcs with these numbers
abbrev pub moves : Graph → List ℕ → List Move
moves g w = map g.move w

-- the arcs, each of them ok, lead from mode s to mode t: document 01's "each arc leaves the mode that the one before entered"
abbrev pub Leads : Graph → (ℕ → Type 0) → ℕ → List ℕ → ℕ → Type 0
Leads g ok s [] t = s ≡ t
Leads g ok s (a ∷ w) t = ok a × (g.source a ≡ s) × Leads g ok (g.target a) w t
