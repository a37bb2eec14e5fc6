-- Walks of moves under a bound. Document 001, section 2: the accumulated weights of a run are e₁ = min (b, c) and eᵢ₊₁ = min (b, eᵢ + wᵢ),
-- and the run is feasible where all are at least 0; with document 02, Ask 4, a draw and a gain stand in place of the weight, and the run is
-- feasible where every step is possible. Here e₁ is c: refusal 6 keeps c at most b, and every law that needs it says so.
use Rattle.std.specs.Prelude.{Option, Some, None}
use Rattle.std.specs.Prelude.{ℕ, zero, suc, ◌≤◌, ◌≡◌, List, [], ◌∷◌, ◌++◌, ◌⊎◌}
use Rattle.walks.specs.declared.Step.{Step}
use Rattle.walks.specs.BoundedStep.{Move, stepped}

-- how a walk ends: at a charge, or blocked by a step that is not possible
pub data End : Type 0 where
  Ends : ℕ → End
  Blocked : End

-- what follows a step goes on from the charge that it leads to
abbrev pub after_step : Option Step → (ℕ → End) → End
after_step (Some u) f = f u.charge
after_step None f = Blocked

-- what follows a walk goes on from the charge at its end
abbrev pub after_walk : End → (ℕ → End) → End
after_walk (Ends e) f = f e
after_walk Blocked f = Blocked

-- the moves walked one after the other from charge e: the charge at the end, or that some step is not possible
unfoldable pub walked : ℕ → List Move → ℕ → End
walked b [] e = Ends e
walked b (m ∷ ms) e = after_step (stepped b m e) (walked b ms)

-- every step is possible
abbrev pub IsPossible : End → Type 0
IsPossible (Ends e) = Unit {0}
IsPossible Blocked = ⊥

-- "the first round is possible and ends no lower than it began, or the second is also possible and ends no lower than it began" (document
-- 01): the round from charge e ends at x, and the second, from x, at y
abbrev pub RoundsHold : ℕ → List Move → ℕ → Type 0
RoundsHold b ms e = (x : ℕ) × (walked b ms e ≡ Ends x) × ((e ≤ x) ⊎ ((y : ℕ) × (walked b ms x ≡ Ends y) × (x ≤ y)))

-- the list, r times over
module _ {A : Type 0} where
  abbrev pub times : ℕ → List A → List A
  times zero l = []
  times (suc r) l = l ++ times r l
