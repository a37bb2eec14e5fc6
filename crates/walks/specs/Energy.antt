-- Energy functions. Document 004, Definition 1: "An energy function is a partial function f .. which is defined on a closed interval [l, ∞[ or on
-- an open interval ]l, ∞[ .. and such that for all x₁ ≤ x₂ for which f is defined, f(x₂) ≥ f(x₁) + x₂ − x₁", here over whole numbers, where ]l, ∞[ is
-- [l + 1, ∞[. Document 02, Ask 4: "This is an energy function in the sense of document 004, with the bound added." The theorem step-energy says that
-- each move's step is one with the bound added.
use Rattle.std.specs.Prelude.{Option}
use Rattle.std.specs.Prelude.{ℕ, ◌+◌, ◌-◌, ◌≤◌, min, ◌≡◌, ◌↔◌}
use Rattle.walks.specs.declared.Step.{Step}
use Rattle.walks.specs.Walk.{End, Ends, Blocked, after_step, IsPossible}

-- a partial function: the charge that a charge leads to, or Blocked where it is not defined
pub record EnergyFunction (f : ℕ → End) : Type 0 where
  -- l
  pub lower : ℕ
  pub defined : (e : ℕ) → IsPossible (f e) ↔ (lower ≤ e)
  pub grows : (e e' x x' : ℕ) → e ≤ e' → f e ≡ Ends x → f e' ≡ Ends x' → x + (e' - e) ≤ x'

-- "with the bound added": what it leads to is cut off at b
abbrev pub bounded : ℕ → End → End
bounded b (Ends x) = Ends (min x b)
bounded b Blocked = Blocked

-- where a step leads, without what it lost
abbrev pub ended : Option Step → End
ended s = after_step s Ends

-- a step, by the charge that it is made from, is an energy function with the bound b added
abbrev pub EnergyUnder : ℕ → (ℕ → Option Step) → Type 0
EnergyUnder b step = (f : ℕ → End) × EnergyFunction f × ((e : ℕ) → ended (step e) ≡ bounded b (f e))
