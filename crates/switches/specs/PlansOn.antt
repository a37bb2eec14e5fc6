-- Plans of arcs that are on. Document 02, Ask 9: "Search and Ask 8 use only arcs that are on, and 'no plan' means that no such plan exists;
-- judging and gauge still know every arc." So what a plan is, and that it is feasible and accepted, stays the model's (model Plans).
use Rattle.std.specs.Prelude.{ℕ, ◌≡◌, true, List, [], ◌∷◌}
use Rattle.model.specs.Automaton.{Automaton}
use Rattle.model.specs.Plans.{Plan, Serves}
use Rattle.switches.specs.Switches.{is_on}

-- every arc of the list is on
abbrev pub AllOn : List ℕ → List ℕ → Type 0
AllOn on [] = Unit {0}
AllOn on (a ∷ w) = (is_on on a ≡ true) × AllOn on w

-- a feasible and accepted plan of arcs that are on
pub record ServesOn (g : Automaton) (x : ℕ) (on : List ℕ) (b c : ℕ) (p : Plan) : Type 0 where
  pub serves : Serves g x b c p
  pub prefix_on : AllOn on p.prefix
  pub cycle_on : AllOn on p.cycle

abbrev pub SomePlanOn : Automaton → ℕ → List ℕ → ℕ → ℕ → Type 0
SomePlanOn g x on b c = (p : Plan) × ServesOn g x on b c p
