-- Plans. Document 01, "The model and the charge": plan, feasible, accepted. "In 'a plan of any length' p and q are whole numbers without a
-- ceiling."
use Rattle.std.specs.Prelude.{ℕ, ◌<◌, ◌≡◌, Bool, true, false, List, [], ◌∷◌, ◌++◌, ◌⊎◌, length}
use Rattle.walks.specs.Walk.{End, walked, IsPossible, times}
use Rattle.model.specs.Automaton.{Automaton, arc_at, bit, meets, moves_of}

-- arc numbers. prefix: document 01's run-in, of length p; cycle: its round, of length q. Document 001 calls the two a lasso.
pub record Plan : Type 0 where
  pub prefix : List ℕ
  pub cycle : List ℕ

-- these are arcs of the model, "each arc leaves the mode that the one before entered", the first leaves s and the last enters t
abbrev pub Leads : Automaton → ℕ → List ℕ → ℕ → Type 0
Leads g s [] t = s ≡ t
Leads g s (a ∷ w) t = (a < length g.arcs) × ((arc_at g a).source ≡ s) × Leads g (arc_at g a).target w t

-- "It begins in the start mode, .. and the round ends in the mode where it began"; "round q (at least 1)"
pub record IsPlan (g : Automaton) (p : Plan) : Type 0 where
  pub mode : ℕ
  pub leads_in : Leads g g.start p.prefix mode
  pub leads_cycle : Leads g mode p.cycle mode
  pub has_arc : 0 < length p.cycle

-- the walk of these arcs, one after the other, from charge e under the bound b
abbrev pub walked_arcs : Automaton → ℕ → List ℕ → ℕ → End
walked_arcs g b w e = walked b (moves_of g w) e

-- "Feasible: with the round repeated any number of times, every step is possible."
abbrev pub Feasible : Automaton → ℕ → ℕ → Plan → Type 0
Feasible g b c p = (r : ℕ) → IsPossible (walked_arcs g b (p.prefix ++ times r p.cycle) c)

-- some arc of the list passes the test
abbrev pub SomeArc : (ℕ → Bool) → List ℕ → Type 0
SomeArc test [] = ⊥
SomeArc test (a ∷ w) = (test a ≡ true) ⊎ SomeArc test w

-- colour j stands on some arc of the list
abbrev pub Meets : Automaton → ℕ → List ℕ → Type 0
Meets g j w = SomeArc (meets g j) w

-- "Accepted: each of the k colours stands on some arc of the round. With k = 0 every plan is accepted." Document 02, Ask 6: "A plan is accepted
-- exactly when both rules hold"; x is the byte of barred colours, and "its bits at or above k are ignored".
pub record Accepted (g : Automaton) (x : ℕ) (p : Plan) : Type 0 where
  -- the other colours; "Barred colours are no longer required in the round"
  pub required : (j : ℕ) → j < g.colours → bit x j ≡ false → Meets g j p.cycle
  -- "some colours may appear in the run-in and never in the round"
  pub barred : (j : ℕ) → j < g.colours → bit x j ≡ true → Meets g j p.cycle → ⊥

-- a plan of the model that is feasible and accepted, with the barred colours x, under the bound b from credit c; in all definitions the bound
-- stands first
pub record Serves (g : Automaton) (x b c : ℕ) (p : Plan) : Type 0 where
  pub plan : IsPlan g p
  pub feasible : Feasible g b c p
  pub accepted : Accepted g x p

abbrev pub SomePlan : Automaton → ℕ → ℕ → ℕ → Type 0
SomePlan g x b c = (p : Plan) × Serves g x b c p
