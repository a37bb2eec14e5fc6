-- Knee and habit walked together. Document 02, Ask 5: "the two have run-ins of equal length and rounds of equal length, with the same actions, whose
-- common charge and joint colours satisfy the definition". (Theorem joins.)
use Rattle.std.specs.Prelude.{ℕ, ◌+◌, ◌/◌, ◌^◌, ◌≡◌, List, [], ◌∷◌, ◌++◌}
use Rattle.walks.specs.BoundedStep.{Move}
use Rattle.walks.specs.Walk.{walked, IsPossible, times}
use Rattle.model.specs.Automaton.{Automaton, arc_at, moves_of}
use Rattle.model.specs.Plans.{Plan, IsPlan, Accepted}

-- arcs of the knee g and of the habit h, of equal length and "with the same actions"
abbrev pub SameActions : Automaton → Automaton → List ℕ → List ℕ → Type 0
SameActions g h [] [] = Unit {0}
SameActions g h [] (c ∷ v) = ⊥
SameActions g h (a ∷ u) [] = ⊥
SameActions g h (a ∷ u) (c ∷ v) = ((arc_at g a).action ≡ (arc_at h c).action) × SameActions g h u v

-- two moves in one step: both draw, and then both gain
abbrev pub both_moves : Move → Move → Move
both_moves m n = record { draw = m.draw + n.draw; gain = m.gain + n.gain }

-- two lists of moves, step by step, as long as both last (law together-length)
abbrev pub moves_together : List Move → List Move → List Move
moves_together [] ns = []
moves_together (m ∷ ms) [] = []
moves_together (m ∷ ms) (n ∷ ns) = both_moves m n ∷ moves_together ms ns

-- the "common charge": there is one, and with both rounds repeated any number of times, every step is possible
abbrev pub FeasibleTogether : Automaton → Automaton → ℕ → ℕ → Plan → Plan → Type 0
FeasibleTogether g h b c p q =
    (r : ℕ)
    → IsPossible (walked b (moves_together (moves_of g (p.prefix ++ times r p.cycle)) (moves_of h (q.prefix ++ times r q.cycle))) c)

-- A plan of each, which serve together. x is the joined model's byte of barred colours (document 02, Ask 6). The "joint colours" satisfy the
-- definition where each plan is accepted with the barred colours among its own: the knee's are the lowest bits of x, and since "the habit's
-- colour j becomes the knee's k plus j" (Ask 5), the habit's are the bits from k on.
pub record ServeTogether (g h : Automaton) (x b c : ℕ) (p q : Plan) : Type 0 where
  pub knee : IsPlan g p
  pub habit : IsPlan h q
  pub same_prefix : SameActions g h p.prefix q.prefix
  pub same_cycle : SameActions g h p.cycle q.cycle
  pub feasible : FeasibleTogether g h b c p q
  pub knee_accepted : Accepted g x p
  pub habit_accepted : Accepted h (x / 2 ^ g.colours) q

-- of any lengths
abbrev pub SomeTogether : Automaton → Automaton → ℕ → ℕ → ℕ → Type 0
SomeTogether g h x b c = (p : Plan) × (q : Plan) × ServeTogether g h x b c p q
