-- The shape of a plan, refusals 11 to 14. Document 01, "Where each call stops", rows "plan shape".
use Rattle.std.specs.Prelude.{ℕ, suc, ◌+◌, ◌≤◌, ◌<◌, ◌≡◌, not, ◌||◌, List, [], ◌∷◌, leb, ltb, eqb, length, take, drop, Ok}
use Rattle.limits.specs.Ceilings.{plan_most}
use Rattle.refusals.specs.declared.Refusal.TheVariants.{PlanLength, ArcNumber, OtherMode, OpenCycle}
use Rattle.refusals.specs.Refusals.{Verdict, refuse, and_then}
use Rattle.model.specs.Automaton.{Automaton, arc_at}
use Rattle.model.specs.Plans.{Plan}

-- "A plan is a byte list of arc numbers with two lengths": the first p bytes are the prefix (document 01's run-in), the others are the
-- cycle (its round)
abbrev pub plan_of : ℕ → List ℕ → Plan
plan_of p w = record { prefix = take p w; cycle = drop p w }

-- 11: "q is 0, p + q is not the plan's length, or that length is above 65,535"
unfoldable pub length_of : ℕ → ℕ → ℕ → Verdict
length_of p q long = refuse (eqb q 0 || not (eqb (p + q) long) || ltb plan_most long) PlanLength (Ok tt)

-- 12: "an arc number not below m", with the first position; the list's first arc has the position i
unfoldable pub numbers : ℕ → List ℕ → ℕ → Verdict
numbers m [] i = Ok tt
numbers m (a ∷ w) i = refuse (leb m a) (ArcNumber i) (numbers m w (suc i))

-- 13: "an arc leaves another mode than the current one", with the first position; the current mode is s
unfoldable pub chain : Automaton → ℕ → List ℕ → ℕ → Verdict
chain g s [] i = Ok tt
chain g s (a ∷ w) i = refuse (not (eqb (arc_at g a).source s)) (OtherMode i) (chain g (arc_at g a).target w (suc i))

-- 12 over the whole list, and then 13
abbrev pub numbers_then_chain : Automaton → ℕ → List ℕ → ℕ → Verdict
numbers_then_chain g s w i = and_then (numbers (length g.arcs) w i) (chain g s w i)

-- the mode that the arcs lead to, from mode s
abbrev pub mode_after : Automaton → ℕ → List ℕ → ℕ
mode_after g s [] = s
mode_after g s (a ∷ w) = mode_after g (arc_at g a).target w

-- 14: "round ends elsewhere than it began"
unfoldable pub closing : Automaton → ℕ → List ℕ → Verdict
closing g p w = refuse (not (eqb (mode_after g g.start (take p w)) (mode_after g g.start w))) OpenCycle (Ok tt)

-- 12 to 14
abbrev pub path : Automaton → ℕ → List ℕ → Verdict
path g p w = and_then (numbers_then_chain g g.start w 0) (closing g p w)

-- 11 to 14
unfoldable pub shape : Automaton → ℕ → ℕ → List ℕ → Verdict
shape g p q w = and_then (length_of p q (length w)) (path g p w)

-- What is right, as facts: 11 does not apply
pub record Lengths (p q : ℕ) (w : List ℕ) : Type 0 where
  pub has_arc : 0 < q
  pub parts : p + q ≡ length w
  pub short : length w ≤ plan_most
