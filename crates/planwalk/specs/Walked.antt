-- The walk. Document 01, "What can be called": "Walk judges a plan, then steps it from its beginning until colour j is first met or the
-- allowance is spent (a 16-bit number, 0 to 65,535), the round repeating."
use Rattle.std.specs.Prelude.{ℕ, suc, ◌+◌, Bool, true, false, cond, List, [], ◌∷◌, ◌++◌, Result, Ok, Err, leb, ltb, take}
use Rattle.walks.specs.Walk.{times}
use Rattle.refusals.specs.declared.Refusal.{Refusal}
use Rattle.refusals.specs.declared.Refusal.TheVariants.{NoSuchColour}
use Rattle.refusals.specs.Refusals.{answer, numbered, refuse, and_then}
use Rattle.model.specs.Automaton.{Automaton, meets}
use Rattle.model.specs.Lists.{Lists, automaton_of}
use Rattle.model.specs.Plans.{Plan}
use Rattle.judge.specs.Shape.{plan_of}
use Rattle.judge.specs.Judged.{judged}
use Rattle.gauge.specs.declared.Gauge.{Gauge}
use Rattle.gauge.specs.Gauge.{Gauged, started_of, stepped_of}
use Rattle.planwalk.specs.declared.Walked.{Walked}
use Rattle.planwalk.specs.declared.Walked.TheVariants as outcome
use Rattle.planwalk.specs.declared.WalkAnswer.{WalkAnswer}

-- "It answers 'met' or 'spent' and the steps made"; "where walk refuses, its steps are 0"
abbrev pub walk_answer : Result Walked Refusal → WalkAnswer
walk_answer (Ok (outcome.Met t)) = record { answer = answer 0 0; met = true; steps = t }
walk_answer (Ok (outcome.Spent t)) = record { answer = answer 0 0; met = false; steps = t }
walk_answer (Err r) = record { answer = numbered r; met = false; steps = 0 }

-- the first t steps of a plan, "the round repeating"
abbrev pub steps_of_plan : Plan → ℕ → List ℕ
steps_of_plan p t = take t (p.prefix ++ times t p.cycle)

-- "the meeting step counted": the walk ends at a step that meets the colour, else it goes on
abbrev pub met_or : {T : Type 0} → Bool → T → T → T
met_or true t f = t
met_or false t f = f

-- what follows a start or a step goes on from its gauge; neither is refused where judging accepts the plan and the allowance is a 16-bit number
-- (theorem walk-least)
abbrev pub walk_on : Gauged → (Gauge → Result Walked Refusal) → Result Walked Refusal
walk_on (Ok y) f = f y
walk_on (Err r) f = Err r

-- the gauge x stepped on the arcs of the list, i steps having been made, until colour j is met; "'Spent' is the answer only when exactly the
-- allowance has been walked without meeting j": the list has as many arcs as the allowance has steps
unfoldable pub gauge_walk : ℕ → ℕ → ℕ → Lists → ℕ → ℕ → List ℕ → ℕ → Gauge → Result Walked Refusal
gauge_walk n s k l b j [] i x = Ok (outcome.Spent i)
gauge_walk n s k l b j (a ∷ w) i x =
    walk_on (stepped_of n s k l b a x) λ y. met_or (meets (automaton_of n s k l) j a) (Ok (outcome.Met (suc i))) (gauge_walk n s k l b j w (suc i) y)

-- the call: "walk 1 to 6 and 11 to 18", "j not below k, looked at after the plan"; then the walk of the gauge from its start.
-- Document 02, Ask 6: "The walk may still be given a barred colour": whether x has j is not looked at.
unfoldable pub walk_of : ℕ → ℕ → ℕ → Lists → ℕ → ℕ → ℕ → ℕ → ℕ → List ℕ → ℕ → ℕ → Result Walked Refusal
walk_of n s k l x b c p q w j t =
    and_then (judged n s k l x b c p q w)
    (refuse (leb k j) NoSuchColour
    (walk_on (started_of n s k l b c) (gauge_walk n s k l b j (steps_of_plan (plan_of p w) t) 0)))

-- the number and the detail of the walk, whether the colour was met, and the steps made
abbrev pub walked_answer : ℕ → ℕ → ℕ → Lists → ℕ → ℕ → ℕ → ℕ → ℕ → List ℕ → ℕ → ℕ → WalkAnswer
walked_answer n s k l x b c p q w j t = walk_answer (walk_of n s k l x b c p q w j t)

-- the walk without the gauge: the least step, counted from 1 on behind i others, whose arc meets colour j, or all of them
unfoldable pub first_met : Automaton → ℕ → List ℕ → ℕ → Walked
first_met g j [] i = outcome.Spent i
first_met g j (a ∷ w) i = met_or (meets g j a) (outcome.Met (suc i)) (first_met g j w (suc i))

-- As the code steps: the position after one in the bytes of a plan; behind the last stands the cycle's first, at p
abbrev pub position_after : ℕ → ℕ → ℕ → ℕ
position_after i p long = cond (ltb (i + 1) long) (i + 1) p
