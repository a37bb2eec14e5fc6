-- Search. Document 01, "What can be called": "Demand 3 is one claim over all inputs of this call"; "Where each call stops", rows 1 to 10;
-- document 02, Ask 6: "A plan is accepted exactly when both rules hold, and 'no plan' now means that none keeps both"; Ask 9: "Search .. use only
-- arcs that are on, and 'no plan' means that no such plan exists". x is the byte of barred colours, on the words of the switches.
use Rattle.std.specs.Prelude.{ℕ, ◌+◌, ◌*◌, ◌≤◌, ◌≡◌, List, ◌↔◌, ltb, length, take, drop, replicate, Result, Ok, Err}
use Rattle.limits.specs.Ceilings.{product_most, plan_most, work_space, plan_buffer}
use Rattle.refusals.specs.declared.Refusal.{Refusal}
use Rattle.refusals.specs.declared.Refusal.TheVariants.{Product, WorkingSpace, PlanBuffer, NoPlan}
use Rattle.refusals.specs.Refusals.{Verdict, answer, numbered, refuse, and_then}
use Rattle.model.specs.Automaton.{Automaton}
use Rattle.model.specs.Lists.{Lists, automaton_of}
use Rattle.model.specs.Fitness.{fitness, levels_of}
use Rattle.switches.specs.PlansOn.{ServesOn, SomePlanOn}
use Rattle.judge.specs.Shape.{plan_of}
use Rattle.search.specs.declared.Lengths.{Lengths}
use Rattle.search.specs.declared.SearchAnswer.{SearchAnswer}

-- what search answers: the lengths of the prefix and of the cycle of a plan, or a refusal
abbrev pub Searched : Type 0
Searched = Result Lengths Refusal

-- a plan with these lengths
abbrev pub planned : ℕ → ℕ → Searched
planned p q = Ok (record { p = p; q = q })

-- 7 to 9, by the lengths of the two buffers: "n × (b+1) above 8,192", "working space too short", "plan buffer too short"
unfoldable pub spaces : ℕ → ℕ → ℕ → ℕ → ℕ → Verdict
spaces n k b words bytes =
    refuse (ltb product_most (n * (b + 1))) Product
    (refuse (ltb words (work_space k n b)) WorkingSpace
    (refuse (ltb bytes (plan_buffer k n b)) PlanBuffer
    (Ok tt)))

-- 6 to 9
abbrev pub levels_and_spaces : ℕ → ℕ → ℕ → ℕ → ℕ → ℕ → Verdict
levels_and_spaces n k b c words bytes = and_then (levels_of b c) (spaces n k b words bytes)

-- 1 to 9, for any numbers, lists and buffers
unfoldable pub searchable : ℕ → ℕ → ℕ → Lists → ℕ → ℕ → ℕ → ℕ → Verdict
searchable n s k l b c words bytes = and_then (fitness n s k l) (levels_and_spaces n k b c words bytes)

-- "It answers p and q"; "Where search refuses, p and q are 0"
abbrev pub search_answer : Searched → SearchAnswer
search_answer (Ok y) = record { answer = answer 0 0; p = y.p; q = y.q }
search_answer (Err r) = record { answer = numbered r; p = 0; q = 0 }

-- "no plan exists"
abbrev pub no_plan : Searched
no_plan = Err NoPlan

-- a plan is found
abbrev pub IsFound : Searched → Type 0
IsFound r = (p : ℕ) × (q : ℕ) × (r ≡ planned p q)

-- What holds of the plan that is handed back. Which feasible and accepted plan it is, its p and q with it, is free.
pub record Found (g : Automaton) (x : ℕ) (on : List ℕ) (b c p q : ℕ) (plan plan' : List ℕ) : Type 0 where
  -- "the first p + q bytes of the plan buffer, as the call leaves it, are with this p and q a feasible and accepted plan",
  -- of arcs that are on
  pub serves : ServesOn g x on b c (plan_of p (take (p + q) plan'))
  pub within : p + q ≤ length plan'
  -- "no longer than judging takes"
  pub short : p + q ≤ plan_most
  -- "a run-in of at most n(b+1) and a round of at most (k+1)n(b+1) arcs"
  pub prefix_short : p ≤ g.modes * (b + 1)
  pub cycle_short : q ≤ (g.colours + 1) * g.modes * (b + 1)
  -- "Later bytes of the buffer are not touched."
  pub later : drop (p + q) plan' ≡ drop (p + q) plan

-- What search answers where none of 1 to 9 applies, and how it leaves the plan buffer: 10, with the buffer untouched, or a plan in it.
pub data Answered (g : Automaton) (x : ℕ) (on : List ℕ) (b c : ℕ) (plan plan' : List ℕ) : Searched → Type 0 where
  none : plan' ≡ plan → Answered g x on b c plan plan' no_plan
  found : {p q : ℕ} → Found g x on b c p q plan plan' → Answered g x on b c plan plan' (planned p q)

-- Demand 3, for a fit model and levels and buffers to which none of 6 to 9 applies, whatever stands in the buffers.
pub record Decided (g : Automaton) (x : ℕ) (on : List ℕ) (b c : ℕ) (work plan work' plan' : List ℕ) (r : Searched) : Type 0 where
  -- "the answer is 10 exactly when no plan of any length is feasible and accepted"
  pub no_plan_iff : (r ≡ no_plan) ↔ (SomePlanOn g x on b c → ⊥)
  -- "Otherwise it is p and q", and the plan; "after 10 the plan buffer is untouched"
  pub answered : Answered g x on b c plan plan' r
  -- "After 10 or a plan, the whole lent working space is zero"
  pub cleared : work' ≡ replicate (length work) 0

-- The same by document 01's numbers: a is the number and the detail that are answered, with p and q. v: what 1 to 9 say.
pub record SearchByNumber (v : Verdict) (g : Automaton) (x : ℕ) (on : List ℕ) (b c : ℕ) (plan plan' : List ℕ) (a : SearchAnswer) : Type 0 where
  -- "the first that applies is answered, with one detail"; "Where search refuses, p and q are 0"
  pub refused : (y : Refusal) → v ≡ Err y → (a.answer ≡ numbered y) × (a.p ≡ 0) × (a.q ≡ 0)
  -- "the answer is 10 exactly when no plan of any length is feasible and accepted"
  pub ten : v ≡ Ok tt → (a.answer.number ≡ 10) ↔ (SomePlanOn g x on b c → ⊥)
  pub ten_alone : v ≡ Ok tt → a.answer.number ≡ 10 → (a.answer ≡ answer 10 0) × (a.p ≡ 0) × (a.q ≡ 0)
  -- "Otherwise it is p and q, and the first p + q bytes of the plan buffer .. a feasible and accepted plan"; the yes is 0
  pub otherwise : v ≡ Ok tt → (a.answer.number ≡ 10 → ⊥) → (a.answer ≡ answer 0 0) × Found g x on b c a.p a.q plan plan'

-- Search, over all inputs. v: what 1 to 9 say. "Refusals 1 to 9 leave both buffers of the search untouched."
pub record Search (v : Verdict) (g : Automaton) (x : ℕ) (on : List ℕ) (b c : ℕ) (work plan work' plan' : List ℕ) (r : Searched) : Type 0 where
  pub refused : (y : Refusal) → v ≡ Err y → (r ≡ Err y) × (work' ≡ work) × (plan' ≡ plan)
  pub decided : v ≡ Ok tt → Decided g x on b c work plan work' plan' r
  pub by_number : SearchByNumber v g x on b c plan plan' (search_answer r)

-- the claim of the call: by its numbers, lists and buffers
abbrev pub SearchOf : ℕ → ℕ → ℕ → Lists → ℕ → List ℕ → ℕ → ℕ → List ℕ → List ℕ → List ℕ → List ℕ → Searched → Type 0
SearchOf n s k l x on b c work plan work' plan' r =
    Search (searchable n s k l b c (length work) (length plan)) (automaton_of n s k l) x on b c work plan work' plan' r
