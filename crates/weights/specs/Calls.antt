-- What judging, gauge, walk and search answer by weights. Each says what the definition of its own crate says, with the step by a weight in place of
-- the step by draw and gain, and fitness by weights.
use Rattle.std.specs.Prelude.{ℕ, suc, ◌+◌, ◌*◌, ◌≤◌, ◌≡◌, not, ◌&&◌, List, [], ◌∷◌, ◌↔◌, Option, Some, None, Result, Ok, Err, leb, ltb, eqb, length, take, drop, replicate}
use Rattle.limits.specs.Ceilings.{plan_most}
use Rattle.walks.specs.declared.Step.{Step}
use Rattle.walks.specs.Weights.{weighed}
use Rattle.refusals.specs.declared.Refusal.{Refusal}
use Rattle.refusals.specs.declared.Refusal.TheVariants.{ArcNumber, OtherMode, ImpossibleStep, FallingCycle, NoSuchColour, MixedGauge}
use Rattle.refusals.specs.Refusals.{Verdict, refuse, and_then}
use Rattle.model.specs.Automaton.{arc_at, meets}
use Rattle.model.specs.Lists.{Lists}
use Rattle.model.specs.Fitness.{levels_of}
use Rattle.model.specs.Plans.{Plan}
use Rattle.judge.specs.Shape.{plan_of, shape}
use Rattle.judge.specs.Colours.{accepted_of}
use Rattle.judge.specs.Judged.{judged}
use Rattle.gauge.specs.declared.Gauge.{Gauge}
use Rattle.gauge.specs.Gauge.{Gauged, new_gauge, started_of, landed, mixed_up, stepped_of}
use Rattle.planwalk.specs.declared.Walked.{Walked}
use Rattle.planwalk.specs.declared.Walked.TheVariants as walk
use Rattle.planwalk.specs.Walked.{steps_of_plan, met_or, walk_on, walk_of}
use Rattle.search.specs.Search.{Searched, planned, levels_and_spaces, no_plan, SearchOf}
use Rattle.weights.specs.Models.{WeightLists, model_by, weight_at, fitness_by_weight, ServesOnByWeight, SomePlanOnByWeight}

-- Judging. What follows step i goes on from the charge that it leads to; 15 where it is not possible
abbrev pub ran_on_by_weight : Option Step → ℕ → (ℕ → Verdict) → Verdict
ran_on_by_weight (Some u) i f = f u.charge
ran_on_by_weight None i f = Err (ImpossibleStep i)

-- the arcs walked one after the other from charge e, the first step with the number i, and what follows from the charge at the end
unfoldable pub ran_by_weight : WeightLists → ℕ → List ℕ → ℕ → ℕ → (ℕ → Verdict) → Verdict
ran_by_weight l b [] i e f = f e
ran_by_weight l b (a ∷ w) i e f = ran_on_by_weight (weighed b (weight_at l a) e) i λ x. ran_by_weight l b w (suc i) x f

-- 15 and 16: the prefix from c to e, the first round from e to x, the second from x to y
unfoldable pub charges_by_weight : WeightLists → ℕ → ℕ → Plan → Verdict
charges_by_weight l b c p =
    let m = length p.prefix in
    let w = p.cycle in
    ran_by_weight l b p.prefix 0 c λ e.
    ran_by_weight l b w m e λ x.
    ran_by_weight l b w (m + length w) x λ y.
    refuse (ltb x e && ltb y x) FallingCycle (Ok tt)

-- the verdict, for any numbers, lists and bytes
unfoldable pub judged_by_weight : ℕ → ℕ → ℕ → WeightLists → ℕ → ℕ → ℕ → ℕ → ℕ → List ℕ → Verdict
judged_by_weight n s k l x b c p q w =
    let g = model_by n s k l in
    and_then (fitness_by_weight n s k l)
    (and_then (levels_of b c)
    (and_then (shape g p q w)
    (and_then (charges_by_weight l b c (plan_of p w)) (accepted_of g x (plan_of p w)))))

-- The gauge: its start ..
unfoldable pub started_by_weight : ℕ → ℕ → ℕ → WeightLists → ℕ → ℕ → Gauged
started_by_weight n s k l b c = and_then (fitness_by_weight n s k l) (and_then (levels_of b c) (Ok (new_gauge (model_by n s k l) b c)))

-- .. and a step on arc a: 1 to 6, 22, 12, 13, 15
unfoldable pub stepped_by_weight : ℕ → ℕ → ℕ → WeightLists → ℕ → ℕ → Gauge → Gauged
stepped_by_weight n s k l b a x =
    let g = model_by n s k l in
    let m = length g.arcs in
    and_then (fitness_by_weight n s k l)
    (and_then (levels_of b x.charge)
    (refuse (mixed_up n m b x) MixedGauge
    (refuse (leb m a) (ArcNumber 0)
    (refuse (not (eqb (arc_at g a).source x.mode)) (OtherMode 0)
    (landed x (arc_at g a).target (weighed b (weight_at l a) x.charge))))))

-- The walk: the gauge stepped on the arcs of the list until colour j is met ..
unfoldable pub gauge_walk_by_weight : ℕ → ℕ → ℕ → WeightLists → ℕ → ℕ → List ℕ → ℕ → Gauge → Result Walked Refusal
gauge_walk_by_weight n s k l b j [] i x = Ok (walk.Spent i)
gauge_walk_by_weight n s k l b j (a ∷ w) i x =
    walk_on (stepped_by_weight n s k l b a x) λ y. met_or (meets (model_by n s k l) j a) (Ok (walk.Met (suc i))) (gauge_walk_by_weight n s k l b j w (suc i) y)

-- .. and the call
unfoldable pub walk_by_weight : ℕ → ℕ → ℕ → WeightLists → ℕ → ℕ → ℕ → ℕ → ℕ → List ℕ → ℕ → ℕ → Result Walked Refusal
walk_by_weight n s k l x b c p q w j t =
    and_then (judged_by_weight n s k l x b c p q w)
    (refuse (leb k j) NoSuchColour
    (walk_on (started_by_weight n s k l b c) (gauge_walk_by_weight n s k l b j (steps_of_plan (plan_of p w) t) 0)))

-- Search: what holds of the plan that is handed back ..
pub record FoundByWeight (n s k : ℕ) (l : WeightLists) (x : ℕ) (on : List ℕ) (b c p q : ℕ) (plan plan' : List ℕ) : Type 0 where
  pub serves : ServesOnByWeight n s k l x on b c (plan_of p (take (p + q) plan'))
  pub within : p + q ≤ length plan'
  pub short : p + q ≤ plan_most
  pub prefix_short : p ≤ n * (b + 1)
  pub cycle_short : q ≤ (k + 1) * n * (b + 1)
  pub later : drop (p + q) plan' ≡ drop (p + q) plan

-- .. 10, with the buffer untouched, or such a plan in it ..
pub data AnsweredByWeight (n s k : ℕ) (l : WeightLists) (x : ℕ) (on : List ℕ) (b c : ℕ) (plan plan' : List ℕ) : Searched → Type 0 where
  none : plan' ≡ plan → AnsweredByWeight n s k l x on b c plan plan' no_plan
  found : {p q : ℕ} → FoundByWeight n s k l x on b c p q plan plan' → AnsweredByWeight n s k l x on b c plan plan' (planned p q)

-- .. demand 3 ..
pub record DecidedByWeight (n s k : ℕ) (l : WeightLists) (x : ℕ) (on : List ℕ) (b c : ℕ)
    (work plan work' plan' : List ℕ) (r : Searched) : Type 0 where
  pub no_plan_iff : (r ≡ no_plan) ↔ (SomePlanOnByWeight n s k l x on b c → ⊥)
  pub answered : AnsweredByWeight n s k l x on b c plan plan' r
  pub cleared : work' ≡ replicate (length work) 0

-- .. over all inputs, v being what 1 to 9 say ..
pub record SearchIfByWeight (v : Verdict) (n s k : ℕ) (l : WeightLists) (x : ℕ) (on : List ℕ) (b c : ℕ)
    (work plan work' plan' : List ℕ) (r : Searched) : Type 0 where
  pub refused : (y : Refusal) → v ≡ Err y → (r ≡ Err y) × (work' ≡ work) × (plan' ≡ plan)
  pub decided : v ≡ Ok tt → DecidedByWeight n s k l x on b c work plan work' plan' r

-- .. and the call
abbrev pub SearchByWeight : ℕ → ℕ → ℕ → WeightLists → ℕ → List ℕ → ℕ → ℕ → List ℕ → List ℕ → List ℕ → List ℕ → Searched → Type 0
SearchByWeight n s k l x on b c work plan work' plan' r =
    SearchIfByWeight (and_then (fitness_by_weight n s k l) (levels_and_spaces n k b c (length work) (length plan))) n s k l x on b c
    work plan work' plan' r

-- "the same verdicts as before": every call on the six lists l answers what the weights l' say, whatever else it is given
pub record SameAnswers (l : Lists) (l' : WeightLists) : Type 0 where
  pub judging : (n s k x b c p q : ℕ) (w : List ℕ) → judged n s k l x b c p q w ≡ judged_by_weight n s k l' x b c p q w
  pub starting : (n s k b c : ℕ) → started_of n s k l b c ≡ started_by_weight n s k l' b c
  pub stepping : (n s k b a : ℕ) (x : Gauge) → stepped_of n s k l b a x ≡ stepped_by_weight n s k l' b a x
  pub walking : (n s k x b c p q : ℕ) (w : List ℕ) (j t : ℕ) → walk_of n s k l x b c p q w j t ≡ walk_by_weight n s k l' x b c p q w j t
  pub searching : (n s k x : ℕ) (on : List ℕ) (b c : ℕ) (work plan work' plan' : List ℕ) (r : Searched)
      → SearchOf n s k l x on b c work plan work' plan' r ↔ SearchByWeight n s k l' x on b c work plan work' plan' r
