-- Smallest battery, least charge. Document 02, Ask 8: "Purchasing wants two numbers: for given b the least c with a plan, and for given c the least b, not
-- below c, with a plan and within the search's product ceiling." Ask 9: "Search and Ask 8 use only arcs that are on". x is the byte of barred colours, on the
-- words of the switches.
use Rattle.std.specs.Prelude.{ℕ, ◌+◌, ◌-◌, ◌*◌, ◌/◌, ◌≤◌, ◌<◌, ◌≡◌, List, ◌↔◌, ◌⊎◌, ltb, length, replicate, Result, Ok, Err}
use Rattle.limits.specs.Ceilings.{product_most, work_space}
use Rattle.refusals.specs.declared.Refusal.{Refusal}
use Rattle.refusals.specs.declared.Refusal.TheVariants.{Product, WorkingSpace, NoPlan}
use Rattle.refusals.specs.Refusals.{Verdict, answer, numbered, refuse, and_then}
use Rattle.model.specs.Automaton.{Automaton}
use Rattle.model.specs.Lists.{Lists, automaton_of}
use Rattle.model.specs.Fitness.{fitness, levels_of}
use Rattle.switches.specs.PlansOn.{SomePlanOn}
use Rattle.least.specs.declared.Sought.{Sought}
use Rattle.least.specs.declared.Sought.TheVariants.{Credit, Bound}
use Rattle.least.specs.declared.LeastAnswer.{LeastAnswer}

-- what is answered: the least level that serves, or a refusal
abbrev pub LeastFound : Type 0
LeastFound = Result ℕ Refusal

-- the bound and the credit of a try: one of the two levels is given, and the one that is sought is y
abbrev pub bound_at : Sought → ℕ → ℕ → ℕ
bound_at Credit given y = given
bound_at Bound given y = y

abbrev pub credit_at : Sought → ℕ → ℕ → ℕ
credit_at Credit given y = y
credit_at Bound given y = given

-- which levels are looked at: "for given b", the credits up to b; "for given c", the bounds "not below c, .. and within the search's product ceiling"
abbrev pub Allowed : Sought → ℕ → ℕ → ℕ → Type 0
Allowed Credit n b y = y ≤ b
Allowed Bound n c y = (c ≤ y) × (n * (y + 1) ≤ product_most)

-- "with a plan"
abbrev pub HasPlan : Sought → Automaton → ℕ → List ℕ → ℕ → ℕ → Type 0
HasPlan s g x on given y = SomePlanOn g x on (bound_at s given y) (credit_at s given y)

-- "Prove that the number serves, that each smaller one fails, and that each larger one allowed serves too."
pub record Least (Allow Serves : ℕ → Type 0) (m : ℕ) : Type 0 where
  pub allowed : Allow m
  pub serves : Serves m
  pub smaller : (y : ℕ) → Allow y → y < m → Serves y → ⊥
  pub larger : (y : ℕ) → Allow y → m < y → Serves y

-- 6: "b above 8,191"; a credit of 0 is above no bound. "A c that as b would already pass that ceiling is 7, with 6 not looked at."
abbrev pub level_of : Sought → ℕ → Verdict
level_of Credit b = levels_of b 0
level_of Bound c = Ok tt

-- the largest b within the search's product ceiling (theorem largest-bound)
abbrev pub largest_bound : ℕ → ℕ
largest_bound n = product_most / n - 1

-- "the largest b that may be tried"
abbrev pub largest_tried : Sought → ℕ → ℕ → ℕ
largest_tried Credit n b = b
largest_tried Bound n c = largest_bound n

-- 7, by the level that is given, b or "A c that as b would already pass that ceiling"; 8: the working space is search's, "sized for the largest b that may be
-- tried, a shorter one is 8"
unfoldable pub space_of : Sought → ℕ → ℕ → ℕ → ℕ → Verdict
space_of s n k given words =
    refuse (ltb product_most (n * (given + 1))) Product
    (refuse (ltb words (work_space k n (largest_tried s n given))) WorkingSpace
    (Ok tt))

-- 1 to 8, for any numbers, lists and spaces
unfoldable pub seekable : Sought → ℕ → ℕ → ℕ → Lists → ℕ → ℕ → Verdict
seekable s n start k l given words = and_then (fitness n start k l) (and_then (level_of s given) (space_of s n k given words))

-- "any refusal gives the value 0"
abbrev pub least_answer : LeastFound → LeastAnswer
least_answer (Ok m) = record { answer = answer 0 0; value = m }
least_answer (Err r) = record { answer = numbered r; value = 0 }

-- no level that is looked at serves
abbrev pub NoneServes : (ℕ → Type 0) → (ℕ → Type 0) → Type 0
NoneServes Allow Serves = (y : ℕ) → Allow y → Serves y → ⊥

-- The claim, over all inputs. v: what 1 to 8 say; r: what is answered.
pub record LeastClaim (v : Verdict) (Allow Serves : ℕ → Type 0) (work work' : List ℕ) (r : LeastFound) : Type 0 where
  pub refused : (y : Refusal) → v ≡ Err y → (r ≡ Err y) × (work' ≡ work)
  -- a number, or 10
  pub verdict : v ≡ Ok tt → ((m : ℕ) × (r ≡ Ok m)) ⊎ (r ≡ Err NoPlan)
  pub value : v ≡ Ok tt → (m : ℕ) → (r ≡ Ok m) ↔ Least Allow Serves m
  -- "Where none serves, the answer is 10"
  pub no_plan_iff : v ≡ Ok tt → (r ≡ Err NoPlan) ↔ NoneServes Allow Serves
  -- "it is zero after a number or 10"
  pub cleared : v ≡ Ok tt → work' ≡ replicate (length work) 0
  -- the same by document 01's numbers
  pub by_refusal : (y : Refusal) → v ≡ Err y → least_answer r ≡ record { answer = numbered y; value = 0 }
  pub number : v ≡ Ok tt → (m : ℕ) → (least_answer r ≡ record { answer = answer 0 0; value = m }) ↔ Least Allow Serves m
  pub ten : v ≡ Ok tt → (least_answer r ≡ record { answer = answer 10 0; value = 0 }) ↔ NoneServes Allow Serves

-- the claim of a call: by its numbers, lists and space
abbrev pub LeastOf : Sought → ℕ → ℕ → ℕ → Lists → ℕ → List ℕ → ℕ → List ℕ → List ℕ → LeastFound → Type 0
LeastOf s n start k l x on given work work' r =
    LeastClaim (seekable s n start k l given (length work)) (λ y. Allowed s n given y) (λ y. HasPlan s (automaton_of n start k l) x on given y) work work' r
