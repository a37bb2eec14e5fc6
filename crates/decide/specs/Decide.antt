-- The decision without a plan. Document 02, Ask 12: "Add a decision without a plan, on a working space of 16 × (k+1) × n 32-bit words". x is the byte of
-- barred colours, on the words of the switches.
use Rattle.std.specs.Prelude.{ℕ, ◌≡◌, Bool, true, false, List, ◌↔◌, ◌⊎◌, ltb, length, replicate, Ok, Err}
use Rattle.limits.specs.Ceilings.{decide_bound_most, decide_space}
use Rattle.refusals.specs.declared.Refusal.{Refusal}
use Rattle.refusals.specs.declared.Refusal.TheVariants.{WorkingSpace, NoPlan}
use Rattle.refusals.specs.Refusals.{Verdict, answer, numbered, answer_of, refuse, and_then}
use Rattle.model.specs.Automaton.{Automaton}
use Rattle.model.specs.Lists.{Lists, automaton_of}
use Rattle.model.specs.Fitness.{fitness, levels_within}
use Rattle.switches.specs.PlansOn.{SomePlanOn}

-- 8: "a short space is 8"
unfoldable pub space_of : ℕ → ℕ → ℕ → Verdict
space_of n k words = refuse (ltb words (decide_space k n)) WorkingSpace (Ok tt)

-- "Here 6 is given only where b is above 1,000,000 or c above b, 7 and 9 are not looked at"
unfoldable pub levels_and_space : ℕ → ℕ → ℕ → ℕ → ℕ → Verdict
levels_and_space n k b c words = and_then (levels_within decide_bound_most b c) (space_of n k words)

-- 1 to 6 and 8, for any numbers, lists and spaces
unfoldable pub decidable : ℕ → ℕ → ℕ → Lists → ℕ → ℕ → ℕ → Verdict
decidable n s k l b c words = and_then (fitness n s k l) (levels_and_space n k b c words)

-- "yes .., and otherwise 10"
abbrev pub answer_if : Bool → Verdict
answer_if true = Ok tt
answer_if false = Err NoPlan

-- The decision, over all inputs. v: what 1 to 6 and 8 say; r: what is answered.
pub record Decision (v : Verdict) (g : Automaton) (x : ℕ) (on : List ℕ) (b c : ℕ) (work work' : List ℕ) (r : Verdict) : Type 0 where
  pub refused : (y : Refusal) → v ≡ Err y → (r ≡ Err y) × (work' ≡ work)
  -- "It says yes exactly when a feasible accepted plan of any length exists, from on arcs and with barred colours heeded, and otherwise 10."
  pub verdict : v ≡ Ok tt → (r ≡ Ok tt) ⊎ (r ≡ Err NoPlan)
  pub yes : v ≡ Ok tt → (r ≡ Ok tt) ↔ SomePlanOn g x on b c
  pub no_plan_iff : v ≡ Ok tt → (r ≡ Err NoPlan) ↔ (SomePlanOn g x on b c → ⊥)
  -- "the space is zero after a verdict"
  pub cleared : v ≡ Ok tt → work' ≡ replicate (length work) 0
  -- the same by document 01's numbers
  pub by_refusal : (y : Refusal) → v ≡ Err y → answer_of r ≡ numbered y
  pub zero : v ≡ Ok tt → (answer_of r ≡ answer 0 0) ↔ SomePlanOn g x on b c
  pub ten : v ≡ Ok tt → (answer_of r ≡ answer 10 0) ↔ (SomePlanOn g x on b c → ⊥)

-- the claim of the call: by its numbers, lists and space
abbrev pub DecideOf : ℕ → ℕ → ℕ → Lists → ℕ → List ℕ → ℕ → ℕ → List ℕ → List ℕ → Verdict → Type 0
DecideOf n s k l x on b c work work' r = Decision (decidable n s k l b c (length work)) (automaton_of n s k l) x on b c work work' r
