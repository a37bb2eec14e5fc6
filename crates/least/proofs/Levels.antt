-- The levels of a try and the range in which the least is sought: more charge and a larger bound serve no worse; the largest bound within the product
-- ceiling. Assumes nothing.
use mathlib.Core.List.{List}
use mathlib.Core.Logic.{◌↔◌}
use Prim.Native.Nat.{ℕ, ◌+◌, ◌*◌, ◌/◌, ◌≤◌, ◌<◌}
use native.Mathlib.Nat.{mul_comm, mul-le-mul, le-div_iff_mul-le}
use native.Mathlib.Omega.{arith}
use Rattle.limits.specs.Ceilings.{modes_most, bound_most, product_most}
use Rattle.model.specs.Automaton.{Automaton}
use Rattle.switches.specs.PlansOn.{SomePlanOn}
use Rattle.switches.proofs.PlansOn.{some-plan-wider}
use Rattle.least.specs.declared.Sought.{Sought}
use Rattle.least.specs.declared.Sought.TheVariants.{Credit, Bound}
use Rattle.least.specs.Least.{bound_at, credit_at, Allowed, HasPlan, largest_bound, largest_tried}
use Rattle.least.specs.Within.{lowest_tried}
use Rattle.least.proofs.Halving.{Monotone}

-- a higher level that is sought lowers neither bound nor credit
pub bound-grows : (s : Sought) (given y z : ℕ) → y ≤ z → bound_at s given y ≤ bound_at s given z
bound-grows Credit given y z h = omega arith
bound-grows Bound given y z h = h

pub credit-grows : (s : Sought) (given y z : ℕ) → y ≤ z → credit_at s given y ≤ credit_at s given z
credit-grows Credit given y z h = h
credit-grows Bound given y z h = omega arith

module _ (g : Automaton) (x : ℕ) (on : List ℕ) where
  -- "each larger one allowed serves too": monotone in the credit ..
  pub plan-more-charge : (b : ℕ) → Monotone (λ c. SomePlanOn g x on b c)
  plan-more-charge b c c' h = some-plan-wider g x on b b c c' (omega arith) h

  -- .. and in the bound
  pub plan-larger-bound : (c : ℕ) → Monotone (λ b. SomePlanOn g x on b c)
  plan-larger-bound c b b' h = some-plan-wider g x on b b' c c h (omega arith)

  -- of the level that is sought
  pub plan-grows : (s : Sought) (given : ℕ) → Monotone (λ y. HasPlan s g x on given y)
  plan-grows Credit given = plan-more-charge given
  plan-grows Bound given = plan-larger-bound given

-- a product within the ceiling has a factor within it
pub factor-low : (n y : ℕ) → 0 < n → n * (y + 1) ≤ product_most → y ≤ bound_most
factor-low n y some h = let one : 1 ≤ n = some in let all : y + 1 ≤ y + 1 = omega arith in omega (arith, mul-le-mul one all)

-- the largest bound within the product ceiling is one, and no larger one is
pub largest-bound : (n b : ℕ) → 0 < n → n ≤ modes_most → (n * (b + 1) ≤ product_most) ↔ (b ≤ largest_bound n)
largest-bound n b some few =
    let quotient : (b + 1 ≤ product_most / n) ↔ ((b + 1) * n ≤ product_most) = le-div_iff_mul-le some in
    let one : 1 ≤ product_most / n = (le-div_iff_mul-le some).1 (omega arith) in (
      λ h. omega (arith, quotient.1 (omega (arith, mul_comm n (b + 1)))),
      λ h. omega (arith, mul_comm n (b + 1), quotient.0 (omega arith)),
    )

-- the levels that are looked at are those of a range
pub allowed-range : (s : Sought) (n given y : ℕ) → 0 < n → n ≤ modes_most → Allowed s n given y ↔ ((lowest_tried s given ≤ y) × (y ≤ largest_tried s n given))
allowed-range Credit n given y some few = (λ h. (omega arith, h), λ h. h.1)
allowed-range Bound n given y some few =
    let largest = largest-bound n y some few in
    (λ h. (h.0, largest.0 h.1), λ h. (h.0, largest.1 h.1))
