-- `Problem::halve` meets its contract: at every turn the levels below the ones that are left fail, and the highest of these serves. Assumes nothing.
use mathlib.Core.Path.{sym, subst, ◌∙◌}
use mathlib.Core.Bool.{false≢true}
use Prim.Native.Nat.{ℕ, ◌+◌, ◌-◌, ◌/◌, ◌≤◌, ◌<◌}
use native.Mathlib.Omega.{arith}
use Rattle.least.specs.Within.{LassoAt}
use Rattle.least.proofs.Halving.{Narrowed, narrowed-above, narrowed-last}
use Rattle.least.proofs.Standing.{lasso-grows}
use Rattle.least.proofs.Problem.halve.Goals as goal

-- the middle of what is left
middle-within : (low high : ℕ) → low < high → (low ≤ low + (high - low) / 2) × (low + (high - low) / 2 < high)
middle-within low high h = (omega arith, omega arith)

pub loop-low-preserved : goal.loop-low-preserved
loop-low-preserved c =
    let l = c.loop-low in
    let a = c.args in
    let (above, below) = middle-within l.low l.high c.loop-low-test.true in
    subst (λ (n : ℕ). Narrowed (LassoAt a.self.now) a.self.now.lowest a.self.now.highest n l.high) (omega arith)
    (narrowed-above _ (lasso-grows a.self.now) l.invariant above below
    (λ lasso. false≢true (sym c.if-has_plan.false ∙ c.has_plan.ensures.1 lasso)))

pub returns : goal.returns
returns c =
    let l = c.loop-low in
    let a = c.args in
    narrowed-last (lasso-grows a.self.now) l.invariant c.loop-low-test.false
