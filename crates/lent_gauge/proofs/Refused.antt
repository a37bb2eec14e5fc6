-- A refusal leaves the gauge: where a step's number is not 0, its gauge is the one it was given. And what a lent step says: it leaves nothing
-- free. Assumes nothing.
use Rattle.std.specs.Prelude.{Ok, Err}
use mathlib.Core.Path.{◌≡◌, refl, sym, ap, ◌∙◌}
use Prim.Native.Nat.{ℕ}
use Rattle.refusals.specs.declared.Answer.{Answer}
use Rattle.refusals.specs.Refusals.{verdict_of, answer_of}
use Rattle.model.specs.Lists.{Lists}
use Rattle.gauge.specs.declared.Gauge.{Gauge}
use Rattle.gauge.specs.Gauge.{Gauged, gauge_or, stepped_of}
use Rattle.gauge.proofs.Stops.{step-stops}
use Rattle.lent_gauge.specs.Moved.{LentStep}

pub stepped-keeps : (n s k : ℕ) (l : Lists) (b a : ℕ) (x : Gauge) → ((answer_of (verdict_of (stepped_of n s k l b a x))).number ≡ 0 → ⊥)
    → gauge_or x (stepped_of n s k l b a x) ≡ x
stepped-keeps n s k l b a x refused = go (stepped_of n s k l b a x) refl
  where
    go : (y : Gauged) → stepped_of n s k l b a x ≡ y → gauge_or x (stepped_of n s k l b a x) ≡ x
    go (Ok y) e = absurd (refused (ap {B = ℕ} (λ (y : Gauged). (answer_of (verdict_of y)).number) e))
    go (Err r) e = (step-stops n s k l b a x r e).0

module _ {n s k : ℕ} {l : Lists} {b a : ℕ} {x y : Gauge} {r : Answer} (h : LentStep n s k l b a x y r) where
  -- "a refusal leaves the gauge as found"
  pub lent-kept : (r.number ≡ 0 → ⊥) → y ≡ x
  lent-kept refused = h.as_found refused

  -- the call decides the answer and the gauge
  pub lent_same : {y₂ : Gauge} {r₂ : Answer} → LentStep n s k l b a x y₂ r₂ → (r ≡ r₂) × (y ≡ y₂)
  lent_same h₂ = (h.answered ∙ sym h₂.answered, h.moved_on ∙ sym h₂.moved_on)
