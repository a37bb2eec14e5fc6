-- An old weight and its move. Document 02, Ask 4: "models without both parts must get the same verdicts as before". Assumes nothing.
use Rattle.std.specs.Prelude.{Option}
use mathlib.Core.Path.{◌≡◌, sym, ap, ◌∙◌}
use mathlib.Core.Logic.{◌⊎◌, inl, inr, ⊎_elim}
use Prim.Native.Nat.{ℕ, suc, zero-le, ◌+◌, ◌-◌, ◌≤◌, ◌<◌}
use native.Mathlib.Omega.{arith}
use native.Mathlib.Decide.{dec_le}
use lib.IntN.{ℤ, pos, negsuc, ◌+ℤ◌}
use Rattle.walks.specs.declared.Step.{Step}
use Rattle.walks.specs.declared.StepCase.{StepCase}
use Rattle.walks.specs.declared.StepCase.TheVariants.{TooLittle}
use Rattle.walks.specs.BoundedStep.{stepped}
use Rattle.walks.specs.Cases.{step_case, sum_case, weight_case}
use Rattle.walks.specs.Weights.{move_of_weight, clipped, weighed}
use Rattle.walks.proofs.Cases.{possible-case, falls-case}
use Rattle.walks.proofs.Sums.{difference, deficit}
use Rattle.walks.proofs.Walks.{stepped-possible, stepped-impossible}

-- the sum of charge and weight: e - draw + gain where the weight's move is possible, and below 0 where it is not
weight-sum : (w : ℤ) (e : ℕ) → let m = move_of_weight w in
    ((m.draw ≤ e) × (pos e +ℤ w ≡ pos (e - m.draw + m.gain))) ⊎ ((e < m.draw) × ((x : ℕ) × (pos e +ℤ w ≡ negsuc x)))
weight-sum (pos x) e = inl (zero-le, ap {B = ℤ} pos (omega arith))
weight-sum (negsuc x) e =
    elim (dec_le (suc x) e) [
      | yes h ↦ inl (h, difference e (suc x) h ∙ ap {B = ℤ} pos (omega arith))
      | no h ↦ inr (omega arith, (x - e, deficit e (suc x) (omega arith) ∙ ap {B = ℤ} negsuc (omega arith)))
    ]

module _ (b : ℕ) (w : ℤ) (e : ℕ) where
  -- the step by a weight's move is the step with the weight ..
  pub stepped-weight : stepped b (move_of_weight w) e ≡ weighed b w e
  unfolding weighed
  stepped-weight =
      let m = move_of_weight w in
      ⊎_elim
      (λ (h, q). stepped-possible b m e h ∙ sym (ap {B = Option Step} (clipped b) q))
      (λ (h, (x, q)). stepped-impossible b m e h ∙ sym (ap {B = Option Step} (clipped b) q))
      (weight-sum w e)

  -- .. and its case is that of the sum
  pub weight-case : step_case b (move_of_weight w) e ≡ weight_case b w e
  unfolding weight_case
  weight-case =
      let m = move_of_weight w in
      ⊎_elim
      (λ (h, q). possible-case b m e h ∙ sym (ap {B = StepCase} (sum_case b) q))
      (λ (h, (x, q)). falls-case b m e TooLittle h ∙ sym (ap {B = StepCase} (sum_case b) q))
      (weight-sum w e)
