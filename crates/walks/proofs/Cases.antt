-- The bounded step's cases: any charge, move and bound fall under exactly one of the four, and the step is what each case says. Assumes nothing.
use mathlib.Core.Path.{◌≡◌, refl, sym, ◌∙◌, subst}
use mathlib.Core.Logic.{◌↔◌}
use Prim.Native.Nat.{ℕ, ◌+◌, ◌-◌, ◌≤◌}
use native.Mathlib.Omega.{arith}
use native.Mathlib.Decide.{dec_le}
use borrow.Author.Tests.{lt-ltb, le-ltb, le-leb, lt-leb, eq-eqb, ne_eqb}
use Rattle.walks.specs.BoundedStep.{to}
use Rattle.walks.specs.declared.StepCase.{StepCase}
use Rattle.walks.specs.declared.StepCase.TheVariants.{TooLittle, Below, Exactly, Above}
use Rattle.walks.specs.BoundedStep.{Move, stepped}
use Rattle.walks.specs.Cases.{Falls, FallsUnderOne, bound_case, step_case, step_in}
use Rattle.walks.proofs.Walks.{stepped-possible, stepped-impossible}

pub to-equal : {x y l k : ℕ} → x ≡ y → l ≡ k → to x l ≡ to y k
to-equal p q = rw (p, q) refl

module _ (b : ℕ) (m : Move) (e : ℕ) where
  -- a possible move's case is that of its sum
  pub possible-case : m.draw ≤ e → step_case b m e ≡ bound_case b (e - m.draw + m.gain)
  unfolding step_case
  possible-case h = simp (le-leb m.draw e h)

  -- what falls under a case has that one
  pub falls-case : (x : StepCase) → Falls x b m e → step_case b m e ≡ x
  unfolding step_case
  falls-case TooLittle h = simp (lt-leb m.draw e h)
  falls-case Below (h, k) = possible-case h ∙ simp (lt-ltb (e - m.draw + m.gain) b k)
  falls-case Exactly (h, k) =
      let x = e - m.draw + m.gain in
      possible-case h ∙ simp (le-ltb x b (omega arith), eq-eqb x b k)
  falls-case Above (h, k) =
      let x = e - m.draw + m.gain in
      possible-case h ∙ simp (le-ltb x b (omega arith), ne_eqb x b (λ q. omega arith))

  -- there is a case that they fall under ..
  pub some-case : (x : StepCase) × Falls x b m e
  some-case =
      elim (dec_le m.draw e) [
        | no h ↦ (TooLittle, omega arith)
        | yes h ↦
            elim (dec_le b (e - m.draw + m.gain)) [
              | no k ↦ (Below, (h, omega arith))
              | yes k ↦
                  elim (dec_le (e - m.draw + m.gain) b) [
                    | no l ↦ (Above, (h, omega arith))
                    | yes l ↦ (Exactly, (h, omega arith))
                  ]
            ]
      ]

  -- .. no two ..
  pub no-two-cases : (x y : StepCase) → Falls x b m e → Falls y b m e → x ≡ y
  no-two-cases x y f g = sym (falls-case x f) ∙ falls-case y g

  -- .. so exactly one
  pub one-case : FallsUnderOne b m e
  one-case = let (x, f) = some-case in (x, f, λ y g. no-two-cases y x g f)

  -- and the one that they fall under is step_case's
  pub case-falls : (x : StepCase) → (step_case b m e ≡ x) ↔ Falls x b m e
  case-falls x = let (y, f) = some-case in (λ q. subst (λ z. Falls z b m e) (sym (falls-case y f) ∙ q) f, falls-case x)

  falls-in : (x : StepCase) → Falls x b m e → stepped b m e ≡ step_in x b m e
  falls-in TooLittle h = stepped-impossible b m e h
  falls-in Below (h, k) = stepped-possible b m e h ∙ to-equal (omega arith) (omega arith)
  falls-in Exactly (h, k) = stepped-possible b m e h ∙ to-equal (omega arith) (omega arith)
  falls-in Above (h, k) = stepped-possible b m e h ∙ to-equal (omega arith) (omega arith)

  -- the bounded step is the one that its case says
  pub stepped-case : stepped b m e ≡ step_in (step_case b m e) b m e
  stepped-case = falls-in (step_case b m e) ((case-falls (step_case b m e)).0 refl)
