-- The numbers of the table: no two refusals share one, 0 is that of the yes alone, and each fits a byte. Assumes nothing.
use mathlib.Core.Path.{◌≡◌, refl, sym, ap, ◌∙◌}
use mathlib.Core.Bool.{Bool, false, cond, ◌||◌}
use mathlib.Core.Logic.{◌↔◌}
use Prim.Native.Nat.{ℕ, ◌^◌, ◌<◌}
use native.Mathlib.Omega.{arith}
use lib.Dec.{eqb}
use Rattle.refusals.specs.declared.Answer.{Answer}
use Rattle.std.specs.Prelude.{Ok, Err}
use Rattle.refusals.specs.declared.Refusal.{Refusal}
use Rattle.refusals.specs.declared.Refusal.TheVariants.{ModeCount, StartMode, ArcLists, ColourCount, UnfitArc, Levels, Product, WorkingSpace, PlanBuffer, NoPlan, PlanLength, ArcNumber, OtherMode, OpenCycle, ImpossibleStep, FallingCycle, MissingColour, NoSuchColour, HoaLine, DimacsLine, TextsDisagree, MixedGauge, JoinSize, BarredColour}
use Rattle.refusals.specs.Refusals.{Verdict, numbered, answer_of}
use Rattle.refusals.proofs.Verdicts.{clash}

-- the numbers of refusals are not 0, and fit a byte
pub refusal-number : (r : Refusal) → (0 < (numbered r).number) × ((numbered r).number < 2 ^ 8)
refusal-number ModeCount = omega arith
refusal-number StartMode = omega arith
refusal-number ArcLists = omega arith
refusal-number ColourCount = omega arith
refusal-number (UnfitArc d) = omega arith
refusal-number Levels = omega arith
refusal-number Product = omega arith
refusal-number WorkingSpace = omega arith
refusal-number PlanBuffer = omega arith
refusal-number NoPlan = omega arith
refusal-number PlanLength = omega arith
refusal-number (ArcNumber d) = omega arith
refusal-number (OtherMode d) = omega arith
refusal-number OpenCycle = omega arith
refusal-number (ImpossibleStep d) = omega arith
refusal-number FallingCycle = omega arith
refusal-number (MissingColour d) = omega arith
refusal-number NoSuchColour = omega arith
refusal-number (HoaLine d) = omega arith
refusal-number (DimacsLine d) = omega arith
refusal-number TextsDisagree = omega arith
refusal-number MixedGauge = omega arith
refusal-number JoinSize = omega arith
refusal-number (BarredColour d) = omega arith

-- the refusal that a number and a detail stand for
abbrev refusal_of : Answer → Refusal
refusal_of x =
    cond (eqb x.number 1) ModeCount
    (cond (eqb x.number 2) StartMode
    (cond (eqb x.number 3) ArcLists
    (cond (eqb x.number 4) ColourCount
    (cond (eqb x.number 5) (UnfitArc x.detail)
    (cond (eqb x.number 6) Levels
    (cond (eqb x.number 7) Product
    (cond (eqb x.number 8) WorkingSpace
    (cond (eqb x.number 9) PlanBuffer
    (cond (eqb x.number 10) NoPlan
    (cond (eqb x.number 11) PlanLength
    (cond (eqb x.number 12) (ArcNumber x.detail)
    (cond (eqb x.number 13) (OtherMode x.detail)
    (cond (eqb x.number 14) OpenCycle
    (cond (eqb x.number 15) (ImpossibleStep x.detail)
    (cond (eqb x.number 16) FallingCycle
    (cond (eqb x.number 17) (MissingColour x.detail)
    (cond (eqb x.number 18) NoSuchColour
    (cond (eqb x.number 19) (HoaLine x.detail)
    (cond (eqb x.number 20) (DimacsLine x.detail)
    (cond (eqb x.number 21) TextsDisagree
    (cond (eqb x.number 22) MixedGauge
    (cond (eqb x.number 23) JoinSize
    (cond (eqb x.number 24) (BarredColour x.detail)
    ModeCount)))))))))))))))))))))))

refusal-back : (r : Refusal) → refusal_of (numbered r) ≡ r
refusal-back ModeCount = refl
refusal-back StartMode = refl
refusal-back ArcLists = refl
refusal-back ColourCount = refl
refusal-back (UnfitArc d) = refl
refusal-back Levels = refl
refusal-back Product = refl
refusal-back WorkingSpace = refl
refusal-back PlanBuffer = refl
refusal-back NoPlan = refl
refusal-back PlanLength = refl
refusal-back (ArcNumber d) = refl
refusal-back (OtherMode d) = refl
refusal-back OpenCycle = refl
refusal-back (ImpossibleStep d) = refl
refusal-back FallingCycle = refl
refusal-back (MissingColour d) = refl
refusal-back NoSuchColour = refl
refusal-back (HoaLine d) = refl
refusal-back (DimacsLine d) = refl
refusal-back TextsDisagree = refl
refusal-back MixedGauge = refl
refusal-back JoinSize = refl
refusal-back (BarredColour d) = refl

-- "with one detail (0 where none is named)": the numbers that name one are 5, 12, 13, 15, 17, 19, 20 and 24
abbrev names_detail : ℕ → Bool
names_detail n = eqb n 5 || eqb n 12 || eqb n 13 || eqb n 15 || eqb n 17 || eqb n 19 || eqb n 20 || eqb n 24

pub detail-none : (r : Refusal) → names_detail (numbered r).number ≡ false → (numbered r).detail ≡ 0
detail-none ModeCount e = refl
detail-none StartMode e = refl
detail-none ArcLists e = refl
detail-none ColourCount e = refl
detail-none (UnfitArc d) e = clash (cc)
detail-none Levels e = refl
detail-none Product e = refl
detail-none WorkingSpace e = refl
detail-none PlanBuffer e = refl
detail-none NoPlan e = refl
detail-none PlanLength e = refl
detail-none (ArcNumber d) e = clash (cc)
detail-none (OtherMode d) e = clash (cc)
detail-none OpenCycle e = refl
detail-none (ImpossibleStep d) e = clash (cc)
detail-none FallingCycle e = refl
detail-none (MissingColour d) e = clash (cc)
detail-none NoSuchColour e = refl
detail-none (HoaLine d) e = clash (cc)
detail-none (DimacsLine d) e = clash (cc)
detail-none TextsDisagree e = refl
detail-none MixedGauge e = refl
detail-none JoinSize e = refl
detail-none (BarredColour d) e = clash (cc)

-- a number and a detail are those of one refusal alone
pub refusal-one : (q r : Refusal) → numbered q ≡ numbered r → q ≡ r
refusal-one q r e = sym (refusal-back q) ∙ ap {B = Refusal} refusal_of e ∙ refusal-back r

-- 0 is the number of the yes alone
pub yes-number : (v : Verdict) → ((answer_of v).number ≡ 0) ↔ (v ≡ Ok tt)
yes-number (Ok _) = (λ e. refl, λ e. refl)
yes-number (Err r) = (λ e. absurd (omega (arith, refusal-number r)), λ e. ap (λ (v : Verdict). (answer_of v).number) e)

module _ {A B : Type 0} (f : A → B) where
  -- what is answered, and with it its number, by the definition f that gives it
  pub in-number : {x y : A} → x ≡ y → (x ≡ y) × (f x ≡ f y)
  in-number e = (e, ap {B = B} f e)
