-- Where a step of the gauge stops, on all inputs. Document 01: "A gauge step uses 1 to 6, then 12, 13, 15 with detail 0, and a refusal leaves
-- the gauge as found." Document 02, Ask 3: 22 "is looked at after 6 and before 12, detail 0". Assumes nothing.
use Rattle.std.specs.Prelude.{Option, Some, None, Ok, Err}
use mathlib.Core.Path.{◌≡◌, refl, sym, ap}
use mathlib.Core.Bool.{Bool, true, false, not}
use mathlib.Core.Logic.{◌⊎◌, inl, inr}
use Prim.Native.Nat.{ℕ, ◌+◌}
use lib.Dec.{leb, ltb, eqb}
use lib.ListN.{length}
use Rattle.limits.specs.Ceilings.{spill_most}
use Rattle.walks.specs.declared.Step.{Step}
use Rattle.walks.specs.BoundedStep.{stepped}
use Rattle.refusals.specs.declared.Refusal.{Refusal}
use Rattle.refusals.specs.declared.Refusal.TheVariants.{ArcNumber, OtherMode, ImpossibleStep, MixedGauge}
use Rattle.refusals.specs.Refusals.{Verdict, refuse, and_then}
use Rattle.refusals.proofs.Verdicts.{clash}
use Rattle.model.specs.Automaton.{Automaton, arc_at, move_of}
use Rattle.model.specs.Lists.{Lists, automaton_of}
use Rattle.model.specs.Fitness.{fitness, levels_of}
use Rattle.gauge.specs.declared.Gauge.{Gauge}
use Rattle.gauge.specs.Gauge.{Gauged, gauge_or, moved_to, landed, moved_of, Matches, mixed_up, moved_matched, moved_levelled, stepped_of}
use Rattle.gauge.proofs.Gauges.{mixed-no}

module _ (By : Refusal → Type 0) where
  -- what a step of x answers: a refusal by one of these, or x moved to another mode, charge and total, and in nothing else
  abbrev pub Outcome : Gauge → Gauged → Type 0
  Outcome x y = ((r : Refusal) × By r × (y ≡ Err r)) ⊎ ((t : ℕ) × (e : ℕ) × (s : ℕ) × (y ≡ Ok (moved_to x t e s)))

  -- a row, and what is checked after it
  row-outcome : (t : Bool) (q : Refusal) (x : Gauge) (y : Gauged) → (t ≡ true → By q) → (t ≡ false → Outcome x y) → Outcome x (refuse t q y)
  row-outcome true q x y here after = inl (q, here refl, refl)
  row-outcome false q x y here after = after refl

  -- a check, and what follows it
  then-outcome : (v : Verdict) (x : Gauge) (y : Gauged) → ((r : Refusal) → v ≡ Err r → By r) → (v ≡ Ok tt → Outcome x y) → Outcome x (and_then v y)
  then-outcome (Ok _) x y first second = second refl
  then-outcome (Err r) x y first second = inl (r, first r refl, refl)

  -- 15
  landed-outcome : By (ImpossibleStep 0) → (x : Gauge) (t : ℕ) (s : Option Step) → Outcome x (landed x t s)
  landed-outcome here x t (Some u) =
      row-outcome (ltb spill_most (x.spill + u.lost)) (ImpossibleStep 0) x (Ok (moved_to x t u.charge (x.spill + u.lost))) (λ _. here)
      (λ _. inr (t, u.charge, x.spill + u.lost, refl))
  landed-outcome here x t None = inl (ImpossibleStep 0, here, refl)

  -- 12, 13 and 15
  moved-outcome : By (ArcNumber 0) → By (OtherMode 0) → By (ImpossibleStep 0) → (g : Automaton) (b a : ℕ) (x : Gauge) → Outcome x (moved_of g b a x)
  unfolding moved_of
  moved-outcome number mode step g b a x =
      let f = stepped b (move_of (arc_at g a)) x.charge in
      let lands = landed x (arc_at g a).target f in
      let other = not (eqb (arc_at g a).source x.mode) in
      row-outcome (leb (length g.arcs) a) (ArcNumber 0) x (refuse other (OtherMode 0) lands) (λ _. number)
      (λ _. row-outcome other (OtherMode 0) x lands (λ _. mode) (λ _. landed-outcome step x (arc_at g a).target f))

-- what a step is refused by: 1 to 5; else 6; else 22, where the gauge does not match; else 12, 13 or 15; the last four have detail 0
abbrev pub StepRefusal : ℕ → ℕ → ℕ → Lists → ℕ → Gauge → Refusal → Type 0
StepRefusal n s k l b x r =
    (fitness n s k l ≡ Err r)
    ⊎ ((fitness n s k l ≡ Ok tt)
    × ((levels_of b x.charge ≡ Err r)
    ⊎ ((levels_of b x.charge ≡ Ok tt)
    × (((Matches (automaton_of n s k l) b x → ⊥) × (r ≡ MixedGauge))
    ⊎ (Matches (automaton_of n s k l) b x × ((r ≡ ArcNumber 0) ⊎ (r ≡ OtherMode 0) ⊎ (r ≡ ImpossibleStep 0)))))))

module _ (n s k : ℕ) (l : Lists) (b a : ℕ) (x : Gauge) where
  pub step-outcome : Outcome (StepRefusal n s k l b x) x (stepped_of n s k l b a x)
  unfolding stepped_of moved_levelled moved_matched
  step-outcome =
      let g = automaton_of n s k l in
      let By : Refusal → Type 0 = StepRefusal n s k l b x in
      then-outcome By (fitness n s k l) x (moved_levelled g b a x) (λ r e. inl e) λ fit.
      then-outcome By (levels_of b x.charge) x (moved_matched g b a x) (λ r e. inr (fit, inl e)) λ levels.
      row-outcome By (mixed_up n (length g.arcs) b x) MixedGauge x (moved_of g b a x)
      (λ e. inr (fit, inr (levels, inl ((λ m. let no = (mixed-no g b x).1 m in clash (cc)), refl)))) λ through.
      let last : (r : Refusal) → (r ≡ ArcNumber 0) ⊎ (r ≡ OtherMode 0) ⊎ (r ≡ ImpossibleStep 0) → By r =
      λ r e. inr (fit, inr (levels, inr ((mixed-no g b x).0 through, e)))
      in
      moved-outcome By (last (ArcNumber 0) (inl refl)) (last (OtherMode 0) (inr (inl refl))) (last (ImpossibleStep 0) (inr (inr refl))) g b a x

  -- so a refused step leaves the gauge as found
  pub step-stops : (r : Refusal) → stepped_of n s k l b a x ≡ Err r → (gauge_or x (stepped_of n s k l b a x) ≡ x) × StepRefusal n s k l b x r
  step-stops r e = go step-outcome
    where
      go : Outcome (StepRefusal n s k l b x) x (stepped_of n s k l b a x) → (gauge_or x (stepped_of n s k l b a x) ≡ x) × StepRefusal n s k l b x r
      go (inl (q, by, p)) = let same : q ≡ r = cc in (ap {B = Gauge} (gauge_or x) p, rw (sym same) by)
      go (inr (t, f, u, p)) = clash (cc)
