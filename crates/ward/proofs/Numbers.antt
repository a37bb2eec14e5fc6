-- Which numbers a ward answers: of an unfit model 1, 3, 4 or 5, and of a wearer none of these. So the number tells whether verdicts were written.
-- Assumes nothing.
use Rattle.std.specs.Prelude.{Ok, Err}
use mathlib.Core.Path.{◌≡◌, refl, sym, ap, ◌∙◌}
use mathlib.Core.Bool.{Bool, true, false, not, ◌||◌}
use mathlib.Core.List.{List}
use mathlib.Core.Logic.{◌↔◌}
use Prim.Native.Nat.{ℕ, ◌^◌}
use native.Mathlib.Omega.{arith}
use lib.Dec.{leb, ltb, eqb}
use lib.ListN.{length, get_or}
use borrow.Author.Tests.{ne_eqb}
use Rattle.limits.specs.Ceilings.{modes_most, colours_most, bound_most}
use Rattle.refusals.specs.declared.Answer.{Answer}
use Rattle.refusals.specs.declared.Refusal.{Refusal}
use Rattle.refusals.specs.declared.Refusal.TheVariants.{ModeCount, StartMode, ArcLists, ColourCount, Levels}
use Rattle.refusals.specs.Refusals.{Verdict, numbered, answer_of}
use Rattle.refusals.proofs.Verdicts.{clash}
use Rattle.refusals.proofs.Numbers.{refusal-number}
use Rattle.refusals.proofs.Each.{refuse-each, then-each, scan-each}
use Rattle.model.specs.Lists.{Lists, arcs_of, automaton_of}
use Rattle.model.specs.Fitness.{unfit_lists, levels_of}
use Rattle.model.proofs.Fitness.{arcs-scan}
use Rattle.judge.specs.Judged.{judged_levels, judged, judged_answer}
use Rattle.judge.proofs.Each.{OfPlans, plan-each}
use Rattle.ward.specs.declared.Wearer.{Wearer}
use Rattle.ward.specs.Ward.{ward_fitness, WardOf}
use Rattle.ward.proofs.SoFar.{no_wearer}
use Rattle.ward.proofs.Unfit.{ward-order, ward-wearer, ward-fitness-yes}
use Rattle.ward.proofs.Wards.{ward-unfit, ward-verdict, ward-place}

-- "An unfit model met before any wearer (1, 3, 4, 5)"
abbrev pub unfit_number : ℕ → Bool
unfit_number m = eqb m 1 || eqb m 3 || eqb m 4 || eqb m 5

-- any other number: 0, or that of a wearer's verdict
abbrev other_number : ℕ → Bool
other_number m = not (unfit_number m)

-- the number of a verdict passes a test
record Passes (test : ℕ → Bool) (v : Verdict) : Type 0 where
  number : test (answer_of v).number ≡ true

-- 11 to 16, 24 and 17: none of them is 1, 3, 4 or 5
of-plans : OfPlans (Passes other_number)
of-plans = record {
  of_yes = record { number = refl };
  of_length = record { number = refl };
  of_number = λ d i. record { number = refl };
  of_mode = λ d i. record { number = refl };
  of_open = record { number = refl };
  of_step = λ d i. record { number = refl };
  of_falling = record { number = refl };
  of_barred = λ d i. record { number = refl };
  of_missing = λ j i. record { number = refl };
}

module _ (n k : ℕ) (l : Lists) where
  -- the model: yes, 1, 3, 4 and 5
  unfit-pass : Passes (λ m. eqb m 0 || unfit_number m) (ward_fitness n k l)
  unfit-pass =
      let unfit = Passes (λ m. eqb m 0 || unfit_number m) in
      rw (ward-order n k l)
      (refuse-each unfit (eqb n 0 || ltb modes_most n) ModeCount (record { number = refl })
      (refuse-each unfit
      (unfit_lists (length l.sources) (length l.targets) (length l.draws) (length l.gains) (length l.colours) (length l.actions))
      ArcLists (record { number = refl })
      (refuse-each unfit (ltb colours_most k) ColourCount (record { number = refl })
      (scan-each unfit (arcs-scan n (2 ^ k) (arcs_of l)) (record { number = refl }) λ a i. record { number = refl }))))

  -- a wearer of a fit model: 2 and 6 are none of them either
  wearer-passes : ward_fitness n k l ≡ Ok tt → (s x b c p q : ℕ) (w : List ℕ) → Passes other_number (judged n s k l x b c p q w)
  unfolding judged_levels levels_of
  wearer-passes fit s x b c p q w =
      let P = Passes other_number in
      rw (ward-wearer n k l fit s x b c p q w)
      (refuse-each P (leb n s) StartMode (record { number = refl })
      (then-each P (levels_of b c) (refuse-each P (ltb bound_most b || ltb b c) Levels (record { number = refl }) (record { number = refl })) λ _.
      plan-each P of-plans (automaton_of n s k l) x b c p q w ((ward-fitness-yes n k l).0 fit).1.few_colours))

not-both : (t : Bool) → t ≡ true → not t ≡ true → ⊥
not-both true e f = clash (cc)
not-both false e f = clash (cc)

-- "An unfit model met before any wearer (1, 3, 4, 5) ends the call"; "2 and 6 are verdicts": the number is one of the four exactly where the model is
-- unfit, and so no verdict was written
pub ward-number : {n k : ℕ} {l : Lists} {x p q : ℕ} {w : List ℕ} {ys zs : List Wearer} {r : Answer} → WardOf n k l x p q w ys zs r
    → (unfit_number r.number ≡ true) ↔ ((z : Refusal) × (ward_fitness n k l ≡ Err z))
ward-number {n} {k} {l} {x} {p} {q} {w} {ys} {zs} {r} h = (λ e. go (ward_fitness n k l) refl e, λ (z, unfit). back z unfit)
  where
    go : (v : Verdict) → ward_fitness n k l ≡ v → unfit_number r.number ≡ true → (z : Refusal) × (ward_fitness n k l ≡ Err z)
    go (Err z) unfit e = (z, unfit)
    go (Ok _) fit e =
        let (i, there) = ward-place h fit (λ zero. not-both (unfit_number r.number) e (rw zero refl)) in
        let y = get_or ys r.detail no_wearer in
        let judging = judged_answer n y.start k l x y.b y.c p q w in
        let told : r.number ≡ judging.number = sym there ∙ ap (λ (u : Wearer). u.verdict) (ward-verdict h fit r.detail i) in
        absurd (not-both (unfit_number r.number) e (rw told (wearer-passes n k l fit y.start x y.b y.c p q w).number))

    back : (z : Refusal) → ward_fitness n k l ≡ Err z → unfit_number r.number ≡ true
    back z unfit =
        let other = ne_eqb (numbered z).number 0 (λ e. omega (arith, refusal-number z, e)) in
        rw (ap (λ (a : Answer). a.number) (ward-unfit h z unfit).0) (rw (unfit, other) at (unfit-pass n k l).number)
