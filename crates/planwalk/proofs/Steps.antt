-- The gauge that walks a judged plan, with an allowance of 16 bits, is never refused: its walk ends at the least step that meets the colour, or
-- after all of them. Assumes nothing.
use Rattle.std.specs.Prelude.{Result, Ok, Err}
use mathlib.Core.Path.{◌≡◌, refl, ap, ◌∙◌}
use mathlib.Core.Bool.{Bool, true, false}
use mathlib.Core.List.{List, [], ◌∷◌, ◌++◌}
use Prim.Native.Nat.{ℕ, suc, ◌+◌, ◌^◌, ◌≤◌, ◌<◌}
use native.Mathlib.Omega.{arith}
use lib.ListN.{length-take}
use borrow.Author.Tests.{lt-leb}
use Rattle.limits.specs.Ceilings.{bound_most, spill_most}
use Rattle.walks.specs.Walk.{Ends, times}
use Rattle.walks.specs.Spill.{spilled}
use Rattle.walks.proofs.Walks.{walked-cons}
use Rattle.walks.proofs.Charges.{stepped-bound}
use Rattle.walks.proofs.Spill.{spilled-cons}
use Rattle.refusals.specs.declared.Refusal.{Refusal}
use Rattle.refusals.specs.declared.Refusal.TheVariants.{NoSuchColour}
use Rattle.model.specs.Automaton.{arc_at, meets, move_of, moves_of}
use Rattle.model.specs.Lists.{Lists, automaton_of, held}
use Rattle.model.specs.Fitness.{fitness}
use Rattle.model.specs.Plans.{Plan, Leads, walked_arcs, Serves}
use Rattle.model.proofs.Fitness.{fitness-yes, levels-yes}
use Rattle.model.proofs.Plans.{serves-walked}
use Rattle.judge.specs.Shape.{plan_of}
use Rattle.judge.specs.declared.JudgedModel.{JudgedModel}
use Rattle.judge.specs.Judged.{judged, judged_model}
use Rattle.judge.proofs.Answers.{told_unfit, told-refused, told-judged, told-model}
use Rattle.judge.proofs.Judged.{judged-yes}
use Rattle.gauge.specs.declared.Gauge.{Gauge}
use Rattle.gauge.specs.Gauge.{new_gauge, moved_to, Matches, started_of}
use Rattle.gauge.proofs.Losses.{spilled-most}
use Rattle.gauge.proofs.Matching.{kept-matches, new-matches}
use Rattle.gauge.proofs.Follows.{moved-yes, step-moved, started-yes}
use Rattle.planwalk.specs.declared.Walked.{Walked}
use Rattle.planwalk.specs.declared.Walked.TheVariants.{Met}
use Rattle.planwalk.proofs.Refused.{walk_refused, walk-no-colour}
use Rattle.planwalk.specs.Walked.{steps_of_plan, met_or, walk_on, gauge_walk, walk_of, first_met}

-- the walk ends with one of two ends, or it is one of two answers that are not refusals
met-ok : (t : Bool) (x y : Walked) → ◌≡◌ {A = Result Walked Refusal} (met_or t (Ok x) (Ok y)) (Ok (met_or t x y))
met-ok true x y = refl
met-ok false x y = refl

module _ (n s k : ℕ) (l : Lists) (b : ℕ) (fit : fitness n s k l ≡ Ok tt) (low : b ≤ bound_most) (j : ℕ) where
  -- Along arcs w that lead on, whose walk ends and for whose losses the total has room, a matching gauge z walks to the least step that meets
  -- the colour.
  pub gauge-least : (w : List ℕ) (z : Gauge) (t x : ℕ) → Matches (automaton_of n s k l) b z → z.charge ≤ b
      → z.spill + spilled b (moves_of (automaton_of n s k l) w) z.charge ≤ spill_most → Leads (automaton_of n s k l) z.mode w t
      → walked_arcs (automaton_of n s k l) b w z.charge ≡ Ends x → (i : ℕ)
      → gauge_walk n s k l b j w i z ≡ Ok (first_met (automaton_of n s k l) j w i)
  unfolding gauge_walk first_met
  gauge-least [] z t x match h room leads q i = refl
  gauge-least (a ∷ w) z t x match h room (below, source, leads) q i =
      let g = automaton_of n s k l in
      let f = move_of (arc_at g a) in
      let (e, lost, to, r) = (walked-cons b f (moves_of g w) z.charge x).0 q in
      let sum = spilled-cons b f (moves_of g w) z.charge e lost to in
      let u = moved_to z (arc_at g a).target e (z.spill + lost) in
      let step =
      step-moved n s k l b a z fit ((levels-yes b z.charge).1 (low, h)) match
      ∙ (moved-yes g b a z u.mode e u.spill).1 (below, source, refl, (lost, to, refl, omega (arith, sum)))
      in
      let rest =
      gauge-least w u t x ((kept-matches z u refl g b).0 match) (stepped-bound b f z.charge e lost h to) (omega (arith, sum)) leads r (suc i) in
      rw step (ap {B = Result Walked Refusal} (met_or (meets g j a) (Ok (Met (suc i)))) rest ∙ met-ok (meets g j a) (Met (suc i)) (first_met g j w (suc i)))

  -- the same of the first steps of a plan that serves, from the start: as many as an allowance of 16 bits lose far less than the total takes
  plan-least : (x c : ℕ) (p : Plan) → c ≤ b → Serves (automaton_of n s k l) x b c p → (t : ℕ) → t < 2 ^ 16
      → walk_on (started_of n s k l b c) (gauge_walk n s k l b j (steps_of_plan p t) 0)
      ≡ Ok (first_met (automaton_of n s k l) j (steps_of_plan p t) 0)
  plan-least x c p h serves t few =
      let g = automaton_of n s k l in
      let (m, e, leads, ends) = serves-walked g x b c p serves t t in
      let lost = spilled-most n s k l b fit (steps_of_plan p t) s c m e h leads ends in
      rw (started-yes n s k l b c fit ((levels-yes b c).1 (low, h)))
      (gauge-least (steps_of_plan p t) (new_gauge g b c) m e (new-matches g b c) h (omega (arith, lost, length-take t (p.prefix ++ times t p.cycle))) leads ends 0)

module _ (n s k : ℕ) (l : Lists) (x b c p q : ℕ) (w : List ℕ) (yes : judged n s k l x b c p q w ≡ Ok tt) (j t : ℕ) (h : j < k) (few : t < 2 ^ 16) where
  -- the call, for a plan that judging accepts, a colour of the model, barred or not, and an allowance of 16 bits
  pub walk-least : walk_of n s k l x b c p q w j t ≡ Ok (first_met (automaton_of n s k l) j (steps_of_plan (plan_of p w) t) 0)
  unfolding walk_of
  walk-least =
      let right = (judged-yes n s k l x b c p q w).0 yes in
      let fit = (fitness-yes n s k l).1 (right.equal, right.fit) in
      rw (yes, lt-leb k j h) (plan-least n s k l b fit right.bound j x c (plan_of p w) right.credit right.serves t few)

-- what a caller of judge_model answers: the refusal of the model, or of the plan, or 18, or the steps of the plan
module _ (n s k : ℕ) (l : Lists) (x b c p q : ℕ) (w : List ℕ) (j t : ℕ) where
  pub walk_unfit : (r : Refusal) → Err r ≡ judged_model n s k l x b c p q w → walk_of n s k l x b c p q w j t ≡ Err r
  walk_unfit r told = walk_refused n s k l x b c p q w j t r (told_unfit n s k l x b c p q w r told)

  module _ (y : JudgedModel) (told : Ok y ≡ judged_model n s k l x b c p q w) where
    pub walk_unjudged : (r : Refusal) → Err r ≡ y.verdict → walk_of n s k l x b c p q w j t ≡ Err r
    walk_unjudged r e = walk_refused n s k l x b c p q w j t r (told-refused n s k l x b c p q w y told r e)

    pub walk_uncoloured : Ok tt ≡ y.verdict → k ≤ j → walk_of n s k l x b c p q w j t ≡ Err NoSuchColour
    walk_uncoloured says h = walk-no-colour n s k l x b c p q w j t (told-judged n s k l x b c p q w y told says) h

    pub walk_stepped : Ok tt ≡ y.verdict → j < k → t < 2 ^ 16
        → walk_of n s k l x b c p q w j t ≡ Ok (first_met (held y.model) j (steps_of_plan (plan_of p w) t) 0)
    walk_stepped says h few =
        rw (told-model n s k l x b c p q w y told) (walk-least n s k l x b c p q w (told-judged n s k l x b c p q w y told says) j t h few)
