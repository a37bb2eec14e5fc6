-- The steps of a plan as the code makes them: what is left of the walk at a position of the bytes, turn by turn. Assumes nothing.
use mathlib.Core.Path.{◌≡◌, refl, sym, ap, ◌∙◌}
use mathlib.Core.Bool.{true, false}
use mathlib.Core.List.{List, [], ◌∷◌, ◌++◌, append_assoc}
use Prim.Native.Nat.{ℕ, zero, suc, ◌+◌, ◌-◌, ◌≤◌, ◌<◌}
use native.Mathlib.Nat.{sub-zero}
use native.Mathlib.Numerals.{add-one}
use native.Mathlib.Omega.{arith}
use native.Mathlib.Decide.{dec_le}
use borrow.Author.Tests.{lt-ltb, le-ltb}
use lib.ListN.{length, get_or, take, drop, length-drop, take-append-drop, drop_of_length-le}
use lib.Seq.{drop-cons}
use Rattle.limits.specs.Ceilings.{arcs_most}
use Rattle.walks.specs.Walk.{times}
use Rattle.model.specs.declared.Model.{Model}
use Rattle.model.specs.Automaton.{bit}
use Rattle.model.specs.Lists.{held}
use Rattle.model.proofs.Held.{arc_in, held-arc}
use Rattle.judge.specs.Shape.{plan_of}
use Rattle.judge.specs.Judged.{ArcNumbers}
use Rattle.planwalk.specs.declared.Walked.{Walked}
use Rattle.planwalk.specs.declared.Walked.TheVariants.{Met, Spent}
use Rattle.planwalk.specs.Walked.{steps_of_plan, met_or, position_after, first_met}

module _ (at p n : ℕ) where
  -- within the bytes the next position follows
  pub position-on : at + 1 < n → position_after at p n ≡ at + 1
  position-on h = rw (lt-ltb (at + 1) n h) refl

  -- behind the last byte it is the cycle's beginning
  pub position-back : n ≤ at + 1 → position_after at p n ≡ p
  position-back h = rw (le-ltb (at + 1) n h) refl

-- the first u arcs of a list behind which a cycle repeats are the same however often it repeats, if u times or more
same-steps : (c : List ℕ) → 0 < length c → (u r r' : ℕ) (l : List ℕ) → u ≤ r → u ≤ r' → take u (l ++ times r c) ≡ take u (l ++ times r' c)
same-steps c h zero r r' l i i' = refl
same-steps c h (suc u) r r' (x ∷ l) i i' = ap {B = List ℕ} (λ v. x ∷ v) (same-steps c h u r r' l (omega arith) (omega arith))
same-steps c h (suc u) zero r' [] i i' = absurd (omega arith)
same-steps c h (suc u) (suc r) zero [] i i' = absurd (omega arith)
same-steps [] h (suc u) (suc r) (suc r') [] i i' = absurd (omega arith)
same-steps (x ∷ c) h (suc u) (suc r) (suc r') [] i i' =
    ap {B = List ℕ} (λ v. x ∷ v) (same-steps (x ∷ c) h u r r' c (omega arith) (omega arith))

-- u steps from a position of the bytes of a plan, the cycle repeating
abbrev steps_from : ℕ → List ℕ → ℕ → ℕ → List ℕ
steps_from p w u at = take u (drop at w ++ times u (drop p w))

module _ (p : ℕ) (w : List ℕ) (cycle : p < length w) where
  -- the cycle has an arc
  has_arc : 0 < length (drop p w)
  has_arc = rw (length-drop p w) (omega arith)

  -- the steps of a plan are those from position 0
  pub steps-whole : (t : ℕ) → steps_of_plan (plan_of p w) t ≡ steps_from p w t 0
  steps-whole t =
      let c = drop p w in
      let whole : take p w ++ times (suc t) c ≡ w ++ times t c =
      sym (append_assoc (take p w) c (times t c)) ∙ ap {B = List ℕ} (λ v. v ++ times t c) (take-append-drop p w)
      in
      same-steps c has_arc t t (suc t) (take p w) (omega arith) (omega arith) ∙ ap (take t) whole

  module _ (at : ℕ) (h : at < length w) where
    -- the position after one is inside the bytes
    after-inside : position_after at p (length w) < length w
    after-inside =
        elim (dec_le (length w) (at + 1)) [
          | yes q ↦ omega (arith, position-back at p (length w) q)
          | no q ↦ omega (arith, position-on at p (length w) (omega arith))
        ]

    -- the steps from a position are its arc, and then those from the position after it
    steps-after : (u : ℕ) → steps_from p w (suc u) at ≡ get_or w at 0 ∷ steps_from p w u (position_after at p (length w))
    steps-after u =
        elim (dec_le (length w) (at + 1)) [
          | yes q ↦ rw (position-back at p (length w) q, drop-cons w at 0 h, drop_of_length-le w {i = suc at} (omega arith)) refl
          | no q ↦
              rw (position-on at p (length w) (omega arith), drop-cons w at 0 h, add-one at)
              (ap {B = List ℕ} (λ v. get_or w at 0 ∷ v) (same-steps (drop p w) has_arc u (suc u) u (drop (suc at) w) (omega arith) (omega arith)))
        ]

-- The walk of t steps when some are made and none of them met the colour: the next arc stands at a position inside the bytes, and the
-- answer is that of the steps left.
pub record Stepping (g : Model) (j : ℕ) (w : List ℕ) (p t at steps : ℕ) : Type 0 where
  pub inside : at < length w
  pub within : steps ≤ t
  pub rest : first_met (held g) j (steps_of_plan (plan_of p w) t) 0 ≡ first_met (held g) j (steps_from p w (t - steps) at) steps

module _ {g : Model} {j : ℕ} {w : List ℕ} {p t : ℕ} where
  -- before the first step
  pub stepping-none : p < length w → Stepping g j w p t 0 0
  stepping-none cycle =
      record {
        inside = omega arith;
        within = omega arith;
        rest = rw (sub-zero t) (ap {B = Walked} (λ v. first_met (held g) j v 0) (steps-whole p w cycle t));
      }

  module _ {at steps : ℕ} where
    -- no step is left
    pub stepping-done : Stepping g j w p t at steps → t ≤ steps → first_met (held g) j (steps_of_plan (plan_of p w) t) 0 ≡ Spent t
    unfolding first_met
    stepping-done s h =
        let none : t - steps ≡ 0 = omega arith in
        let all : steps ≡ t = omega (arith, s.within) in
        s.rest ∙ rw none (ap {B = Walked} Spent all)

    module _ (arcs : ArcNumbers g w) (s : Stepping g j w p t at steps) where
      -- the next arc is one of the array's
      pub stepping-arc : get_or w at 0 < arcs_most
      stepping-arc = omega (arith, arcs.few, arcs.below at s.inside)

      module _ (cycle : p < length w) (h : steps < t) where
        -- its colours decide
        next : first_met (held g) j (steps_of_plan (plan_of p w) t) 0
            ≡ met_or (bit (arc_in g (get_or w at 0)).colours j) (Met (steps + 1))
            (first_met (held g) j (steps_from p w (t - (steps + 1)) (position_after at p (length w))) (steps + 1))
        unfolding first_met
        next =
            let e : t - steps ≡ suc (t - (steps + 1)) = omega arith in
            s.rest ∙ rw (e, steps-after p w cycle at s.inside, held-arc g (get_or w at 0) (arcs.below at s.inside), add-one steps) refl

        -- it meets the colour
        pub stepping-met : bit (arc_in g (get_or w at 0)).colours j ≡ true → first_met (held g) j (steps_of_plan (plan_of p w) t) 0 ≡ Met (steps + 1)
        stepping-met m = next ∙ rw m refl

        -- it does not
        pub stepping-on : bit (arc_in g (get_or w at 0)).colours j ≡ false → Stepping g j w p t (position_after at p (length w)) (steps + 1)
        stepping-on m = record { inside = after-inside p w cycle at s.inside; within = omega arith; rest = next ∙ rw m refl }
