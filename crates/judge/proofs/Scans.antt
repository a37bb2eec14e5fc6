-- One turn of each scan of a list of arcs: what is left to be said at position i, by what is left at the next. Assumes nothing.
use Rattle.std.specs.Prelude.{Some, None, Ok, Err}
use mathlib.Core.Path.{◌≡◌, refl, ap, ◌∙◌}
use mathlib.Core.Bool.{Bool, not}
use mathlib.Core.List.{List}
use mathlib.Core.Logic.{◌≢◌}
use Prim.Native.Nat.{ℕ, suc, ◌+◌, ◌-◌, ◌^◌, ◌≤◌, ◌<◌}
use native.Mathlib.Numerals.{add-one}
use native.Mathlib.Omega.{arith}
use borrow.Author.Tests.{lt-leb, le-leb, eq-eqb, ne_eqb}
use lib.Bits.{bit_or, bit_and}
use lib.Dec.{leb, eqb}
use lib.ListN.{length, get_or, drop, drop_of_length-le}
use lib.Seq.{drop-cons}
use Rattle.walks.specs.declared.Step.{Step}
use Rattle.walks.specs.BoundedStep.{stepped}
use Rattle.refusals.specs.declared.Refusal.TheVariants.{ArcNumber, ImpossibleStep, BarredColour}
use Rattle.refusals.specs.Refusals.{Verdict, refuse}
use Rattle.model.specs.declared.Arc.{Arc}
use Rattle.model.specs.declared.Model.{Model}
use Rattle.model.specs.Automaton.{arc_at, move_of, has_barred}
use Rattle.model.specs.Fitness.{Holds}
use Rattle.model.specs.Lists.{held}
use Rattle.model.proofs.Held.{arc_in, held-arc}
use Rattle.model.proofs.Barred.{common-mask}
use Rattle.judge.specs.Shape.{numbers}
use Rattle.judge.specs.Charges.{ran}
use Rattle.judge.specs.Colours.{met_by, barred_from}
use Rattle.judge.specs.Judged.{ArcNumbers}
use Rattle.judge.proofs.Arcs.{arcs-drop, arcs-coloured}
use Rattle.judge.proofs.Masks.{met-full}
use Rattle.judge.proofs.Colours.{barred-zero}

-- 12 at position i
module _ (m : ℕ) (w : List ℕ) (i : ℕ) where
  -- by the arc number there and the rest
  numbers-at : i < length w → numbers m (drop i w) i ≡ refuse (leb m (get_or w i 0)) (ArcNumber i) (numbers m (drop (i + 1) w) (i + 1))
  unfolding numbers
  numbers-at h = rw (drop-cons w i 0 h, add-one i) refl

  -- past the last position it does not apply
  pub numbers-end : length w ≤ i → numbers m (drop i w) i ≡ Ok tt
  unfolding numbers
  numbers-end h = rw (drop_of_length-le w {i = i} h) refl

  -- an arc number that is not below m is the verdict
  pub numbers-stop : i < length w → m ≤ get_or w i 0 → numbers m (drop i w) i ≡ Err (ArcNumber i)
  numbers-stop h q = numbers-at h ∙ rw (le-leb m (get_or w i 0) q) refl

  -- after another the scan goes on
  pub numbers_on : i < length w → get_or w i 0 < m → numbers m (drop i w) i ≡ numbers m (drop (i + 1) w) (i + 1)
  numbers_on h q = numbers-at h ∙ rw (lt-leb m (get_or w i 0) q) refl

-- the walk at position i, with charge e; the list's first step has the number j
module _ (g : Model) (b : ℕ) (w : List ℕ) (i j e : ℕ) where
  -- past the last position it is walked through
  pub ran-end : length w ≤ i → ran (held g) b (drop i w) (j + i) e ≡ Ok e
  unfolding ran
  ran-end h = rw (drop_of_length-le w {i = i} h) refl

  module _ (h : i < length w) (below : get_or w i 0 < g.count) where
    -- a step that is possible leads on
    pub ran_on_lem : (u : Step) → stepped b (move_of (arc_in g (get_or w i 0))) e ≡ Some u
        → ran (held g) b (drop i w) (j + i) e ≡ ran (held g) b (drop (i + 1) w) (j + (i + 1)) u.charge
    unfolding ran
    ran_on_lem u q =
        let n : j + suc i ≡ suc (j + i) = omega arith in
        rw (drop-cons w i 0 h, held-arc g (get_or w i 0) below, q, add-one i, n) refl

    -- one that is not stops the walk
    pub ran-stop : stepped b (move_of (arc_in g (get_or w i 0))) e ≡ None → ran (held g) b (drop i w) (j + i) e ≡ Err (ImpossibleStep (j + i))
    unfolding ran
    ran-stop q = rw (drop-cons w i 0 h, held-arc g (get_or w i 0) below, q) refl

-- the mask at position i
module _ (g : Model) (w : List ℕ) (i m : ℕ) where
  -- past the last position it is complete
  pub met-end : length w ≤ i → met_by (held g) (drop i w) m ≡ m
  unfolding met_by
  met-end h = rw (drop_of_length-le w {i = i} h) refl

  -- with every colour below k it stays as it is
  pub met-all : Holds g → ArcNumbers g w → m + 1 ≡ 2 ^ g.colours → met_by (held g) (drop i w) m ≡ m
  met-all holds arcs e =
      let full : m ≡ 2 ^ g.colours - 1 = omega arith in
      let rest = drop i w in
      rw full (met-full (held g) g.colours rest (arcs-coloured g rest (arcs-drop g w arcs i) holds))

  -- an arc adds its colours
  pub met-on : i < length w → get_or w i 0 < g.count
      → met_by (held g) (drop i w) m ≡ met_by (held g) (drop (i + 1) w) (bit_or m (arc_in g (get_or w i 0)).colours)
  unfolding met_by
  met-on h below =
      let first : met_by (held g) (drop i w) m ≡ met_by (held g) (drop (i + 1) w) (bit_or m (arc_at (held g) (get_or w i 0)).colours) =
      rw (drop-cons w i 0 h, add-one i) refl
      in
      first ∙ ap {B = ℕ} (λ (x : Arc). met_by (held g) (drop (i + 1) w) (bit_or m x.colours)) (held-arc g (get_or w i 0) below)

-- 24 at position i, where the list's first arc has the position j
module _ (g : Model) (x : ℕ) (w : List ℕ) (i j : ℕ) where
  -- past the last position it does not apply
  pub barred-end : length w ≤ i → barred_from (held g) x (drop i w) (j + i) ≡ Ok tt
  unfolding barred_from
  barred-end h = rw (drop_of_length-le w {i = i} h) refl

  module _ (holds : Holds g) (arcs : ArcNumbers g w) (h : i < length w) where
    -- by the mask of the arc there and the rest
    barred-at : barred_from (held g) x (drop i w) (j + i)
        ≡ refuse (not (eqb (bit_and (arc_in g (get_or w i 0)).colours x) 0)) (BarredColour (j + i)) (barred_from (held g) x (drop (i + 1) w) (j + (i + 1)))
    unfolding barred_from
    barred-at =
        let a = get_or w i 0 in
        let test : has_barred (held g) x a ≡ not (eqb (bit_and (arc_in g a).colours x) 0) =
        common-mask x (arc_at (held g) a).colours g.colours (arcs-coloured g w arcs holds i h)
        ∙ ap {B = Bool} (λ (y : Arc). not (eqb (bit_and y.colours x) 0)) (held-arc g a (arcs.below i h))
        in
        let n : j + suc i ≡ suc (j + i) = omega arith in
        let first : barred_from (held g) x (drop i w) (j + i)
        ≡ refuse (has_barred (held g) x a) (BarredColour (j + i)) (barred_from (held g) x (drop (i + 1) w) (j + (i + 1))) =
        rw (drop-cons w i 0 h, add-one i, n) refl
        in
        first ∙ ap {B = Verdict} (λ (t : Bool). refuse t (BarredColour (j + i)) (barred_from (held g) x (drop (i + 1) w) (j + (i + 1)))) test

    -- an arc with a barred colour is the verdict
    pub barred-stop : bit_and (arc_in g (get_or w i 0)).colours x ≢ 0 → barred_from (held g) x (drop i w) (j + i) ≡ Err (BarredColour (j + i))
    barred-stop q = barred-at ∙ rw (ne_eqb (bit_and (arc_in g (get_or w i 0)).colours x) 0 q) refl

    -- after another the scan goes on
    pub barred-on : bit_and (arc_in g (get_or w i 0)).colours x ≡ 0
        → barred_from (held g) x (drop i w) (j + i) ≡ barred_from (held g) x (drop (i + 1) w) (j + (i + 1))
    barred-on q = barred-at ∙ rw (eq-eqb (bit_and (arc_in g (get_or w i 0)).colours x) 0 q) refl

-- one turn of each scan, for the proofs of the code
pub ruleset number_turns = (numbers-end, numbers-stop, numbers_on)

pub ruleset ran_turns = (ran-end, ran-stop, ran_on_lem)

pub ruleset met_turns = (met-end, met-all, met-on)

pub ruleset barred_turns = (barred-zero, barred-end, barred-stop, barred-on)
