-- Fitness, walks and plans of a model given by weights are those of its draws and gains. Assumes nothing.
use Rattle.std.specs.Prelude.{Option, Some, None}
use mathlib.Core.Path.{◌≡◌, refl, sym, ap, ◌∙◌, subst}
use mathlib.Core.Bool.{Bool, true, false, not, ◌||◌}
use mathlib.Core.List.{List, [], ◌∷◌, ◌++◌, map}
use mathlib.Core.Logic.{◌↔◌}
use Prim.Native.Nat.{ℕ, zero, suc, ◌^◌, ◌≤◌}
use native.Mathlib.Omega.{arith}
use native.Mathlib.Decide.{dec_le}
use borrow.Author.Tests.{lt-ltb, le-ltb}
use lib.Dec.{ltb, eqb}
use lib.IntN.{ℤ, pos, negsuc}
use lib.ListN.{length, length-map, get_or, take, length-take, get_or-map, get_or-eq_default}
use lib.Seq.{get_or-take}
use lib.Signed.{lt_z}
use Rattle.limits.specs.Ceilings.{draw_most, gain_most}
use Rattle.walks.specs.declared.Step.{Step}
use Rattle.walks.specs.BoundedStep.{Move, stepped}
use Rattle.walks.specs.Walk.{End, after_step, walked, IsPossible, times}
use Rattle.walks.specs.Weights.{draw_of, gain_of, move_of_weight, weighed}
use Rattle.walks.specs.Accumulated.{FeasibleRun}
use Rattle.walks.proofs.Weights.{stepped-weight}
use Rattle.walks.proofs.Accumulated.{walked_weights, weights-feasible}
use Rattle.model.specs.Automaton.{no_arc, arc_at, move_of}
use Rattle.model.specs.Lists.{arcs_from}
use Rattle.model.specs.Fitness.{unfit_lists, header, header_of, unfit_arc, arcs_verdict, fitness}
use Rattle.model.specs.Plans.{Plan, walked_arcs, Feasible, Serves}
use Rattle.switches.specs.PlansOn.{ServesOn}
use Rattle.model.proofs.Arcs.{arcs-length, arcs-here}
use Rattle.model.proofs.Weights.{weighted-move}
use Rattle.weights.specs.Models.{WeightLists, lists_of, model_by, weight_at, weight_least, weight_most, header_by_weight, arcs_by_weight, fitness_by_weight, walked_by_weight, FeasibleByWeight, ServesByWeight, ServesOnByWeight}

-- the two ranges are the weight's
draw-range : (w : ℤ) → ltb draw_most (draw_of w) ≡ lt_z w weight_least
draw-range (pos x) = refl
draw-range (negsuc x) =
    elim (dec_le 10000 x) [
      | yes h ↦ lt-ltb 10000 (suc x) (omega arith) ∙ sym (lt-ltb 9999 x (omega arith))
      | no h ↦ le-ltb 10000 (suc x) (omega arith) ∙ sym (le-ltb 9999 x (omega arith))
    ]

gain-range : (w : ℤ) → ltb gain_most (gain_of w) ≡ lt_z weight_most w
gain-range (pos x) = refl
gain-range (negsuc x) = refl

-- one list of weights for the two of draws and gains
or-twice : (a x : Bool) → (a || x || x) ≡ (a || x)
or-twice true x = refl
or-twice false true = refl
or-twice false false = refl

-- what follows a step may be given in another way
after-step : (t : Option Step) (f h : ℕ → End) → ((y : ℕ) → f y ≡ h y) → after_step t f ≡ after_step t h
after-step (Some z) f h same = same z.charge
after-step None f h same = refl

-- a walk of arcs by their weights is the walk of these weights
walked-weights : (l : WeightLists) (b : ℕ) (w : List ℕ) (e : ℕ) → walked_by_weight l b w e ≡ walked_weights b (map (weight_at l) w) e
unfolding walked_by_weight
walked-weights l b [] e = refl
walked-weights l b (a ∷ w) e =
    after-step (weighed b (weight_at l a) e) (walked_by_weight l b w) (walked_weights b (map (weight_at l) w)) (λ y. walked-weights l b w y)

module _ (l : WeightLists) where
  draw-at : (a : ℕ) → get_or (map draw_of l.weights) a 0 ≡ draw_of (get_or l.weights a (pos 0))
  draw-at a = get_or-map draw_of l.weights a (pos 0)

  gain-at : (a : ℕ) → get_or (map gain_of l.weights) a 0 ≡ gain_of (get_or l.weights a (pos 0))
  gain-at a = get_or-map gain_of l.weights a (pos 0)

  -- 1 to 4
  header-same : (n s k : ℕ) → header_of n s k (lists_of l) ≡ header_by_weight n s k l
  unfolding header unfit_lists
  header-same n s k =
      let m = length l.sources in
      rw (
        length-map l.weights draw_of,
        length-map l.weights gain_of,
        or-twice (not (eqb (length l.targets) m)) (not (eqb (length l.weights) m)),
      ) refl

  -- 5
  arcs-same : (n power m a : ℕ) → arcs_verdict n power (arcs_from (lists_of l) m a) a ≡ arcs_by_weight n power l m a
  unfolding arcs_verdict arcs_by_weight unfit_arc
  arcs-same n power zero a = refl
  arcs-same n power (suc m) a =
      let w = get_or l.weights a (pos 0) in
      rw (draw-at a, gain-at a, draw-range w, gain-range w, arcs-same n power m (suc a)) refl

  -- 1 to 5
  pub fitness-same : (n s k : ℕ) → fitness n s k (lists_of l) ≡ fitness_by_weight n s k l
  unfolding fitness fitness_by_weight
  fitness-same n s k = rw (header-same n s k, arcs-same n (2 ^ k) (length l.sources) 0) refl

  module _ (n s k : ℕ) where
    -- an arc draws and gains what its weight does
    move_same : (a : ℕ) → move_of (arc_at (model_by n s k l) a) ≡ move_of_weight (weight_at l a)
    move_same a =
        let m = length l.sources in
        elim (dec_le m a) [
          | yes h ↦
              ap {B = Move} move_of (get_or-eq_default (arcs_from (lists_of l) m 0) no_arc (omega (arith, arcs-length (lists_of l) m 0)))
              ∙ sym (ap {B = Move} move_of_weight (get_or-eq_default (take m l.weights) (pos 0) (omega (arith, length-take m l.weights))))
          | no h ↦
              ap {B = Move} move_of (arcs-here (lists_of l) m a (omega arith))
              ∙ weighted-move l.sources l.targets l.weights l.colours l.actions a
              ∙ ap {B = Move} move_of_weight (sym (get_or-take m l.weights a (pos 0) (omega arith)))
        ]

    -- so a step on it is the step with its weight
    pub step_same : (b a e : ℕ) → stepped b (move_of (arc_at (model_by n s k l) a)) e ≡ weighed b (weight_at l a) e
    step_same b a e = ap {B = Option Step} (λ m. stepped b m e) (move_same a) ∙ stepped-weight b (weight_at l a) e

    pub walked_same : (b : ℕ) (w : List ℕ) (e : ℕ) → walked_arcs (model_by n s k l) b w e ≡ walked_by_weight l b w e
    unfolding walked walked_by_weight
    walked_same b [] e = refl
    walked_same b (a ∷ w) e =
        rw (step_same b a e)
        (after-step (weighed b (weight_at l a) e) (walked_arcs (model_by n s k l) b w) (walked_by_weight l b w) (λ y. walked_same b w y))

    feasible-same : (b c : ℕ) (p : Plan) → Feasible (model_by n s k l) b c p ↔ FeasibleByWeight l b c p
    feasible-same b c p = (
      λ f r. subst IsPossible (walked_same b (p.prefix ++ times r p.cycle) c) (f r),
      λ f r. subst IsPossible (sym (walked_same b (p.prefix ++ times r p.cycle) c)) (f r),
    )

    -- it is document 001's feasibility of the infinite run, with one weight for each arc
    pub feasible-weights : (b c : ℕ) (p : Plan) → c ≤ b
        → Feasible (model_by n s k l) b c p ↔ ((r : ℕ) → FeasibleRun b c (map (weight_at l) (p.prefix ++ times r p.cycle)))
    feasible-weights b c p h = (
      λ f r. (feasible r).0 (subst IsPossible (walk r) (f r)),
      λ f r. subst IsPossible (sym (walk r)) ((feasible r).1 (f r)),
    )
      where
        run : ℕ → List ℕ
        run r = p.prefix ++ times r p.cycle

        walk : (r : ℕ) → walked_arcs (model_by n s k l) b (run r) c ≡ walked_weights b (map (weight_at l) (run r)) c
        walk r = walked_same b (run r) c ∙ walked-weights l b (run r) c

        feasible : (r : ℕ) → IsPossible (walked_weights b (map (weight_at l) (run r)) c) ↔ FeasibleRun b c (map (weight_at l) (run r))
        feasible r = weights-feasible b (map (weight_at l) (run r)) c h

    -- a plan is feasible and accepted exactly where it is so by weights
    pub serves-same : (x b c : ℕ) (p : Plan) → Serves (model_by n s k l) x b c p ↔ ServesByWeight n s k l x b c p
    serves-same x b c p = (
      λ h. record { plan = h.plan; feasible = (feasible-same b c p).0 h.feasible; accepted = h.accepted },
      λ h. record { plan = h.plan; feasible = (feasible-same b c p).1 h.feasible; accepted = h.accepted },
    )

    -- .. and with arcs that are on alone
    pub serves-on-same : (x : ℕ) (on : List ℕ) (b c : ℕ) (p : Plan)
        → ServesOn (model_by n s k l) x on b c p ↔ ServesOnByWeight n s k l x on b c p
    serves-on-same x on b c p = (
      λ h. record { serves = (serves-same x b c p).0 h.serves; prefix_on = h.prefix_on; cycle_on = h.cycle_on },
      λ h. record { serves = (serves-same x b c p).1 h.serves; prefix_on = h.prefix_on; cycle_on = h.cycle_on },
    )
