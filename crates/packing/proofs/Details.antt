-- How large the details of refusals are: a detail of judging or of the walk is at most twice the longest plan that judging takes, one of the gauge, of 1
-- to 9 of search, of the decision, of the least credit and the least bound or of the table of greatest charges at most 255. Assumes nothing.
use Rattle.std.specs.Prelude.{Ok, Err}
use mathlib.Core.Path.{◌≡◌, refl}
use mathlib.Core.Bool.{Bool, ◌||◌}
use mathlib.Core.List.{List}
use mathlib.Core.Logic.{inl, inr, ⊎_elim}
use Prim.Native.Nat.{ℕ, ◌+◌, ◌*◌, ◌^◌, ◌≤◌, ◌<◌}
use native.Mathlib.Omega.{arith}
use lib.Dec.{leb, ltb, eqb}
use lib.ListN.{length}
use Rattle.limits.specs.Ceilings.{modes_most, arcs_most, colours_most, bound_most, product_most, plan_most, work_space, plan_buffer, decide_bound_most, decide_space}
use Rattle.refusals.specs.declared.Refusal.{Refusal}
use Rattle.refusals.specs.declared.Refusal.TheVariants.{ModeCount, StartMode, ArcLists, ColourCount, Levels, Product, WorkingSpace, PlanBuffer, ArcNumber}
use Rattle.refusals.specs.Refusals.{Verdict, answer_of, and_then, verdict_of}
use Rattle.refusals.proofs.Each.{refuse-each, then-each, scan-each}
use Rattle.model.specs.declared.Arc.{Arc}
use Rattle.model.specs.Lists.{Lists, arcs_of, automaton_of}
use Rattle.model.specs.Fitness.{header, header_of, arcs_verdict, fitness, levels_within, levels_of}
use Rattle.model.proofs.Arcs.{arcs-length}
use Rattle.model.proofs.Fitness.{arcs-scan, header-yes, fitness-yes}
use Rattle.judge.specs.Judged.{judged_levels, judged}
use Rattle.judge.proofs.Each.{OfPlans, plan-each}
use Rattle.gauge.specs.declared.Gauge.{Gauge}
use Rattle.gauge.specs.Gauge.{Gauged, new_gauge, started_of, stepped_of}
use Rattle.gauge.proofs.Stops.{StepRefusal, step-stops}
use Rattle.planwalk.specs.Walked.{walk_of}
use Rattle.planwalk.proofs.Least.{walk-refused-by}
use Rattle.search.specs.Search.{spaces, searchable}
use Rattle.decide.specs.Decide.{space_of, levels_and_space, decidable}
use Rattle.least.specs.declared.Sought.{Sought}
use Rattle.least.specs.declared.Sought.TheVariants.{Credit, Bound}
use Rattle.least.specs.Least.{level_of, largest_tried, seekable}
use Rattle.least.specs.Least as least
use Rattle.reach.specs.Reach.{levelled, switchable}

-- the detail of a verdict is at most d
pub record Within (d : ℕ) (v : Verdict) : Type 0 where
  pub detail : (answer_of v).detail ≤ d

module _ {d : ℕ} where
  yes-within : Within d (Ok tt)
  yes-within = omega arith

  -- 1 to 4
  header-within : (n s k : ℕ) (unfit : Bool) → Within d (header n s k unfit)
  unfolding header
  header-within n s k unfit =
      refuse-each (Within d) (eqb n 0 || ltb modes_most n) ModeCount (omega arith)
      (refuse-each (Within d) (leb n s) StartMode (omega arith)
      (refuse-each (Within d) unfit ArcLists (omega arith)
      (refuse-each (Within d) (ltb colours_most k) ColourCount (omega arith)
      yes-within)))

  -- 5
  arcs-within : (n power : ℕ) (l : List Arc) → length l ≤ d → Within d (arcs_verdict n power l 0)
  arcs-within n power l h = scan-each (Within d) (arcs-scan n power l) yes-within λ k i. omega arith

  -- 1 to 5
  fitness-within : (n s k : ℕ) (l : Lists) → arcs_most ≤ d → Within d (fitness n s k l)
  unfolding fitness
  fitness-within n s k l h =
      then-each (Within d) (header_of n s k l) (header-within n s k _) λ e.
      arcs-within n (2 ^ k) (arcs_of l) (omega (arith, ((header-yes n s k l).0 e).few_arcs, arcs-length l (length l.sources) 0))

  -- 6, with any ceiling, ..
  ceiling-within : (most b c : ℕ) → Within d (levels_within most b c)
  ceiling-within most b c = refuse-each (Within d) (ltb most b || ltb b c) Levels (omega arith) yes-within

  -- .. and with that of all calls but the decision
  levels-within : (b c : ℕ) → Within d (levels_of b c)
  unfolding levels_of
  levels-within b c = ceiling-within bound_most b c

  -- 7 to 9
  spaces-within : (n k b words bytes : ℕ) → Within d (spaces n k b words bytes)
  unfolding spaces
  spaces-within n k b words bytes =
      refuse-each (Within d) (ltb product_most (n * (b + 1))) Product (omega arith)
      (refuse-each (Within d) (ltb words (work_space k n b)) WorkingSpace (omega arith)
      (refuse-each (Within d) (ltb bytes (plan_buffer k n b)) PlanBuffer (omega arith)
      yes-within))

-- 11 to 16, 24 and 17
of-plans : OfPlans (Within (2 * plan_most))
of-plans = record {
  of_yes = yes-within;
  of_length = omega arith;
  of_number = λ d i. omega arith;
  of_mode = λ d i. omega arith;
  of_open = omega arith;
  of_step = λ d i. omega arith;
  of_falling = omega arith;
  of_barred = λ d i. omega arith;
  of_missing = λ j i. omega arith;
}

-- judging: the largest are those of 15, a step of run-in, first and second round
pub judged-within : (n s k : ℕ) (l : Lists) (x b c p q : ℕ) (w : List ℕ) → Within (2 * plan_most) (judged n s k l x b c p q w)
unfolding judged judged_levels
judged-within n s k l x b c p q w =
    let P = Within (2 * plan_most) in
    then-each P (fitness n s k l) (fitness-within n s k l (omega arith)) λ fit.
    then-each P (levels_of b c) (levels-within b c) λ _.
    plan-each P of-plans (automaton_of n s k l) x b c p q w ((fitness-yes n s k l).0 fit).1.few_colours

-- the walk: what judging refuses, and 18
pub walked-within : (n s k : ℕ) (l : Lists) (x b c p q : ℕ) (w : List ℕ) (j t : ℕ) → t < 2 ^ 16 → (r : Refusal)
    → walk_of n s k l x b c p q w j t ≡ Err r → Within (2 * plan_most) (Err r)
walked-within n s k l x b c p q w j t low r e =
    ⊎_elim (λ z. rw z at (judged-within n s k l x b c p q w)) (λ (_, _, z). rw z (omega arith)) ((walk-refused-by n s k l x b c p q w j t low r).0 e)

-- a gauge: the largest are those of 5, an arc
pub started-within : (n s k : ℕ) (l : Lists) (b c : ℕ) → Within arcs_most (verdict_of (started_of n s k l b c))
unfolding started_of
started-within n s k l b c =
    go (fitness n s k l) (levels_of b c) (new_gauge (automaton_of n s k l) b c) (fitness-within n s k l (omega arith)) (levels-within b c)
  where
    go : (u v : Verdict) (z : Gauge) → Within arcs_most u → Within arcs_most v → Within arcs_most (verdict_of {T = Gauge} (and_then u (and_then v (Ok z))))
    go (Ok _) (Ok _) z first second = yes-within
    go (Ok _) (Err r) z first second = second
    go (Err r) v z first second = first

-- 22, 12, 13 and 15 of a step have detail 0
pub stepped_within : (n s k : ℕ) (l : Lists) (b a : ℕ) (x : Gauge) → Within arcs_most (verdict_of (stepped_of n s k l b a x))
stepped_within n s k l b a x = go (stepped_of n s k l b a x) refl
  where
    by : (r : Refusal) → StepRefusal n s k l b x r → Within arcs_most (Err r)
    by r (inl e) = rw e at (fitness-within {d = arcs_most} n s k l (omega arith))
    by r (inr (_, inl e)) = rw e at (levels-within {d = arcs_most} b x.charge)
    by r (inr (_, inr (_, inl (_, e)))) = rw e (omega arith)
    by r (inr (_, inr (_, inr (_, inl e)))) = rw e (omega arith)
    by r (inr (_, inr (_, inr (_, inr (inl e))))) = rw e (omega arith)
    by r (inr (_, inr (_, inr (_, inr (inr e))))) = rw e (omega arith)

    go : (y : Gauged) → stepped_of n s k l b a x ≡ y → Within arcs_most (verdict_of y)
    go (Ok _) e = yes-within
    go (Err r) e = by r (step-stops n s k l b a x r e).1

-- 1 to 9 of search: the largest are those of 5, an arc
pub searchable-within : (n s k : ℕ) (l : Lists) (b c words bytes : ℕ) → Within arcs_most (searchable n s k l b c words bytes)
unfolding searchable
searchable-within n s k l b c words bytes =
    let P = Within arcs_most in
    then-each P (fitness n s k l) (fitness-within n s k l (omega arith)) λ _.
    then-each P (levels_of b c) (levels-within b c) λ _. spaces-within n k b words bytes

-- 1 to 6 and 8 of the decision
pub decidable-within : (n s k : ℕ) (l : Lists) (b c words : ℕ) → Within arcs_most (decidable n s k l b c words)
unfolding decidable levels_and_space space_of
decidable-within n s k l b c words =
    let P = Within arcs_most in
    then-each P (fitness n s k l) (fitness-within n s k l (omega arith)) λ _.
    then-each P (levels_within decide_bound_most b c) (ceiling-within decide_bound_most b c) λ _.
    refuse-each P (ltb words (decide_space k n)) WorkingSpace (omega arith) yes-within

-- 1 to 8 of the least credit and the least bound
level-within : {d : ℕ} (s : Sought) (given : ℕ) → Within d (level_of s given)
level-within Credit b = levels-within b 0
level-within Bound c = yes-within

pub seekable-within : (sought : Sought) (n s k : ℕ) (l : Lists) (given words : ℕ) → Within arcs_most (seekable sought n s k l given words)
unfolding seekable least.space_of
seekable-within sought n s k l given words =
    let P = Within arcs_most in
    then-each P (fitness n s k l) (fitness-within n s k l (omega arith)) λ _.
    then-each P (level_of sought given) (level-within sought given) λ _.
    refuse-each P (ltb product_most (n * (given + 1))) Product (omega arith)
    (refuse-each P (ltb words (work_space k n (largest_tried sought n given))) WorkingSpace (omega arith) yes-within)

-- 1 to 6 of the table of greatest charges, and 12
pub levelled-within : (n s k : ℕ) (l : Lists) (b c : ℕ) → Within arcs_most (levelled n s k l b c)
unfolding levelled
levelled-within n s k l b c = then-each (Within arcs_most) (fitness n s k l) (fitness-within n s k l (omega arith)) λ _. levels-within b c

pub switchable-within : (n s k : ℕ) (l : Lists) (b c a : ℕ) → Within arcs_most (switchable n s k l b c a)
unfolding switchable
switchable-within n s k l b c a =
    then-each (Within arcs_most) (levelled n s k l b c) (levelled-within n s k l b c) λ _.
    refuse-each (Within arcs_most) (leb (length l.sources) a) (ArcNumber 0) (omega arith) yes-within
