-- Document 02, Ask 4: "models without both parts must get the same verdicts as before": judging, gauge, walk and search, on all inputs. Assumes
-- nothing.
use Rattle.std.specs.Prelude.{Option, Some, None, Ok, Err}
use mathlib.Core.Path.{◌≡◌, refl, sym, ◌∙◌, subst}
use mathlib.Core.List.{List, [], ◌∷◌}
use mathlib.Core.Logic.{◌↔◌}
use Prim.Native.Nat.{ℕ, suc, ◌+◌}
use lib.Dec.{leb}
use lib.ListN.{length}
use Rattle.walks.specs.declared.Step.{Step}
use Rattle.walks.specs.Weights.{weighed}
use Rattle.refusals.specs.declared.Refusal.TheVariants.{NoSuchColour}
use Rattle.refusals.specs.Refusals.{Verdict, refuse, and_then}
use Rattle.model.specs.Automaton.{meets}
use Rattle.model.specs.Lists.{Lists}
use Rattle.model.specs.Plans.{Plan}
use Rattle.switches.specs.PlansOn.{SomePlanOn}
use Rattle.judge.specs.Shape.{plan_of}
use Rattle.judge.specs.Charges.{ran_on, ran, after_ran, second_round, rounds, charges}
use Rattle.judge.specs.Judged.{serves_of, judged_plan, judged_levels, judged}
use Rattle.gauge.specs.declared.Gauge.{Gauge}
use Rattle.gauge.specs.Gauge.{Gauged, started_of, moved_of, moved_matched, moved_levelled, stepped_of}
use Rattle.planwalk.specs.declared.Walked.TheVariants.{Met}
use Rattle.planwalk.specs.Walked.{steps_of_plan, met_or, walk_on, gauge_walk, walk_of}
use Rattle.search.specs.Search.{Searched}
use Rattle.search.specs.Search as search
use Rattle.search.proofs.Searchable.{in-numbers}
use Rattle.weights.specs.Models.{WeightLists, lists_of, model_by, OnePart, weight_at, fitness_by_weight, SomePlanOnByWeight}
use Rattle.weights.specs.Calls as by
use Rattle.weights.proofs.Parts.{one-part}
use Rattle.weights.proofs.Models.{fitness-same, step_same, serves-on-same}

module _ (n s k : ℕ) (l : WeightLists) where
  ran-same : (b : ℕ) (w : List ℕ) (i e : ℕ) (f h : ℕ → Verdict) → ((x : ℕ) → f x ≡ h x)
      → after_ran (ran (model_by n s k l) b w i e) f ≡ by.ran_by_weight l b w i e h
  unfolding ran by.ran_by_weight
  ran-same b [] i e f h same = same e
  ran-same b (a ∷ w) i e f h same = rw (step_same l n s k b a e) (on (weighed b (weight_at l a) e) (λ y. ran-same b w (suc i) y f h same))
    where
      on : (t : Option Step) → ((y : ℕ) → after_ran (ran (model_by n s k l) b w (suc i) y) f ≡ by.ran_by_weight l b w (suc i) y h)
          → after_ran (ran_on t i (ran (model_by n s k l) b w (suc i))) f ≡ by.ran_on_by_weight t i (λ y. by.ran_by_weight l b w (suc i) y h)
      on (Some z) r = r z.charge
      on None r = refl

  charges-same : (b c : ℕ) (p : Plan) → charges (model_by n s k l) b c p ≡ by.charges_by_weight l b c p
  unfolding charges rounds second_round by.charges_by_weight
  charges-same b c p =
      ran-same b p.prefix 0 c _ _ λ e.
      ran-same b p.cycle (length p.prefix) e _ _ λ x.
      ran-same b p.cycle (length p.prefix + length p.cycle) x _ _ λ y. refl

  -- judging
  pub judged-same : (x b c p q : ℕ) (w : List ℕ) → judged n s k (lists_of l) x b c p q w ≡ by.judged_by_weight n s k l x b c p q w
  unfolding judged judged_levels judged_plan serves_of by.judged_by_weight
  judged-same x b c p q w = rw (fitness-same l n s k, charges-same b c (plan_of p w)) refl

  -- the gauge
  pub started-same : (b c : ℕ) → started_of n s k (lists_of l) b c ≡ by.started_by_weight n s k l b c
  unfolding started_of by.started_by_weight
  started-same b c = rw (fitness-same l n s k) refl

  pub stepped_same : (b a : ℕ) (x : Gauge) → stepped_of n s k (lists_of l) b a x ≡ by.stepped_by_weight n s k l b a x
  unfolding stepped_of moved_levelled moved_matched moved_of by.stepped_by_weight
  stepped_same b a x = rw (fitness-same l n s k, step_same l n s k b a x.charge) refl

  -- the walk
  gauge-walk-same : (b j : ℕ) (w : List ℕ) (i : ℕ) (x : Gauge) → gauge_walk n s k (lists_of l) b j w i x ≡ by.gauge_walk_by_weight n s k l b j w i x
  unfolding gauge_walk by.gauge_walk_by_weight
  gauge-walk-same b j [] i x = refl
  gauge-walk-same b j (a ∷ w) i x = rw (stepped_same b a x) (go (by.stepped_by_weight n s k l b a x) (gauge-walk-same b j w (suc i)))
    where
      go : (y : Gauged) → ((u : Gauge) → gauge_walk n s k (lists_of l) b j w (suc i) u ≡ by.gauge_walk_by_weight n s k l b j w (suc i) u)
          → walk_on y (λ u. met_or (meets (model_by n s k l) j a) (Ok (Met (suc i))) (gauge_walk n s k (lists_of l) b j w (suc i) u))
          ≡ walk_on y (λ u. met_or (meets (model_by n s k l) j a) (Ok (Met (suc i))) (by.gauge_walk_by_weight n s k l b j w (suc i) u))
      go (Ok u) same = rw (same u) refl
      go (Err r) same = refl

  pub walk_same : (x b c p q : ℕ) (w : List ℕ) (j t : ℕ) → walk_of n s k (lists_of l) x b c p q w j t ≡ by.walk_by_weight n s k l x b c p q w j t
  unfolding walk_of by.walk_by_weight
  walk_same x b c p q w j t =
      rw (judged-same x b c p q w, started-same b c) (go (by.started_by_weight n s k l b c))
    where
      go : (y : Gauged) → and_then (by.judged_by_weight n s k l x b c p q w)
          (refuse (leb k j) NoSuchColour (walk_on y (gauge_walk n s k (lists_of l) b j (steps_of_plan (plan_of p w) t) 0)))
          ≡ and_then (by.judged_by_weight n s k l x b c p q w)
          (refuse (leb k j) NoSuchColour (walk_on y (by.gauge_walk_by_weight n s k l b j (steps_of_plan (plan_of p w) t) 0)))
      go (Ok u) = rw (gauge-walk-same b j (steps_of_plan (plan_of p w) t) 0 u) refl
      go (Err r) = refl

  -- search: 1 to 9 ..
  searchable-same : (b c words bytes : ℕ) → search.searchable n s k (lists_of l) b c words bytes ≡ and_then (fitness_by_weight n s k l) (search.levels_and_spaces n k b c words bytes)
  unfolding search.searchable
  searchable-same b c words bytes = rw (fitness-same l n s k) refl

  -- .. the plan ..
  found-same : (x : ℕ) (on : List ℕ) (b c p q : ℕ) (plan plan' : List ℕ)
      → search.Found (model_by n s k l) x on b c p q plan plan' ↔ by.FoundByWeight n s k l x on b c p q plan plan'
  found-same x on b c p q plan plan' =
      let same = serves-on-same l n s k x on b c _ in (
        λ f. record {
          serves = same.0 f.serves;
          within = f.within;
          short = f.short;
          prefix_short = f.prefix_short;
          cycle_short = f.cycle_short;
          later = f.later;
        },
        λ f. record {
          serves = same.1 f.serves;
          within = f.within;
          short = f.short;
          prefix_short = f.prefix_short;
          cycle_short = f.cycle_short;
          later = f.later;
        },
      )

  answered-same : (x : ℕ) (on : List ℕ) (b c : ℕ) (plan plan' : List ℕ) (r : Searched)
      → search.Answered (model_by n s k l) x on b c plan plan' r ↔ by.AnsweredByWeight n s k l x on b c plan plan' r
  answered-same x on b c plan plan' r = (to r, from r)
    where
      to : (r : Searched) → search.Answered (model_by n s k l) x on b c plan plan' r → by.AnsweredByWeight n s k l x on b c plan plan' r
      to r (search.none e) = by.none e
      to r (search.found {p} {q} f) = by.found ((found-same x on b c p q plan plan').0 f)

      from : (r : Searched) → by.AnsweredByWeight n s k l x on b c plan plan' r → search.Answered (model_by n s k l) x on b c plan plan' r
      from r (by.none e) = search.none e
      from r (by.found {p} {q} f) = search.found ((found-same x on b c p q plan plan').1 f)

  -- .. that there is one ..
  some_same : (x : ℕ) (on : List ℕ) (b c : ℕ) → (SomePlanOn (model_by n s k l) x on b c → ⊥) ↔ (SomePlanOnByWeight n s k l x on b c → ⊥)
  some_same x on b c =
      let same = serves-on-same l n s k x on b c in (λ f (p, h). f (p, (same p).1 h), λ f (p, h). f (p, (same p).0 h))

  decided-same : (x : ℕ) (on : List ℕ) (b c : ℕ) (work plan work' plan' : List ℕ) (r : Searched)
      → search.Decided (model_by n s k l) x on b c work plan work' plan' r ↔ by.DecidedByWeight n s k l x on b c work plan work' plan' r
  decided-same x on b c work plan work' plan' r =
      let some = some_same x on b c in
      let answered = answered-same x on b c plan plan' r in (
        λ d. record {
          no_plan_iff = (λ e. some.0 (d.no_plan_iff.0 e), λ f. d.no_plan_iff.1 (some.1 f));
          answered = answered.0 d.answered;
          cleared = d.cleared;
        },
        λ d. record {
          no_plan_iff = (λ e. some.1 (d.no_plan_iff.0 e), λ f. d.no_plan_iff.1 (some.0 f));
          answered = answered.1 d.answered;
          cleared = d.cleared;
        },
      )

  -- .. and the call
  pub search-same : (x : ℕ) (on : List ℕ) (b c : ℕ) (work plan work' plan' : List ℕ) (r : Searched)
      → search.SearchOf n s k (lists_of l) x on b c work plan work' plan' r ↔ by.SearchByWeight n s k l x on b c work plan work' plan' r
  search-same x on b c work plan work' plan' r =
      let v = searchable-same b c (length work) (length plan) in
      let decided = decided-same x on b c work plan work' plan' r in (
        λ h. record { refused = λ y e. h.refused y (v ∙ e); decided = λ e. decided.0 (h.decided (v ∙ e)) },
        λ h. record {
          refused = λ y e. h.refused y (sym v ∙ e);
          decided = λ e. decided.1 (h.decided (sym v ∙ e));
          by_number = in-numbers (λ y e. (h.refused y (sym v ∙ e)).0) (λ e. decided.1 (h.decided (sym v ∙ e)));
        },
      )

-- all of them
same-answers : (l : WeightLists) → by.SameAnswers (lists_of l) l
same-answers l =
    record {
      judging = λ n s k. judged-same n s k l;
      starting = λ n s k. started-same n s k l;
      stepping = λ n s k. stepped_same n s k l;
      walking = λ n s k. walk_same n s k l;
      searching = λ n s k. search-same n s k l;
    }

-- "models without both parts must get the same verdicts as before"
pub one-part-same : (l : Lists) → OnePart l → (w : WeightLists) × (lists_of w ≡ l) × by.SameAnswers l w
one-part-same l h = let (w, e) = (one-part l).0 h in (w, e, subst (λ (x : Lists). by.SameAnswers x w) e (same-answers w))

-- What "the same verdicts" are, call by call, with every byte of barred colours and whatever else is given; this pins each field of SameAnswers.
module _ {l : Lists} {w : WeightLists} (same : by.SameAnswers l w) (n s k : ℕ) where
  pub judges-same : (x b c p q : ℕ) (v : List ℕ) → judged n s k l x b c p q v ≡ by.judged_by_weight n s k w x b c p q v
  judges-same = same.judging n s k

  pub starts-same : (b c : ℕ) → started_of n s k l b c ≡ by.started_by_weight n s k w b c
  starts-same = same.starting n s k

  pub steps-same : (b a : ℕ) (y : Gauge) → stepped_of n s k l b a y ≡ by.stepped_by_weight n s k w b a y
  steps-same = same.stepping n s k

  pub walks_same : (x b c p q : ℕ) (v : List ℕ) (j t : ℕ) → walk_of n s k l x b c p q v j t ≡ by.walk_by_weight n s k w x b c p q v j t
  walks_same = same.walking n s k

  pub searches-same : (x : ℕ) (on : List ℕ) (b c : ℕ) (work plan work' plan' : List ℕ) (r : Searched)
      → search.SearchOf n s k l x on b c work plan work' plan' r ↔ by.SearchByWeight n s k w x on b c work plan work' plan' r
  searches-same = same.searching n s k
