-- What the definitions of feasible and accepted come to: document 001's feasibility and acceptance of the infinite run; and two rounds decide the
-- first. Assumes nothing.
use mathlib.Core.Path.{◌≡◌, refl, sym, ap, ◌∙◌, subst}
use mathlib.Core.Bool.{true, false, false≢true}
use mathlib.Core.List.{List, ◌++◌, map-append, append_assoc}
use mathlib.Core.Logic.{◌↔◌}
use Prim.Native.Nat.{ℕ, zero, suc, ◌+◌, ◌≤◌, ◌<◌}
use native.Mathlib.Omega.{arith}
use Rattle.walks.specs.BoundedStep.{Move}
use lib.ListN.{length, take, drop, length-append, take-append-drop}
use lib.Seq.{drop-append-le, drop-append_seam}
use Rattle.walks.specs.Walk.{End, Ends, Blocked, after_walk, walked, IsPossible, RoundsHold, times}
use Rattle.walks.specs.Accumulated.{FeasibleRun, run_weights}
use Rattle.walks.proofs.Accumulated.{possible-accumulated}
use Rattle.walks.proofs.Walks.{walked-append, map-times, times-add}
use Rattle.walks.proofs.Charges.{walked-bound, walked-wider}
use Rattle.walks.proofs.Rounds.{rounds-hold}
use Rattle.model.specs.Automaton.{Automaton, arc_at, bit, meets, move_of, moves_of}
use Rattle.model.specs.Plans.{Plan, Leads, IsPlan, walked_arcs, Feasible, Meets, Accepted, Serves, SomePlan}
use Rattle.model.proofs.Leads.{leads-append, leads-cut, leads-times}
use Rattle.model.proofs.SomeArc.{some_right, some-times}
use Rattle.model.proofs.Bits.{bit-zero}

module _ (g : Automaton) (b c : ℕ) (p : Plan) where
  -- the walk of a plan with its cycle r times over is the walk of the prefix, and then that of the cycle repeated
  plan-walked : (r : ℕ) → walked b (moves_of g (p.prefix ++ times r p.cycle)) c
      ≡ after_walk (walked b (moves_of g p.prefix) c) (walked b (times r (moves_of g p.cycle)))
  plan-walked r =
      let arc : ℕ → Move = λ a. move_of (arc_at g a) in
      ap (λ (l : List Move). walked b l c)
      (map-append arc p.prefix (times r p.cycle) ∙ ap {B = List Move} (λ l. moves_of g p.prefix ++ l) (map-times arc r p.cycle))
      ∙ walked-append b (moves_of g p.prefix) (times r (moves_of g p.cycle)) c

  -- feasible: the prefix ends at some charge e, from which the first round ends no lower than it began, or the second does
  pub feasible-rounds : c ≤ b → Feasible g b c p ↔ ((e : ℕ) × (walked b (moves_of g p.prefix) c ≡ Ends e) × RoundsHold b (moves_of g p.cycle) e)
  feasible-rounds h = (λ f. to (walked b (moves_of g p.prefix) c) refl (λ r. subst IsPossible (plan-walked r) (f r)), from)
    where
      bounded : (e : ℕ) → walked b (moves_of g p.prefix) c ≡ Ends e → e ≤ b
      bounded e q = walked-bound b (moves_of g p.prefix) c e h q

      to : (s : End) → walked b (moves_of g p.prefix) c ≡ s
          → ((r : ℕ) → IsPossible (after_walk (walked b (moves_of g p.prefix) c) (walked b (times r (moves_of g p.cycle)))))
          → (e : ℕ) × (walked b (moves_of g p.prefix) c ≡ Ends e) × RoundsHold b (moves_of g p.cycle) e
      to (Ends e) q f = (e, q, (rounds-hold b (moves_of g p.cycle) e (bounded e q)).0 (λ r. rw q at (f r)))
      to Blocked q f = absurd (rw q at (f 0))

      from : ((e : ℕ) × (walked b (moves_of g p.prefix) c ≡ Ends e) × RoundsHold b (moves_of g p.cycle) e) → Feasible g b c p
      from (e, q, k) r = subst IsPossible (sym (plan-walked r)) (rw q ((rounds-hold b (moves_of g p.cycle) e (bounded e q)).1 k r))

  -- Feasible is document 001's feasibility of the infinite run: "the accumulated weights of all prefixes are non-negative". The prefix and any number
  -- of rounds of the cycle are the run's finite parts, and each arc is its draw and then its gain.
  pub feasible-accumulated : c ≤ b → Feasible g b c p ↔ ((r : ℕ) → FeasibleRun b c (run_weights (moves_of g (p.prefix ++ times r p.cycle))))
  feasible-accumulated h =
      let run : ℕ → List Move = λ r. moves_of g (p.prefix ++ times r p.cycle) in
      (λ f r. (possible-accumulated b (run r) c h).0 (f r), λ f r. (possible-accumulated b (run r) c h).1 (f r))

-- a plan that serves does so with more charge and under a larger bound too
pub serves-wider : (g : Automaton) (x b b' c c' : ℕ) (p : Plan) → b ≤ b' → c ≤ c' → Serves g x b c p → Serves g x b' c' p
serves-wider g x b b' c c' p w h s =
    record {
      plan = s.plan;
      feasible = λ r. walked-wider b b' (moves_of g (p.prefix ++ times r p.cycle)) c c' w h (s.feasible r);
      accepted = s.accepted;
    }

-- the first arcs of a walk that is possible end at some charge
walked-part : (g : Automaton) (b : ℕ) (u v : List ℕ) (e : ℕ) → IsPossible (walked_arcs g b (u ++ v) e) → (x : ℕ) × (walked_arcs g b u e ≡ Ends x)
walked-part g b u v e h =
    go (walked_arcs g b u e)
    (rw (walked-append b (moves_of g u) (moves_of g v) e) at (rw (map-append (λ a. move_of (arc_at g a)) u v) at h))
  where
    go : (y : End) → IsPossible (after_walk y (walked b (moves_of g v))) → (x : ℕ) × (y ≡ Ends x)
    go (Ends x) p = (x, refl)
    go Blocked p = absurd p

-- the first i steps of a plan that serves, its cycle repeated: they lead on, and their walk ends at some charge
pub serves-walked : (g : Automaton) (x b c : ℕ) (p : Plan) → Serves g x b c p → (r i : ℕ)
    → (m : ℕ) × (y : ℕ) × Leads g g.start (take i (p.prefix ++ times r p.cycle)) m
    × (walked_arcs g b (take i (p.prefix ++ times r p.cycle)) c ≡ Ends y)
serves-walked g x b c p serves r i =
    let w = p.prefix ++ times r p.cycle in
    let s = g.start in
    let t = serves.plan.mode in
    let round = leads-times g p.cycle t serves.plan.leads_cycle r in
    let (m, leads, _) = (leads-cut g i w s t).0 ((leads-append g p.prefix (times r p.cycle) s t).1 (t, serves.plan.leads_in, round)) in
    let (y, ends) = walked-part g b (take i w) (drop i w) c (rw (take-append-drop i w) (serves.feasible r)) in
    (m, y, leads, ends)

-- the list repeated r times has at least r arcs, where it has one
pub times-length : (w : List ℕ) → 0 < length w → (r : ℕ) → r ≤ length (times r w)
times-length w h zero = omega arith
times-length w h (suc r) = omega (arith, times-length w h r, length-append w (times r w))

-- one more repetition stands at the end too
times-last : (r : ℕ) (w : List ℕ) → times (suc r) w ≡ times r w ++ w
times-last r w =
    let (once, more) = times-add r 1 w in
    let next : suc r ≡ r + 1 = omega arith in
    ap {B = List ℕ} (λ (x : ℕ). times x w) next ∙ more ∙ ap {B = List ℕ} (λ l. times r w ++ l) once

-- Accepted is document 001's acceptance: "all colors in M are seen infinitely often along" the run, and document 000's Fin condition: after any n
-- steps of the run every required colour is met again, and after some n steps no barred colour is.
pub accepted-buchi : (g : Automaton) (x : ℕ) (p : Plan) → 0 < length p.cycle → Accepted g x p
    ↔ (((j : ℕ) → j < g.colours → bit x j ≡ false → (n : ℕ) → (r : ℕ) × Meets g j (drop n (p.prefix ++ times r p.cycle)))
    × ((j : ℕ) → j < g.colours → bit x j ≡ true → (n : ℕ) × ((r : ℕ) → Meets g j (drop n (p.prefix ++ times r p.cycle)) → ⊥)))
accepted-buchi g x p h = (
  λ a. (λ j q e n. (suc n, again j n (a.required j q e)), λ j q e. (length p.prefix, λ r m. a.barred j q e (once j (r, m)))),
  λ f.
      record {
        required = λ j q e. once j (f.0 j q e (length p.prefix));
        barred = λ j q e m. let (n, never) = f.1 j q e in never (suc n) (again j n m);
      },
)
  where
    again : (j n : ℕ) → Meets g j p.cycle → Meets g j (drop n (p.prefix ++ times (suc n) p.cycle))
    again j n m =
        let u = p.prefix ++ times n p.cycle in
        let e : p.prefix ++ times (suc n) p.cycle ≡ u ++ p.cycle =
        ap {B = List ℕ} (λ l. p.prefix ++ l) (times-last n p.cycle) ∙ sym (append_assoc p.prefix (times n p.cycle) p.cycle)
        in
        let long : n ≤ length u = omega (arith, times-length p.cycle h n, length-append p.prefix (times n p.cycle)) in
        rw (e, drop-append-le n u p.cycle long) (some_right (meets g j) (drop n u) p.cycle m)

    once : (j : ℕ) → (r : ℕ) × Meets g j (drop (length p.prefix) (p.prefix ++ times r p.cycle)) → Meets g j p.cycle
    once j (r, m) = some-times (meets g j) r p.cycle (rw (drop-append_seam p.prefix (times r p.cycle)) at m)

-- "With k = 0 every plan is accepted."
pub accepted-none : (g : Automaton) (x : ℕ) (p : Plan) → g.colours ≡ 0 → Accepted g x p
accepted-none g x p e = record { required = λ j h. absurd (omega arith); barred = λ j h. absurd (omega arith) }

-- where no colour of the model is barred, accepted is document 01's word: "each of the k colours stands on some arc of the round"
pub accepted-all : (g : Automaton) (x : ℕ) (p : Plan) → ((j : ℕ) → j < g.colours → bit x j ≡ false)
    → Accepted g x p ↔ ((j : ℕ) → j < g.colours → Meets g j p.cycle)
accepted-all g x p none = (
  λ a j h. a.required j h (none j h),
  λ f. record { required = λ j h e. f j h; barred = λ j h e m. false≢true (sym (none j h) ∙ e) },
)

-- so with nothing barred a plan is what it was before Ask 6
pub plan-unbarred : (g : Automaton) (b c : ℕ) → SomePlan g 0 b c
    ↔ ((p : Plan) × IsPlan g p × Feasible g b c p × ((j : ℕ) → j < g.colours → Meets g j p.cycle))
plan-unbarred g b c = (
  λ (p, s). (p, s.plan, s.feasible, (all p).0 s.accepted),
  λ (p, plan, feasible, met). (p, record { plan = plan; feasible = feasible; accepted = (all p).1 met }),
)
  where
    all : (p : Plan) → Accepted g 0 p ↔ ((j : ℕ) → j < g.colours → Meets g j p.cycle)
    all p = accepted-all g 0 p (λ j h. bit-zero j)

-- "its bits at or above k are ignored": bytes with the same bits below k accept the same plans
module _ (g : Automaton) (x y : ℕ) (same : (j : ℕ) → j < g.colours → bit x j ≡ bit y j) where
  pub accepted-ignored : (p : Plan) → Accepted g x p → Accepted g y p
  accepted-ignored p a = record { required = λ j h e. a.required j h (same j h ∙ e); barred = λ j h e. a.barred j h (same j h ∙ e) }

  pub serves-ignored : (b c : ℕ) (p : Plan) → Serves g x b c p → Serves g y b c p
  serves-ignored b c p s = record { plan = s.plan; feasible = s.feasible; accepted = accepted-ignored p s.accepted }

-- that SomePlan fails means that "no plan of any length is feasible and accepted" (document 01, demand 3); this pins each field of Serves
pub no-plan-exists : (g : Automaton) (x b c : ℕ) → (SomePlan g x b c → ⊥) ↔ ((p : Plan) → IsPlan g p → Feasible g b c p → Accepted g x p → ⊥)
no-plan-exists g x b c = (
  λ none p plan feasible accepted. none (p, record { plan = plan; feasible = feasible; accepted = accepted }),
  λ none (p, serves). none p serves.plan serves.feasible serves.accepted,
)
