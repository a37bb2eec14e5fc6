-- The call repeated: stepped along a list of arcs, the gauge has at each point the mode and the charge of the definition of a walk and the
-- total of what the walk lost, and along a plan that serves it is refused only where that total would pass 64 bits. Assumes nothing.
use Rattle.std.specs.Prelude.{Option, Some, None, Ok, Err}
use mathlib.Core.Path.{◌≡◌, refl, sym, ap, ◌∙◌}
use mathlib.Core.List.{List, [], ◌∷◌, ◌++◌}
use mathlib.Core.Logic.{◌↔◌}
use Prim.Native.Nat.{ℕ, ◌+◌, ◌*◌, ◌≤◌, ◌<◌}
use native.Mathlib.Omega.{arith}
use native.Mathlib.Decide.{dec_le, ℕ_discrete}
use lib.ListN.{length, take, length-take}
use Rattle.limits.specs.Ceilings.{bound_most, gain_most, spill_most}
use Rattle.walks.specs.declared.Step.{Step}
use Rattle.walks.specs.BoundedStep.{to, stepped}
use Rattle.walks.specs.Walk.{Ends, walked, times}
use Rattle.walks.specs.Spill.{spilled}
use Rattle.walks.proofs.Walks.{walked-cons}
use Rattle.walks.proofs.Charges.{stepped-bound}
use Rattle.walks.proofs.Spill.{spilled-cons}
use Rattle.refusals.specs.declared.Refusal.{Refusal}
use Rattle.refusals.specs.declared.Refusal.TheVariants.{ArcNumber, OtherMode, ImpossibleStep, MixedGauge}
use Rattle.refusals.proofs.Verdicts.{clash}
use Rattle.model.specs.Automaton.{Automaton, arc_at, move_of, moves_of}
use Rattle.model.specs.Lists.{Lists, automaton_of}
use Rattle.model.specs.Fitness.{fitness, levels_of}
use Rattle.model.specs.Plans.{Plan, Leads, walked_arcs, Serves}
use Rattle.model.proofs.Fitness.{fitness-yes, levels-yes}
use Rattle.model.proofs.Plans.{serves-walked}
use Rattle.gauge.specs.declared.Gauge.{Gauge}
use Rattle.gauge.specs.Gauge.{Gauged, gauge_or, new_gauge, moved_to, no_gauge, started_of, landed, moved_of, Matches, stepped_of, after_gauged}
use Rattle.gauge.specs.History.{called_all, steps_of}
use Rattle.gauge.proofs.Losses.{spilled-most}
use Rattle.gauge.proofs.Gauges.{landed-off, landed-full, landed-on, moved-number, moved-mode, moved-lands}
use Rattle.gauge.proofs.Matching.{old-by, matching-step, mixed-step, yes-kept, step_kept, kept-matches, new-matches}

-- two accepted gauges of one start are equal exactly where their modes, their charges and their totals are
same-gauge : (z : Gauge) (m e s t x y : ℕ) → (◌≡◌ {A = Gauged} (Ok (moved_to z m e s)) (Ok (moved_to z t x y))) ↔ ((m ≡ t) × (e ≡ x) × (s ≡ y))
same-gauge z m e s t x y = (
  λ q.
      let same : moved_to z m e s ≡ moved_to z t x y = cc in
      (ap {B = ℕ} (λ (z : Gauge). z.mode) same, ap {B = ℕ} (λ (z : Gauge). z.charge) same, ap {B = ℕ} (λ (z : Gauge). z.spill) same),
  λ (p, q, r). cc,
)

-- what is refused is not accepted
pub not_yes : {X : Type 0} (r : Refusal) (z : Gauge) → ◌≡◌ {A = Gauged} (Err r) (Ok z) → X
not_yes r z q = clash (cc)

-- the step leads to charge x, and what it lost makes the total s of before y, which is a number of 64 bits
abbrev pub Spills : Option Step → ℕ → ℕ → ℕ → Type 0
Spills f s x y = (l : ℕ) × (f ≡ to x l) × (y ≡ s + l) × (y ≤ spill_most)

-- a step is accepted exactly where it is possible and the total does not pass 64 bits
landed-yes : (z : Gauge) (u : ℕ) (f : Option Step) (t x y : ℕ) → (landed z u f ≡ Ok (moved_to z t x y)) ↔ ((u ≡ t) × Spills f z.spill x y)
landed-yes z u (Some w) t x y =
    elim (dec_le (z.spill + w.lost) spill_most) [
      | yes h ↦
          let on = landed-on z u w.charge w.lost h in
          let same = same-gauge z u w.charge (z.spill + w.lost) t x y in (
            λ q. let (i, j, k) = same.0 (sym on ∙ q) in (i, (w.lost, rw j refl, sym k, omega arith)),
            λ (i, (n, p, k, m)). let j : w.charge ≡ x = cc in let r : w.lost ≡ n = cc in on ∙ same.1 (i, j, omega arith),
          )
      | no h ↦
          let full = landed-full z u w.charge w.lost (omega arith) in (
            λ q. not_yes (ImpossibleStep 0) (moved_to z t x y) (sym full.0 ∙ q),
            λ (i, (n, p, k, m)). let r : w.lost ≡ n = cc in absurd (omega arith),
          )
    ]
landed-yes z u None t x y = (λ q. not_yes (ImpossibleStep 0) (moved_to z t x y) (sym (landed-off z u) ∙ q), λ (i, (n, p, k, m)). clash (cc))

-- a step on an arc of the model is accepted exactly where the arc is there, it leaves the gauge's mode, the bounded step is possible, and
-- the total does not pass 64 bits
pub moved-yes : (g : Automaton) (b a : ℕ) (z : Gauge) (t x y : ℕ) → (moved_of g b a z ≡ Ok (moved_to z t x y))
    ↔ ((a < length g.arcs) × ((arc_at g a).source ≡ z.mode) × ((arc_at g a).target ≡ t)
    × Spills (stepped b (move_of (arc_at g a)) z.charge) z.spill x y)
moved-yes g b a z t x y =
    let z' = moved_to z t x y in
    let lands = landed-yes z (arc_at g a).target (stepped b (move_of (arc_at g a)) z.charge) t x y in (
      λ q.
          elim (dec_le (length g.arcs) a) [
            | yes h ↦ not_yes (ArcNumber 0) z' (sym (moved-number g b a z h) ∙ q)
            | no h ↦
                elim (ℕ_discrete (arc_at g a).source z.mode) [
                  | yes p ↦ let (i, j) = lands.0 (sym (moved-lands g b a z (omega arith) p) ∙ q) in (omega arith, p, i, j)
                  | no p ↦ not_yes (OtherMode 0) z' (sym (moved-mode g b a z (omega arith) p) ∙ q)
                ]
          ],
      λ (h, p, i, j). moved-lands g b a z h p ∙ lands.1 (i, j),
    )

-- the call on a fit model, where neither 6 nor 22 applies, is the step on the arc
pub step-moved : (n s k : ℕ) (l : Lists) (b a : ℕ) (x : Gauge) → fitness n s k l ≡ Ok tt → levels_of b x.charge ≡ Ok tt
    → Matches (automaton_of n s k l) b x → stepped_of n s k l b a x ≡ moved_of (automaton_of n s k l) b a x
step-moved n s k l b a x fit levels match = matching-step n s k l b a x match ∙ old-by n s k l b a x (Ok tt) (Ok tt) fit levels

-- "A gauge in a mode not below n therefore gets 13 or an earlier number": where none of 1 to 6, 22 and 12 applies, it gets 13
pub mode-refused : (n s k : ℕ) (l : Lists) (b a : ℕ) (x : Gauge) → fitness n s k l ≡ Ok tt → levels_of b x.charge ≡ Ok tt
    → Matches (automaton_of n s k l) b x → a < length (automaton_of n s k l).arcs → n ≤ x.mode
    → (stepped_of n s k l b a x ≡ Err (OtherMode 0)) × (gauge_or x (stepped_of n s k l b a x) ≡ x)
mode-refused n s k l b a x fit levels match h far =
    let source = (((fitness-yes n s k l).0 fit).1.arcs_fit a h).source in
    let e : stepped_of n s k l b a x ≡ Err (OtherMode 0) =
    step-moved n s k l b a x fit levels match ∙ moved-mode (automaton_of n s k l) b a x h (λ q. omega arith)
    in (e, ap {B = Gauge} (gauge_or x) e)

-- the gauge of a refused start is refused by every step on a fit model: 22, or 6 where b is too large
pub no-gauge-refused : (n s k : ℕ) (l : Lists) (b a : ℕ) → fitness n s k l ≡ Ok tt → b ≤ bound_most
    → (stepped_of n s k l b a no_gauge ≡ Err MixedGauge) × (gauge_or no_gauge (stepped_of n s k l b a no_gauge) ≡ no_gauge)
no-gauge-refused n s k l b a fit hb =
    mixed-step n s k l b a no_gauge (λ m. omega (arith, m.modes, ((fitness-yes n s k l).0 fit).1.some-mode)) fit ((levels-yes b 0).1 (hb, omega arith))

-- what follows a step is accepted exactly where both are
pub after-yes : (y : Gauged) (f : Gauge → Gauged) (z : Gauge) → (after_gauged y f ≡ Ok z) ↔ ((u : Gauge) × (y ≡ Ok u) × (f u ≡ Ok z))
after-yes (Ok x) f z = (λ q. (x, refl, q), λ (u, p, q). let same : x ≡ u = cc in rw same q)
after-yes (Err r) f z = (λ q. not_yes r z q, λ (u, p, q). not_yes r u p)

-- .. and a refusal ends what follows
pub after-refused : (y : Gauged) (f : Gauge → Gauged) (r : Refusal) → y ≡ Err r → after_gauged y f ≡ y
after-refused y f r e = rw e refl

-- Stepped along the arcs w, a matching gauge z comes to mode t, charge x and total y, without a refusal, exactly where w leads from its mode to
-- t, the walk of w from its charge ends at x, and its total and what the walk lost make y, which does not pass 64 bits.
module _ (n s k : ℕ) (l : Lists) (b : ℕ) (fit : fitness n s k l ≡ Ok tt) (hb : b ≤ bound_most) where
  pub gauge-follows : (w : List ℕ) (z : Gauge) (t x y : ℕ) → Matches (automaton_of n s k l) b z → z.charge ≤ b → z.spill ≤ spill_most
      → (steps_of n s k l b w z ≡ Ok (moved_to z t x y))
      ↔ (Leads (automaton_of n s k l) z.mode w t × (walked_arcs (automaton_of n s k l) b w z.charge ≡ Ends x)
      × (y ≡ z.spill + spilled b (moves_of (automaton_of n s k l) w) z.charge) × (y ≤ spill_most))
  unfolding called_all walked spilled
  gauge-follows [] z t x y match h hi =
      let same = same-gauge z z.mode z.charge z.spill t x y in (
        λ q. let (p, r, u) = same.0 q in (p, ap Ends r, omega arith, omega arith),
        λ (p, q, r, u). let e : z.charge ≡ x = cc in same.1 (p, e, omega arith),
      )
  gauge-follows (a ∷ w) z t x y match h hi =
      let g = automaton_of n s k l in
      let f = move_of (arc_at g a) in
      let e = z.charge in
      let step = step-moved n s k l b a z fit ((levels-yes b e).1 (hb, h)) match in
      let after = after-yes (stepped_of n s k l b a z) (steps_of n s k l b w) (moved_to z t x y) in
      let walk = walked-cons b f (moves_of g w) e x in (
        λ q.
            let (u, p, r) = after.0 q in
            let kept = yes-kept z u (stepped_of n s k l b a z) p (step_kept n s k l b a z) in
            let (below, source, target, (lost, to, sum, low)) =
            (moved-yes g b a z u.mode u.charge u.spill).0 (sym step ∙ p ∙ ap {B = Gauged} (λ (v : Gauge). Ok v) kept)
            in
            let (leads, ends, all, most) =
            (gauge-follows w u t x y ((kept-matches z u kept g b).0 match) (stepped-bound b f e u.charge lost h to) low).0
            (r ∙ ap {B = Gauged} (λ (v : Gauge). Ok (moved_to v t x y)) (sym kept))
            in (
              (below, source, rw target leads),
              walk.1 (u.charge, lost, to, ends),
              omega (arith, spilled-cons b f (moves_of g w) e u.charge lost to),
              most,
            ),
        λ ((below, source, leads), q, all, most).
            let (v, lost, to, ends) = walk.0 q in
            let u = moved_to z (arc_at g a).target v (z.spill + lost) in
            let sum = spilled-cons b f (moves_of g w) e v lost to in
            after.1 (
              u,
              step ∙ (moved-yes g b a z u.mode v u.spill).1 (below, source, refl, (lost, to, refl, omega (arith, sum))),
              (gauge-follows w u t x y ((kept-matches z u refl g b).0 match) (stepped-bound b f e v lost h to) (omega (arith, sum))).1
                  (leads, ends, omega (arith, sum), most),
            ),
      )

-- "Starting .. hands back a new one with the start mode and c", where none of 1 to 6 applies
pub started-yes : (n s k : ℕ) (l : Lists) (b c : ℕ) → fitness n s k l ≡ Ok tt → levels_of b c ≡ Ok tt → started_of n s k l b c ≡ Ok (new_gauge (automaton_of n s k l) b c)
unfolding started_of
started-yes n s k l b c fit levels = rw (fit, levels) refl

-- Started, and stepped along a plan that serves, however often the cycle repeats and wherever one stops, the gauge is refused only where the
-- total would pass 64 bits: else it has the mode that the arcs lead to, the charge of their walk, and what the walk lost.
pub plan-followed : (n s k : ℕ) (l : Lists) (x b c : ℕ) (p : Plan) → fitness n s k l ≡ Ok tt → b ≤ bound_most → c ≤ b
    → Serves (automaton_of n s k l) x b c p → (r i : ℕ) → let w = take i (p.prefix ++ times r p.cycle) in
    let y = spilled b (moves_of (automaton_of n s k l) w) c in
    (t : ℕ) × (e : ℕ) × Leads (automaton_of n s k l) s w t × (walked_arcs (automaton_of n s k l) b w c ≡ Ends e)
    × ((after_gauged (started_of n s k l b c) (steps_of n s k l b w) ≡ Ok (moved_to (new_gauge (automaton_of n s k l) b c) t e y)) ↔ (y ≤ spill_most))
plan-followed n s k l x b c p fit hb hc serves r i =
    let (t, e, leads, ends) = serves-walked (automaton_of n s k l) x b c p serves r i in
    let w = take i (p.prefix ++ times r p.cycle) in
    let y = spilled b (moves_of (automaton_of n s k l) w) c in
    let z = new_gauge (automaton_of n s k l) b c in
    let follows = gauge-follows n s k l b fit hb w z t e y (new-matches (automaton_of n s k l) b c) hc (omega arith) in (
      t,
      e,
      leads,
      ends,
      rw (started-yes n s k l b c fit ((levels-yes b c).1 (hb, hc))) (λ q. (follows.0 q).3, λ low. follows.1 (leads, ends, omega arith, low)),
    )

-- .. so not within the first 1,844,674,407,370,955 steps: none loses more than 10,000
pub plan-never-full : (n s k : ℕ) (l : Lists) (x b c : ℕ) (p : Plan) → fitness n s k l ≡ Ok tt → b ≤ bound_most → c ≤ b
    → Serves (automaton_of n s k l) x b c p → (r i : ℕ) → i * gain_most ≤ spill_most → let w = take i (p.prefix ++ times r p.cycle) in
    (z : Gauge) × (after_gauged (started_of n s k l b c) (steps_of n s k l b w) ≡ Ok z)
plan-never-full n s k l x b c p fit hb hc serves r i few =
    let (t, e, leads, ends, followed) = plan-followed n s k l x b c p fit hb hc serves r i in
    let all = p.prefix ++ times r p.cycle in
    let most = spilled-most n s k l b fit (take i all) s c t e hc leads ends in
    let g = automaton_of n s k l in
    (moved_to (new_gauge g b c) t e (spilled b (moves_of g (take i all)) c), followed.1 (omega (arith, length-take i all)))
