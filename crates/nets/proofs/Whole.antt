-- The net of a whole model stands for the model: its accepted feasible lassos are the feasible and accepted plans of arcs that are on, with the
-- same prefix and cycle. So the criterion and the decision hold of plans, in the words of document 01. Assumes nothing.
use mathlib.Core.Path.{◌≡◌, refl, sym, ap, subst, ◌∙◌}
use mathlib.Core.Bool.{Bool, true, false, true≢false, not, and-eq-true_iff}
use mathlib.Core.List.{List, [], ◌∷◌, ◌++◌}
use mathlib.Core.Logic.{◌↔◌, inl, inr}
use Prim.Native.Nat.{ℕ, ◌≤◌, ◌<◌}
use native.Mathlib.Omega.{arith}
use lib.Dec.{ltb}
use lib.ListN.{length}
use borrow.Author.Tests.{not-true, lt-ltb}
use Rattle.limits.specs.Ceilings.{colours_most}
use Rattle.walks.specs.Walk.{times}
use Rattle.refusals.proofs.Tests.{is-no}
use Rattle.model.specs.Automaton.{Automaton, arc_at, bit, meets, has_barred}
use Rattle.model.specs.Required.{required}
use Rattle.model.specs.Fitness.{Fit}
use Rattle.model.specs.Plans
use Rattle.model.specs.Plans.{Plan, SomeArc}
use Rattle.model.proofs.Barred.{common-none}
use Rattle.model.proofs.SomeArc.{some_same}
use Rattle.model.proofs.Required.{compressed-bit, required-below, required-at}
use Rattle.switches.specs.Switches.{is_on}
use Rattle.switches.specs.PlansOn.{AllOn, ServesOn, SomePlanOn}
use Rattle.nets.specs.Graph.{Leads}
use Rattle.nets.specs.Net.{Usable, Lasts, Fits, MeetsAll, AcceptedLasso}
use Rattle.nets.specs.Table.{Reached, Peaks, Tours, KeptCycle, PeakCycle, PeakClosed}
use Rattle.nets.specs.Whole.{graph_of, whole, lasso_plan}
use Rattle.nets.proofs.Leads.{leads-weaken}
use Rattle.nets.proofs.Criterion.{reached-lasso, criterion}
use Rattle.nets.proofs.Decides.{decides}
use Rattle.nets.proofs.GraphOf.{possible-graph}

-- a model that is fit gives a net that fits
pub whole-fits : (g : Automaton) (x : ℕ) (on : List ℕ) → Fit g → Fits (whole g x on)
whole-fits g x on f =
    record { starts = f.starts; sources = λ a k. (f.arcs_fit a k.0).source; targets = λ a k. (f.arcs_fit a k.0).target }

module _ (g : Automaton) (x : ℕ) (on : List ℕ) where
  -- an arc that is there and on, which a prefix may use ..
  abbrev Standing : ℕ → Type 0
  Standing a = (a < length g.arcs) × (is_on on a ≡ true)

  pub whole-usable-arc : (a : ℕ) → Usable (whole g x on) a ↔ Standing a
  whole-usable-arc a =
      let both = and-eq-true_iff (ltb a (length g.arcs)) (is_on on a) in
      (λ h. (h.0, (both.0 h.1).1), λ h. (h.0, both.1 (lt-ltb a (length g.arcs) h.0, h.1)))

  -- .. and a cycle where it has no barred colour
  pub whole-lasting-arc : (a : ℕ) → Lasts (whole g x on) a
      ↔ (Standing a × ((j : ℕ) → j < g.colours → bit x j ≡ true → meets g j a ≡ false))
  whole-lasting-arc a =
      let none = common-none x (arc_at g a).colours g.colours in
      let e = whole-usable-arc a in (
        λ h. (e.0 h.0, none.0 (not-true (has_barred g x a) h.1)),
        λ h. (e.1 h.0, ap {B = Bool} not (none.1 h.1)),
      )

  -- arcs that lead and are on are arcs that lead and stand
  leads-standing : (w : List ℕ) (s t : ℕ) → (Plans.Leads g s w t × AllOn on w) ↔ Leads (graph_of g) Standing s w t
  leads-standing [] s t = (λ h. h.0, λ h. (h, tt))
  leads-standing (a ∷ w) s t =
      let ih = leads-standing w (arc_at g a).target t in (
        λ (d, o). ((d.0, o.0), d.1, ih.0 (d.2, o.1)),
        λ h. let (d, o) = ih.1 h.2 in ((h.0.0, h.1, d), (h.0.1, o)),
      )

  -- arcs that lead from s to t in the model, and are on, are usable in the net
  pub whole-usable : (w : List ℕ) (s t : ℕ) → (Plans.Leads g s w t × AllOn on w) ↔ Leads (graph_of g) (Usable (whole g x on)) s w t
  whole-usable w s t =
      let e = leads-standing w s t in (
        λ h. leads-weaken (graph_of g) Standing (Usable (whole g x on)) (λ a. (whole-usable-arc a).1) w s t (e.0 h),
        λ h. e.1 (leads-weaken (graph_of g) (Usable (whole g x on)) Standing (λ a. (whole-usable-arc a).0) w s t h),
      )

  -- no barred colour stands on an arc of the list
  abbrev Clean : List ℕ → Type 0
  Clean w = (j : ℕ) → j < g.colours → bit x j ≡ true → Plans.Meets g j w → ⊥

  lasts-clean : (w : List ℕ) (s t : ℕ) → Leads (graph_of g) (Lasts (whole g x on)) s w t → Clean w
  lasts-clean [] s t d j h q m = elim m [ ]
  lasts-clean (a ∷ w) s t d j h q (inl m) = true≢false (sym m ∙ ((whole-lasting-arc a).0 d.0).1 j h q)
  lasts-clean (a ∷ w) s t d j h q (inr m) = lasts-clean w ((graph_of g).target a) t d.2 j h q m

  clean-lasts : (w : List ℕ) (s t : ℕ) → Leads (graph_of g) Standing s w t → Clean w → Leads (graph_of g) (Lasts (whole g x on)) s w t
  clean-lasts [] s t d c = d
  clean-lasts (a ∷ w) s t d c = (
    (whole-lasting-arc a).1 (d.0, λ j h q. is-no (meets g j a) (λ m. c j h q (inl m))),
    d.1,
    clean-lasts w ((graph_of g).target a) t d.2 (λ j h q m. c j h q (inr m)),
  )

  -- and they last exactly where none has a barred colour
  pub whole-lasts : (w : List ℕ) (s t : ℕ) → (Plans.Leads g s w t × AllOn on w × Clean w) ↔ Leads (graph_of g) (Lasts (whole g x on)) s w t
  whole-lasts w s t =
      let e = leads-standing w s t in (
        λ h. clean-lasts w s t (e.0 (h.0, h.1)) h.2,
        λ h.
            let (d, o) = e.1 (leads-weaken (graph_of g) (Lasts (whole g x on)) Standing (λ a l. ((whole-lasting-arc a).0 l).0) w s t h) in
            (d, o, lasts-clean w s t h),
      )

  module _ (few : g.colours ≤ colours_most) where
    -- a required colour is the duty at its place
    duty-same : (j : ℕ) → j < g.colours → bit x j ≡ false → (a : ℕ) → (whole g x on).meets (required x j) a ≡ meets g j a
    duty-same j h q a = compressed-bit x (arc_at g a).colours colours_most 0 j (omega arith) q

    -- every required colour is met exactly where every duty is
    pub whole_meets : (w : List ℕ) → ((j : ℕ) → j < g.colours → bit x j ≡ false → Plans.Meets g j w) ↔ MeetsAll (whole g x on) w
    whole_meets w = (
      λ f l h.
          let (j, u, q, e) = required-at x g.colours l h in
          subst (λ (i : ℕ). SomeArc ((whole g x on).meets i) w) e
          (some_same (meets g j) ((whole g x on).meets (required x j)) (λ a. sym (duty-same j u q a)) w (f j u q)),
      λ m j h q.
          some_same ((whole g x on).meets (required x j)) (meets g j) (duty-same j h q) w (m (required x j) (required-below x g.colours j h q)),
    )

module _ (g : Automaton) (x : ℕ) (on : List ℕ) (b c : ℕ) (few : g.colours ≤ colours_most) where
  -- the plan with the prefix and the cycle of a lasso is one of the model, of arcs that are on, feasible and accepted
  pub lasso-serves : (p : AcceptedLasso (whole g x on) b c) → ServesOn g x on b c (lasso_plan p)
  lasso-serves p =
      let (leads_in, prefix_on) = (whole-usable g x on p.prefix g.start p.mode).1 p.leads_in in
      let (leads, cycle_on, clean) = (whole-lasts g x on p.cycle p.mode p.mode).1 p.closed.leads in
      record {
        serves =
            record {
              plan = record { mode = p.mode; leads_in = leads_in; leads_cycle = leads; has_arc = p.closed.has_arc };
              feasible = λ r. (possible-graph g b c (p.prefix ++ times r p.cycle)).1 (p.possible r);
              accepted = record { required = (whole_meets g x on few p.cycle).1 p.meets; barred = clean };
            };
        prefix_on = prefix_on;
        cycle_on = cycle_on;
      }

  -- so is the plan whose prefix is a walk to mode s with charge e and whose cycle, from s, keeps e
  pub reached-serves : (s e : ℕ) (r : Reached (whole g x on) (Usable (whole g x on)) 0 b g.start c 0 s e) (k : KeptCycle (whole g x on) b s e)
      → ServesOn g x on b c (record { prefix = r.arcs; cycle = k.arcs })
  unfolding reached-lasso
  reached-serves s e r k = lasso-serves (reached-lasso (whole g x on) b c s e r k)

  -- and a feasible and accepted plan of the model, of arcs that are on, is a lasso with the same prefix and cycle
  pub serves-lasso : (p : Plan) → ServesOn g x on b c p → (l : AcceptedLasso (whole g x on) b c) × (lasso_plan l ≡ p)
  serves-lasso p h =
      let s = h.serves in (
        record {
          prefix = p.prefix;
          cycle = p.cycle;
          mode = s.plan.mode;
          leads_in = (whole-usable g x on p.prefix g.start s.plan.mode).0 (s.plan.leads_in, h.prefix_on);
          closed =
              record {
                has_arc = s.plan.has_arc;
                leads =
                    (whole-lasts g x on p.cycle s.plan.mode s.plan.mode).0 (s.plan.leads_cycle, h.cycle_on, s.accepted.barred);
              };
          possible = λ r. (possible-graph g b c (p.prefix ++ times r p.cycle)).0 (s.feasible r);
          meets = (whole_meets g x on few p.cycle).0 s.accepted.required;
        },
        refl,
      )

  -- some plan of arcs that are on is feasible and accepted exactly where the net has a lasso
  pub whole-lasso : SomePlanOn g x on b c ↔ AcceptedLasso (whole g x on) b c
  whole-lasso = (λ p. (serves-lasso p.0 p.1).0, λ l. (lasso_plan l, lasso-serves l))

module _ (g : Automaton) (x : ℕ) (on : List ℕ) (b c : ℕ) where
  -- some plan is feasible and accepted exactly where a cycle from some peak keeps the peak and meets every duty
  pub plan-criterion : (high : ℕ → ℕ → ℕ) → Fit g → c ≤ b → Peaks (whole g x on) b c high
      → SomePlanOn g x on b c ↔ PeakCycle (whole g x on) b high
  plan-criterion high f hc k =
      let d = criterion (whole g x on) b c high (whole-fits g x on f) hc k in
      let w = whole-lasso g x on b c f.few_colours in
      (λ p. d.0 (w.0 p), λ q. w.1 (d.1 q))

  -- some plan is feasible and accepted exactly where the tour from some peak has a closing arc
  pub plan-decided : (high : ℕ → ℕ → ℕ) (tour : ℕ → ℕ → ℕ → ℕ) → Fit g → c ≤ b → Peaks (whole g x on) b c high
      → Tours (whole g x on) b high tour → SomePlanOn g x on b c ↔ PeakClosed (whole g x on) b high tour
  plan-decided high tour f hc k t =
      let d = decides (whole g x on) b c high tour (whole-fits g x on f) hc k t in
      let w = whole-lasso g x on b c f.few_colours in
      (λ p. d.0 (w.0 p), λ h. w.1 (d.1 h))
