-- Plans of arcs that are on: place by place, with all arcs on, with other switches. Assumes nothing.
use mathlib.Core.Path.{◌≡◌, sym, ◌∙◌}
use mathlib.Core.Bool.{true}
use mathlib.Core.List.{List, [], ◌∷◌, ◌++◌}
use mathlib.Core.Logic.{◌↔◌}
use Prim.Native.Nat.{ℕ, zero, suc, ◌≤◌, ◌<◌}
use native.Mathlib.Omega.{arith}
use native.Mathlib.Decide.{ℕ_discrete}
use lib.ListN.{length, get_or}
use Rattle.walks.specs.Walk.{times}
use Rattle.model.specs.Automaton.{Automaton, arc_at, bit}
use Rattle.model.specs.Plans.{Plan, Leads, Serves, SomePlan}
use Rattle.model.proofs.Plans.{serves-ignored, serves-wider}
use Rattle.switches.specs.Switches.{is_on, switched, SameBelow, AllBelow}
use Rattle.switches.specs.PlansOn.{AllOn, ServesOn, SomePlanOn}
use Rattle.switches.proofs.Switched.{switched-already, switched_other}

-- two lists joined
pub all-on-append : (on u v : List ℕ) → AllOn on (u ++ v) ↔ (AllOn on u × AllOn on v)
all-on-append on [] v = (λ h. (tt, h), λ (z, h). h)
all-on-append on (a ∷ u) v =
    let ih = all-on-append on u v in (
      λ (q, h). let (s, t) = ih.0 h in ((q, s), t),
      λ ((q, s), t). (q, ih.1 (s, t)),
    )

-- a list repeated
all-on-times : (on w : List ℕ) → AllOn on w → (r : ℕ) → AllOn on (times r w)
all-on-times on w h zero = tt
all-on-times on w h (suc r) = (all-on-append on w (times r w)).1 (h, all-on-times on w h r)

-- every place has an arc that is on
pub all-on-at : (on w : List ℕ) → AllOn on w ↔ ((i : ℕ) → i < length w → is_on on (get_or w i 0) ≡ true)
all-on-at on [] = (λ h i q. absurd (omega arith), λ f. tt)
all-on-at on (a ∷ w) =
    let ih = all-on-at on w in (
      λ (q, h). at q (ih.0 h),
      λ f. (f 0 (omega arith), ih.1 (λ i q. f (suc i) (omega arith))),
    )
  where
    at : is_on on a ≡ true → ((i : ℕ) → i < length w → is_on on (get_or w i 0) ≡ true)
        → (i : ℕ) → i < length (a ∷ w) → is_on on (get_or (a ∷ w) i 0) ≡ true
    at q f zero p = q
    at q f (suc i) p = f i (omega arith)

-- each arc of the model that is on in the one is on in the other
abbrev pub MoreOn : Automaton → List ℕ → List ℕ → Type 0
MoreOn g on on' = (a : ℕ) → a < length g.arcs → is_on on a ≡ true → is_on on' a ≡ true

module _ (g : Automaton) where
  -- arcs that lead somewhere are arcs of the model
  leads_on : (on : List ℕ) → AllBelow (length g.arcs) on → (w : List ℕ) (s t : ℕ) → Leads g s w t → AllOn on w
  leads_on on all [] s t h = tt
  leads_on on all (a ∷ w) s t (below, q, h) = (all a below, leads_on on all w (arc_at g a).target t h)

  pub leads-more : (on on' : List ℕ) → MoreOn g on on' → (w : List ℕ) (s t : ℕ) → Leads g s w t → AllOn on w → AllOn on' w
  leads-more on on' more [] s t h z = tt
  leads-more on on' more (a ∷ w) s t (below, q, h) (o, z) = (more a below o, leads-more on on' more w (arc_at g a).target t h z)

  module _ (x : ℕ) where
    -- however often the cycle is repeated, every arc of the walk is on; and no plan with this is left out
    pub serves-on-walk : (on : List ℕ) (b c : ℕ) (p : Plan)
        → ServesOn g x on b c p ↔ (Serves g x b c p × ((r : ℕ) → AllOn on (p.prefix ++ times r p.cycle)))
    serves-on-walk on b c p = (
      λ h. (h.serves, λ r. (all-on-append on p.prefix (times r p.cycle)).1 (h.prefix_on, all-on-times on p.cycle h.cycle_on r)),
      λ (h, f).
          let (u, v) = (all-on-append on p.prefix (times 1 p.cycle)).0 (f 1) in
          record { serves = h; prefix_on = u; cycle_on = ((all-on-append on p.cycle []).0 v).0 },
    )

    -- with every arc on, each plan is one of arcs that are on ..
    pub plan-all-on : (on : List ℕ) → AllBelow (length g.arcs) on → (b c : ℕ) (p : Plan) → Serves g x b c p → ServesOn g x on b c p
    plan-all-on on all b c p h = record {
      serves = h;
      prefix_on = leads_on on all p.prefix g.start h.plan.mode h.plan.leads_in;
      cycle_on = leads_on on all p.cycle h.plan.mode h.plan.mode h.plan.leads_cycle;
    }

    -- .. so that there is one exactly where there was one without switches
    pub some-plan-all-on : (on : List ℕ) → AllBelow (length g.arcs) on → (b c : ℕ) → SomePlanOn g x on b c ↔ SomePlan g x b c
    some-plan-all-on on all b c = (λ (p, h). (p, h.serves), λ (p, h). (p, plan-all-on on all b c p h))

    -- a plan stays one with more charge and under a larger bound
    pub some-plan-wider : (on : List ℕ) (b b' c c' : ℕ) → b ≤ b' → c ≤ c' → SomePlanOn g x on b c → SomePlanOn g x on b' c'
    some-plan-wider on b b' c c' w h (p, s) =
        (p, record { serves = serves-wider g x b b' c c' p w h s.serves; prefix_on = s.prefix_on; cycle_on = s.cycle_on })

    -- with more arcs on a plan stays one
    pub serves-on-more : (on on' : List ℕ) → MoreOn g on on' → (b c : ℕ) (p : Plan) → ServesOn g x on b c p → ServesOn g x on' b c p
    serves-on-more on on' more b c p h =
        let plan = h.serves.plan in
        record {
          serves = h.serves;
          prefix_on = leads-more on on' more p.prefix g.start plan.mode plan.leads_in h.prefix_on;
          cycle_on = leads-more on on' more p.cycle plan.mode plan.mode plan.leads_cycle h.cycle_on;
        }

    pub some-plan-more : (on on' : List ℕ) → MoreOn g on on' → (b c : ℕ) → SomePlanOn g x on b c → SomePlanOn g x on' b c
    some-plan-more on on' more b c (p, h) = (p, serves-on-more on on' more b c p h)

    -- so switching an arc on loses no plan
    pub some-plan-switched : (on : List ℕ) (a b c : ℕ) → SomePlanOn g x on b c → SomePlanOn g x (switched true on a) b c
    some-plan-switched on a b c = some-plan-more on (switched true on a) more b c
      where
        more : MoreOn g on (switched true on a)
        more a' h q =
            elim (ℕ_discrete a' a) [
              | yes e ↦ let here : is_on on a ≡ true = rw e at q in rw (switched-already true on a here) q
              | no e ↦ switched_other true on a a' e ∙ q
            ]

    -- "Bits at or above m are ignored."
    module _ (on on' : List ℕ) (same : SameBelow (length g.arcs) on on') (b c : ℕ) where
      pub serves-on-ignored : (p : Plan) → ServesOn g x on b c p ↔ ServesOn g x on' b c p
      serves-on-ignored p = (
        serves-on-more on on' (λ a h q. sym (same a h) ∙ q) b c p,
        serves-on-more on' on (λ a h q. same a h ∙ q) b c p,
      )

      pub some-plan-ignored : SomePlanOn g x on b c ↔ SomePlanOn g x on' b c
      some-plan-ignored = (λ (p, h). (p, (serves-on-ignored p).0 h), λ (p, h). (p, (serves-on-ignored p).1 h))

-- document 02, Ask 6: "its bits at or above k are ignored": bytes of barred colours with the same bits below k
module _ (g : Automaton) (on : List ℕ) (b c : ℕ) where
  serves-on-as : (x y : ℕ) → ((j : ℕ) → j < g.colours → bit x j ≡ bit y j) → (p : Plan) → ServesOn g x on b c p → ServesOn g y on b c p
  serves-on-as x y same p h =
      record { serves = serves-ignored g x y same b c p h.serves; prefix_on = h.prefix_on; cycle_on = h.cycle_on }

  module _ (x y : ℕ) (same : (j : ℕ) → j < g.colours → bit x j ≡ bit y j) where
    pub serves-on-barred : (p : Plan) → ServesOn g x on b c p ↔ ServesOn g y on b c p
    serves-on-barred p = (serves-on-as x y same p, serves-on-as y x (λ j h. sym (same j h)) p)

    pub some-plan-barred : SomePlanOn g x on b c ↔ SomePlanOn g y on b c
    some-plan-barred = (λ (p, h). (p, (serves-on-barred p).0 h), λ (p, h). (p, (serves-on-barred p).1 h))
