-- What the decision claims: how a call comes to its claim, that the claim has one answer, and that calls for which the same plans serve have the same.
-- Assumes nothing.
use Rattle.std.specs.Prelude.{Ok, Err}
use mathlib.Core.Path.{◌≡◌, refl, sym, ap, ◌∙◌}
use mathlib.Core.Bool.{Bool, true, false}
use mathlib.Core.List.{List}
use mathlib.Core.Logic.{◌↔◌, inl, inr, ⊎_elim}
use Prim.Native.Nat.{ℕ, ◌<◌}
use native.Mathlib.Omega.{arith}
use lib.ListN.{length, replicate}
use Rattle.refusals.specs.declared.Refusal.{Refusal}
use Rattle.refusals.specs.declared.Answer.{Answer}
use Rattle.refusals.specs.Refusals.{Verdict, answer_of}
use Rattle.refusals.proofs.Verdicts.{clash}
use Rattle.model.specs.Automaton.{Automaton, bit}
use Rattle.model.specs.Lists.{Lists, automaton_of}
use Rattle.model.specs.Plans.{Plan, IsPlan, Feasible, Accepted, SomePlan}
use Rattle.switches.specs.Switches.{SameBelow, AllBelow}
use Rattle.switches.specs.PlansOn.{AllOn, SomePlanOn}
use Rattle.switches.proofs.PlansOn.{some-plan-all-on, some-plan-ignored, some-plan-barred}
use Rattle.decide.specs.Decide.{decidable, answer_if, Decision, DecideOf}

module _ {v : Verdict} {g : Automaton} {x : ℕ} {on : List ℕ} {b c : ℕ} {work : List ℕ} where
  -- a refused call
  pub decision-refused : {y : Refusal} → v ≡ Err y → Decision v g x on b c work work (Err y)
  decision-refused {y} e =
      record {
        refused = λ z h. (sym e ∙ h, refl);
        verdict = λ h. not-both h;
        yes = λ h. not-both h;
        no_plan_iff = λ h. not-both h;
        cleared = λ h. not-both h;
        by_refusal = λ z h. ap {B = Answer} answer_of (sym e ∙ h);
        zero = λ h. not-both h;
        ten = λ h. not-both h;
      }
    where
      not-both : {X : Type 0} → v ≡ Ok tt → X
      not-both h = clash (cc)

  -- a call that is decided
  decision-decided : {work' : List ℕ} (some : Bool) → v ≡ Ok tt → (some ≡ true) ↔ SomePlanOn g x on b c → work' ≡ replicate (length work) 0
      → Decision v g x on b c work work' (answer_if some)
  decision-decided true e h z =
      let plan = h.0 refl in
      record {
        refused = λ y q. clash (cc);
        verdict = λ q. inl refl;
        yes = λ q. (λ r. plan, λ p. refl);
        no_plan_iff = λ q. (λ r. clash (cc), λ no. absurd (no plan));
        cleared = λ q. z;
        by_refusal = λ y q. clash (cc);
        zero = λ q. (λ r. plan, λ p. refl);
        ten = λ q. (λ r. absurd (let i : 0 ≡ 10 = ap {B = ℕ} (λ (a : Answer). a.number) r in omega arith), λ no. absurd (no plan));
      }
  decision-decided false e h z =
      let none : SomePlanOn g x on b c → ⊥ = λ p. clash (let q = h.1 p in cc) in
      record {
        refused = λ y q. clash (cc);
        verdict = λ q. inr refl;
        yes = λ q. (λ r. clash (cc), λ p. absurd (none p));
        no_plan_iff = λ q. (λ r. none, λ no. refl);
        cleared = λ q. z;
        by_refusal = λ y q. clash (cc);
        zero = λ q. (λ r. absurd (let i : 10 ≡ 0 = ap {B = ℕ} (λ (a : Answer). a.number) r in omega arith), λ p. absurd (none p));
        ten = λ q. (λ r. none, λ no. refl);
      }

  -- as the code answers it
  pub decision-answered : {work' : List ℕ} {r : Verdict} (some : Bool) → r ≡ answer_if some → v ≡ Ok tt → (some ≡ true) ↔ SomePlanOn g x on b c
      → work' ≡ replicate (length work) 0 → Decision v g x on b c work work' r
  decision-answered some q e h z = rw q (decision-decided some e h z)

-- the decision in the words of plans: yes exactly where some plan is one of the model, feasible, accepted and of arcs that are on
pub decide-plans : (n s k : ℕ) (l : Lists) (x : ℕ) (on : List ℕ) (b c : ℕ) {work work' : List ℕ} {r : Verdict}
    → DecideOf n s k l x on b c work work' r → decidable n s k l b c (length work) ≡ Ok tt → let g = automaton_of n s k l in
    ((answer_of r).number ≡ 0)
    ↔ ((p : Plan) × IsPlan g p × Feasible g b c p × Accepted g x p × AllOn on p.prefix × AllOn on p.cycle)
decide-plans n s k l x on b c {r = r} h e =
    ⊎_elim
    (λ yes. (λ q. plans ((h.yes e).0 yes), λ p. ap {B = ℕ} (λ (v : Verdict). (answer_of v).number) yes))
    (λ no. (
      λ q. absurd (let i : 10 ≡ 0 = sym (ap {B = ℕ} (λ (v : Verdict). (answer_of v).number) no) ∙ q in omega arith),
      λ p. absurd ((h.no_plan_iff e).0 no (some p)),
    ))
    (h.verdict e)
  where
    g : Automaton
    g = automaton_of n s k l

    Planned : Type 0
    Planned = (p : Plan) × IsPlan g p × Feasible g b c p × Accepted g x p × AllOn on p.prefix × AllOn on p.cycle

    plans : SomePlanOn g x on b c → Planned
    plans (p, t) = (p, t.serves.plan, t.serves.feasible, t.serves.accepted, t.prefix_on, t.cycle_on)

    some : Planned → SomePlanOn g x on b c
    some (p, plan, feasible, accepted, prefix_on, cycle_on) =
        (p, record { serves = record { plan = plan; feasible = feasible; accepted = accepted }; prefix_on = prefix_on; cycle_on = cycle_on })

-- there is one answer: two calls with spaces of the same length, whatever stands in them, answer the same, and where they are not refused leave the same
module _ {v : Verdict} {g : Automaton} {x : ℕ} {on : List ℕ} {b c : ℕ} {work work' work₂ work₂' : List ℕ} {r r₂ : Verdict} where
  pub decide-one : Decision v g x on b c work work' r → Decision v g x on b c work₂ work₂' r₂ → r ≡ r₂
  decide-one h h₂ = go v refl
    where
      go : (u : Verdict) → v ≡ u → r ≡ r₂
      go (Err y) e = (h.refused y e).0 ∙ sym (h₂.refused y e).0
      go (Ok _) e =
          ⊎_elim
          (λ yes. yes ∙ sym ((h₂.yes e).1 ((h.yes e).0 yes)))
          (λ no. no ∙ sym ((h₂.no_plan_iff e).1 ((h.no_plan_iff e).0 no)))
          (h.verdict e)

-- where the same plans serve, the claim is the same
pub decide-alike : {v : Verdict} {g : Automaton} {b c : ℕ} {work work' : List ℕ} {r : Verdict} (x x' : ℕ) (on on' : List ℕ)
    → SomePlanOn g x on b c ↔ SomePlanOn g x' on' b c → Decision v g x on b c work work' r → Decision v g x' on' b c work work' r
decide-alike x x' on on' same h =
    record {
      refused = h.refused;
      verdict = h.verdict;
      yes = λ e. (λ q. same.0 ((h.yes e).0 q), λ p. (h.yes e).1 (same.1 p));
      no_plan_iff = λ e. (λ q p. (h.no_plan_iff e).0 q (same.1 p), λ no. (h.no_plan_iff e).1 (λ p. no (same.0 p)));
      cleared = h.cleared;
      by_refusal = h.by_refusal;
      zero = λ e. (λ q. same.0 ((h.zero e).0 q), λ p. (h.zero e).1 (same.1 p));
      ten = λ e. (λ q p. (h.ten e).0 q (same.1 p), λ no. (h.ten e).1 (λ p. no (same.0 p)));
    }

module _ (n s k : ℕ) (l : Lists) (b c : ℕ) {work work' : List ℕ} {r : Verdict} where
  -- document 02, Ask 6: "its bits at or above k are ignored"
  pub decide-ignored : (x y : ℕ) (on : List ℕ) → ((j : ℕ) → j < k → bit x j ≡ bit y j) → DecideOf n s k l x on b c work work' r
      → DecideOf n s k l y on b c work work' r
  decide-ignored x y on same = decide-alike x y on on (some-plan-barred (automaton_of n s k l) on b c x y same)

  -- document 02, Ask 9: "Bits at or above m are ignored."
  pub decide-same-below : (x : ℕ) (on on' : List ℕ) → SameBelow (length (automaton_of n s k l).arcs) on on' → DecideOf n s k l x on b c work work' r
      → DecideOf n s k l x on' b c work work' r
  decide-same-below x on on' same = decide-alike x x on on' (some-plan-ignored (automaton_of n s k l) x on on' same b c)

  -- with every arc on it is about plans of any arcs
  pub decide-all-on : (x : ℕ) (on : List ℕ) → AllBelow (length (automaton_of n s k l).arcs) on → DecideOf n s k l x on b c work work' r
      → decidable n s k l b c (length work) ≡ Ok tt → (r ≡ Ok tt) ↔ SomePlan (automaton_of n s k l) x b c
  decide-all-on x on all h e =
      let same = some-plan-all-on (automaton_of n s k l) x on all b c in
      (λ q. same.0 ((h.yes e).0 q), λ p. (h.yes e).1 (same.1 p))
