-- What is claimed: how a call comes to its claim, that there is one least level and one answer, and that calls for which the same plans serve have the same.
-- Assumes nothing.
use Rattle.std.specs.Prelude.{Ok, Err}
use mathlib.Core.Path.{◌≡◌, refl, sym, ap, subst, ◌∙◌}
use mathlib.Core.List.{List}
use mathlib.Core.Logic.{◌↔◌, inl, inr, ⊎_elim}
use Prim.Native.Nat.{ℕ, ◌+◌, ◌*◌, ◌≤◌, ◌<◌}
use native.Mathlib.Omega.{arith}
use native.Mathlib.Decide.{dec_lt}
use lib.ListN.{length, replicate}
use Rattle.limits.specs.Ceilings.{bound_most, product_most}
use Rattle.refusals.specs.declared.Answer.{Answer}
use Rattle.refusals.specs.declared.Refusal.{Refusal}
use Rattle.refusals.specs.Refusals.{Verdict, answer, numbered}
use Rattle.refusals.proofs.Verdicts.{clash}
use Rattle.model.specs.Automaton.{bit}
use Rattle.model.specs.Lists.{Lists, automaton_of}
use Rattle.model.specs.Plans.{SomePlan}
use Rattle.switches.specs.Switches.{SameBelow, AllBelow}
use Rattle.switches.proofs.PlansOn.{some-plan-all-on, some-plan-ignored, some-plan-barred}
use Rattle.least.specs.declared.Sought.{Sought}
use Rattle.least.specs.declared.Sought.TheVariants.{Credit, Bound}
use Rattle.least.specs.declared.LeastAnswer.{LeastAnswer}
use Rattle.least.specs.Least.{LeastFound, bound_at, credit_at, Allowed, Least, NoneServes, least_answer, LeastClaim, LeastOf, seekable}
use Rattle.least.specs.Within.{Answered, value, none}
use Rattle.least.proofs.Halving.{least-alike, none_alike}
use Rattle.least.proofs.Levels.{factor-low}
use Rattle.least.proofs.Seekable.{seekable-yes}

-- the number and the value of an answer
abbrev number_in : LeastAnswer → ℕ
number_in a = a.answer.number

abbrev value_in : LeastFound → ℕ
value_in r = (least_answer r).value

module _ {Allow Serves : ℕ → Type 0} where
  -- no level that serves is below the least
  pub least-below : {m y : ℕ} → Least Allow Serves m → Allow y → Serves y → y < m → ⊥
  least-below {m} {y} k a p h = k.smaller y a h p

  -- there is one least level
  pub least-unique : (m m' : ℕ) → Least Allow Serves m → Least Allow Serves m' → m ≡ m'
  least-unique m m' k k' =
      elim (dec_lt m m') [
        | yes u ↦ absurd (least-below k' k.allowed k.serves u)
        | no u ↦
            elim (dec_lt m' m) [
              | yes v ↦ absurd (least-below k k'.allowed k'.serves v)
              | no v ↦ omega arith
            ]
      ]

  -- of the levels that are looked at, just those from the least on serve
  pub least-serves : {m : ℕ} → Least Allow Serves m → (y : ℕ) → Allow y → (Serves y → ⊥) ↔ (y < m)
  least-serves {m} k y a = (
    λ fails.
        elim (dec_lt y m) [
          | yes h ↦ h
          | no h ↦
              elim (dec_lt m y) [
                | yes i ↦ absurd (fails (k.larger y a i))
                | no i ↦ let same : m ≡ y = omega arith in absurd (fails (subst Serves same k.serves))
              ]
        ],
    λ h p. k.smaller y a h p,
  )

  module _ {v : Verdict} {work : List ℕ} where
    -- a refused call
    pub claim-refused : {y : Refusal} → v ≡ Err y → LeastClaim v Allow Serves work work (Err y)
    claim-refused {y} e =
        record {
          refused = λ z h. (cc, refl);
          verdict = λ h. not-both h;
          value = λ h. not-both h;
          no_plan_iff = λ h. not-both h;
          cleared = λ h. not-both h;
          by_refusal = λ z h. ap {B = LeastAnswer} least_answer (let q : ◌≡◌ {A = LeastFound} (Err y) (Err z) = cc in q);
          number = λ h. not-both h;
          ten = λ h. not-both h;
        }
      where
        not-both : {X : Type 0} → v ≡ Ok tt → X
        not-both h = clash (cc)

    -- a call that is answered
    pub claim-answered : {work' : List ℕ} {r : LeastFound} → v ≡ Ok tt → Answered Allow Serves r → work' ≡ replicate (length work) 0
        → LeastClaim v Allow Serves work work' r
    claim-answered e (value {m} k) z =
        record {
          refused = λ y q. clash (cc);
          verdict = λ q. inl (m, refl);
          value = λ q i. (λ h. subst (Least Allow Serves) (ap value_in h) k, λ h. ap {B = LeastFound} (λ (j : ℕ). Ok j) (least-unique m i k h));
          no_plan_iff = λ q. (λ h. clash (cc), λ f. absurd (f m k.allowed k.serves));
          cleared = λ q. z;
          by_refusal = λ y q. clash (cc);
          number = λ q i. (
            λ h. subst (Least Allow Serves) (ap (λ (a : LeastAnswer). a.value) h) k,
            λ h. ap {B = LeastAnswer} (λ (j : ℕ). record { answer = answer 0 0; value = j }) (least-unique m i k h),
          );
          ten = λ q. (λ h. absurd (let n : 0 ≡ 10 = ap number_in h in omega arith), λ f. absurd (f m k.allowed k.serves));
        }
    claim-answered e (none f) z =
        record {
          refused = λ y q. clash (cc);
          verdict = λ q. inr refl;
          value = λ q i. (λ h. clash (cc), λ k. absurd (f i k.allowed k.serves));
          no_plan_iff = λ q. (λ h. f, λ h. refl);
          cleared = λ q. z;
          by_refusal = λ y q. clash (cc);
          number = λ q i. (λ h. absurd (let n : 10 ≡ 0 = ap number_in h in omega arith), λ k. absurd (f i k.allowed k.serves));
          ten = λ q. (λ h. f, λ h. refl);
        }

-- there is one answer: two calls with spaces of the same length, whatever stands in them, answer the same
module _ {v : Verdict} {Allow Serves : ℕ → Type 0} {work work' work₂ work₂' : List ℕ} {r r₂ : LeastFound} where
  pub least-one : LeastClaim v Allow Serves work work' r → LeastClaim v Allow Serves work₂ work₂' r₂ → r ≡ r₂
  least-one h h₂ = go v refl
    where
      go : (u : Verdict) → v ≡ u → r ≡ r₂
      go (Err y) e = (h.refused y e).0 ∙ sym (h₂.refused y e).0
      go (Ok _) e =
          ⊎_elim
          (λ (m, q). q ∙ sym ((h₂.value e m).1 ((h.value e m).0 q)))
          (λ q. q ∙ sym ((h₂.no_plan_iff e).1 ((h.no_plan_iff e).0 q)))
          (h.verdict e)

-- where the same levels serve, the claim is the same
module _ {Allow Serves Serves' : ℕ → Type 0} (same : (y : ℕ) → Serves y ↔ Serves' y) where
  least-same : {m : ℕ} → Least Allow Serves m ↔ Least Allow Serves' m
  least-same = (least-alike (λ y. (λ a. a, λ a. a)) (λ y a. same y), least-alike (λ y. (λ a. a, λ a. a)) (λ y a. ((same y).1, (same y).0)))

  none-same : NoneServes Allow Serves ↔ NoneServes Allow Serves'
  none-same = (none_alike (λ y. (λ a. a, λ a. a)) (λ y a. same y), none_alike (λ y. (λ a. a, λ a. a)) (λ y a. ((same y).1, (same y).0)))

  pub claim-alike : {v : Verdict} {work work' : List ℕ} {r : LeastFound} → LeastClaim v Allow Serves work work' r
      → LeastClaim v Allow Serves' work work' r
  claim-alike h =
      record {
        refused = h.refused;
        verdict = h.verdict;
        value = λ e m. (λ q. least-same.0 ((h.value e m).0 q), λ k. (h.value e m).1 (least-same.1 k));
        no_plan_iff = λ e. (λ q. none-same.0 ((h.no_plan_iff e).0 q), λ f. (h.no_plan_iff e).1 (none-same.1 f));
        cleared = h.cleared;
        by_refusal = h.by_refusal;
        number = λ e m. (λ q. least-same.0 ((h.number e m).0 q), λ k. (h.number e m).1 (least-same.1 k));
        ten = λ e. (λ q. none-same.0 ((h.ten e).0 q), λ f. (h.ten e).1 (none-same.1 f));
      }

module _ (s : Sought) (n start k : ℕ) (l : Lists) (given : ℕ) {work work' : List ℕ} {r : LeastFound} where
  -- document 02, Ask 6: "its bits at or above k are ignored"
  pub least-ignored : (x y : ℕ) (on : List ℕ) → ((j : ℕ) → j < k → bit x j ≡ bit y j) → LeastOf s n start k l x on given work work' r
      → LeastOf s n start k l y on given work work' r
  least-ignored x y on same =
      claim-alike (λ m. some-plan-barred (automaton_of n start k l) on (bound_at s given m) (credit_at s given m) x y same)

  -- document 02, Ask 9: "Bits at or above m are ignored."
  pub least-same-below : (x : ℕ) (on on' : List ℕ) → SameBelow (length (automaton_of n start k l).arcs) on on'
      → LeastOf s n start k l x on given work work' r → LeastOf s n start k l x on' given work work' r
  least-same-below x on on' same =
      claim-alike (λ m. some-plan-ignored (automaton_of n start k l) x on on' same (bound_at s given m) (credit_at s given m))

  -- with every arc on it is about plans of any arcs
  pub least-all-on : (x : ℕ) (on : List ℕ) → AllBelow (length (automaton_of n start k l).arcs) on → LeastOf s n start k l x on given work work' r
      → LeastClaim (seekable s n start k l given (length work)) (λ m. Allowed s n given m)
      (λ m. SomePlan (automaton_of n start k l) x (bound_at s given m) (credit_at s given m)) work work' r
  least-all-on x on all = claim-alike (λ m. some-plan-all-on (automaton_of n start k l) x on all (bound_at s given m) (credit_at s given m))

-- the value is a bound within search's ceilings, or a credit up to one
pub value_low : (s : Sought) (n start k : ℕ) (l : Lists) (x : ℕ) (on : List ℕ) (given : ℕ) {work work' : List ℕ} {r : LeastFound}
    → LeastOf s n start k l x on given work work' r → seekable s n start k l given (length work) ≡ Ok tt → (m : ℕ) → r ≡ Ok m → m ≤ bound_most
value_low s n start k l x on given {work} h e m q =
    let a = (seekable-yes s n start k l given (length work)).0 e in
    go s a.fit.some-mode a.product ((h.value e m).0 q).allowed
  where
    go : (s : Sought) → 0 < n → n * (given + 1) ≤ product_most → Allowed s n given m → m ≤ bound_most
    go Credit some product h = omega (arith, factor-low n given some product)
    go Bound some product h = factor-low n m some h.1

-- an answer by its parts
answer-parts : (a : LeastAnswer) (x : Answer) (m : ℕ) → a.answer ≡ x → a.value ≡ m → a ≡ record { answer = x; value = m }
answer-parts a x m p q =
    ap {B = LeastAnswer} (λ (y : Answer). record { answer = y; value = a.value }) p
    ∙ ap {B = LeastAnswer} (λ (z : ℕ). record { answer = x; value = z }) q

-- the same by document 01's numbers: what the parts of an answer say
module _ {v : Verdict} {Allow Serves : ℕ → Type 0} {work work' : List ℕ} {r : LeastFound} (h : LeastClaim v Allow Serves work work' r) where
  pub least-refused : (y : Refusal) → v ≡ Err y → ((least_answer r).answer ≡ numbered y) × ((least_answer r).value ≡ 0)
  least-refused y e = rw (h.by_refusal y e) (refl, refl)

  pub least_zero : v ≡ Ok tt → (m : ℕ) → (((least_answer r).answer ≡ answer 0 0) × ((least_answer r).value ≡ m)) ↔ Least Allow Serves m
  least_zero e m = (λ (p, q). (h.number e m).0 (answer-parts (least_answer r) (answer 0 0) m p q), λ k. rw ((h.number e m).1 k) (refl, refl))

  pub least-ten : v ≡ Ok tt → (((least_answer r).answer ≡ answer 10 0) × ((least_answer r).value ≡ 0)) ↔ NoneServes Allow Serves
  least-ten e = (λ (p, q). (h.ten e).0 (answer-parts (least_answer r) (answer 10 0) 0 p q), λ f. rw ((h.ten e).1 f) (refl, refl))
