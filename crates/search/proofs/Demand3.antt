-- Demand 3, from what search promises of every call. Document 01: "Demand 3 is one claim over all inputs of this call": the answer is 10
-- exactly when there is no plan, and else a plan, to which judging says yes. Assumes nothing.
use Rattle.std.specs.Prelude.{Ok, Err}
use Rattle.refusals.specs.Refusals.{Verdict}
use mathlib.Core.Path.{◌≡◌, refl, ap}
use mathlib.Core.List.{List}
use mathlib.Core.Logic.{◌↔◌}
use Prim.Native.Nat.{ℕ, ◌+◌}
use native.Mathlib.Omega.{arith}
use lib.ListN.{length, take, length-drop, replicate}
use lib.Seq.{length-take-le}
use Rattle.refusals.specs.declared.Answer.{Answer}
use Rattle.refusals.proofs.Verdicts.{clash}
use Rattle.refusals.proofs.Numbers.{refusal-number}
use Rattle.model.specs.Automaton.{Automaton}
use Rattle.model.specs.Lists.{Lists, automaton_of}
use Rattle.model.specs.Plans.{Plan, IsPlan, Feasible, Accepted}
use Rattle.switches.specs.PlansOn.{AllOn, SomePlanOn}
use Rattle.judge.specs.Shape.{plan_of, Lengths}
use Rattle.judge.specs.Judged.{judged}
use Rattle.judge.proofs.Judged.{judged-yes}
use Rattle.search.specs.declared.SearchAnswer.{SearchAnswer}
use Rattle.search.specs.Search.{Searched, planned, no_plan, search_answer, searchable, Found, Answered, none, found, Decided, SearchByNumber, Search, SearchOf}
use Rattle.search.proofs.Written.{answered-plan}
use Rattle.search.proofs.Searchable.{searchable-yes}

-- a plan that is handed back has its lengths
found-lengths : {g : Automaton} {x : ℕ} {on : List ℕ} {b c p q : ℕ} {plan plan' : List ℕ} → Found g x on b c p q plan plan' → Lengths p q (take (p + q) plan')
found-lengths {p = p} {q} {plan' = plan'} f =
    let w = take (p + q) plan' in
    let long = length-take-le (p + q) plan' f.within in
    record {
      has_arc = omega (arith, f.serves.serves.plan.has_arc, length-drop p w, long);
      parts = omega (arith, long);
      short = omega (arith, long, f.short);
    }

-- the plan of an answer with one
pub answered-found : {g : Automaton} {x : ℕ} {on : List ℕ} {b c p q : ℕ} {plan plan' : List ℕ} → Answered g x on b c plan plan' (planned p q) → Found g x on b c p q plan plan'
answered-found (found f) = f

-- an answer without a plan leaves the plan buffer as it was
answered-kept : {g : Automaton} {x : ℕ} {on : List ℕ} {b c : ℕ} {plan plan' : List ℕ} {r : Searched} → Answered g x on b c plan plan' r
    → ((search_answer r).answer.number ≡ 0 → ⊥) → plan' ≡ plan
answered-kept (none e) refused = e
answered-kept (found f) refused = absurd (refused refl)

-- the working space after a call, by what 1 to 9 say: "After 10 or a plan, the whole lent working space is zero", else it is as it was
abbrev pub WorkLeft : Verdict → List ℕ → List ℕ → Type 0
WorkLeft (Ok _) work work' = work' ≡ replicate (length work) 0
WorkLeft (Err y) work work' = work' ≡ work

module _ {g : Automaton} {x : ℕ} {on : List ℕ} {b c : ℕ} {work plan work' plan' : List ℕ} {r : Searched} where
  -- what is left in the buffers: a refusal, 10 among them, leaves the plan buffer as it was ..
  pub search-plan-kept : (v : Verdict) → Search v g x on b c work plan work' plan' r → ((search_answer r).answer.number ≡ 0 → ⊥) → plan' ≡ plan
  search-plan-kept (Ok _) h refused = answered-kept (h.decided refl).answered refused
  search-plan-kept (Err y) h refused = (h.refused y refl).2

  -- .. and the working space is zero, or as it was
  pub search-work : (v : Verdict) → Search v g x on b c work plan work' plan' r → WorkLeft v work work'
  search-work (Ok _) h = (h.decided refl).cleared
  search-work (Err y) h = (h.refused y refl).1

-- judging says yes to a plan that is found where none of 1 to 9 applies
found-judged : (n s k : ℕ) (l : Lists) (x : ℕ) (on : List ℕ) (b c words bytes : ℕ) {p q : ℕ} {plan plan' : List ℕ} → searchable n s k l b c words bytes ≡ Ok tt
    → Found (automaton_of n s k l) x on b c p q plan plan' → judged n s k l x b c p q (take (p + q) plan') ≡ Ok tt
found-judged n s k l x on b c words bytes {p} {q} {plan' = plan'} through f =
    let able = (searchable-yes n s k l b c words bytes).0 through in
    (judged-yes n s k l x b c p q (take (p + q) plan')).1 (record {
      equal = able.equal;
      fit = able.fit;
      bound = able.low;
      credit = able.credit;
      lengths = found-lengths f;
      serves = f.serves.serves;
    })

module _ (n s k : ℕ) (l : Lists) (x : ℕ) (on : List ℕ) (b c : ℕ) {work plan work' plan' : List ℕ} where
  -- where a plan is answered, none of 1 to 9 applies
  pub plan-searchable : {p q : ℕ} → SearchOf n s k l x on b c work plan work' plan' (planned p q)
      → searchable n s k l b c (length work) (length plan) ≡ Ok tt
  plan-searchable {p} {q} h = go (searchable n s k l b c (length work) (length plan)) refl
    where
      go : (v : Verdict) → searchable n s k l b c (length work) (length plan) ≡ v → searchable n s k l b c (length work) (length plan) ≡ Ok tt
      go (Ok _) e = e
      go (Err y) e = let stopped = (h.refused y e).0 in clash (cc)

  -- judging says yes to the plan that is handed back ..
  pub search-judged : {p q : ℕ} → SearchOf n s k l x on b c work plan work' plan' (planned p q) → judged n s k l x b c p q (take (p + q) plan') ≡ Ok tt
  search-judged h = let through = plan-searchable h in found-judged n s k l x on b c (length work) (length plan) through (answered-found (h.decided through).answered)

  -- .. and by the numbers that are answered: where the number is 0, to the plan with this p and q
  pub search-zero : {r : Searched} → SearchOf n s k l x on b c work plan work' plan' r → (search_answer r).answer.number ≡ 0
      → judged n s k l x b c (search_answer r).p (search_answer r).q (take ((search_answer r).p + (search_answer r).q) plan') ≡ Ok tt
  search-zero {r} h zero = go (searchable n s k l b c (length work) (length plan)) refl
    where
      go : (v : Verdict) → searchable n s k l b c (length work) (length plan) ≡ v
          → judged n s k l x b c (search_answer r).p (search_answer r).q (take ((search_answer r).p + (search_answer r).q) plan') ≡ Ok tt
      go (Ok _) e = found-judged n s k l x on b c (length work) (length plan) e (h.by_number.otherwise e (λ ten. absurd (omega (arith, zero, ten)))).1
      go (Err y) e =
          let number = ap {B = ℕ} (λ (a : Answer). a.number) (h.by_number.refused y e).0 in
          absurd (omega (arith, zero, number, refusal-number y))

  module _ {r : Searched} (h : SearchOf n s k l x on b c work plan work' plan' r)
      (through : searchable n s k l b c (length work) (length plan) ≡ Ok tt) where
    -- where none of 1 to 9 applies, the answer is 10 exactly where no plan of any length is feasible and accepted
    pub search-none : (r ≡ no_plan) ↔ (SomePlanOn (automaton_of n s k l) x on b c → ⊥)
    search-none = (h.decided through).no_plan_iff

    -- in the paper's number
    pub search-ten : ((search_answer r).answer.number ≡ 10) ↔ (SomePlanOn (automaton_of n s k l) x on b c → ⊥)
    search-ten = h.by_number.ten through

    -- and where there is a plan, one is found
    pub search-complete : SomePlanOn (automaton_of n s k l) x on b c
        → (p : ℕ) × (q : ℕ) × (r ≡ planned p q) × Found (automaton_of n s k l) x on b c p q plan plan'
    search-complete some = answered-plan (h.decided through).answered (λ e. search-none.0 e some)

-- that no plan of arcs that are on serves, by its parts
no-plan-on : (g : Automaton) (x : ℕ) (on : List ℕ) (b c : ℕ) → (SomePlanOn g x on b c → ⊥)
    ↔ ((p : Plan) → IsPlan g p → Feasible g b c p → Accepted g x p → AllOn on p.prefix → AllOn on p.cycle → ⊥)
no-plan-on g x on b c = (
  λ none p plan feasible accepted prefix cycle.
      none (p, record { serves = record { plan = plan; feasible = feasible; accepted = accepted }; prefix_on = prefix; cycle_on = cycle }),
  λ none (p, h).
      none p h.serves.plan h.serves.feasible h.serves.accepted h.prefix_on h.cycle_on,
)

-- What Decided says by itself, and what the numbers say by themselves, where none of 1 to 9 applies; this pins both.
module _ {g : Automaton} {x : ℕ} {on : List ℕ} {b c : ℕ} {plan plan' : List ℕ} where
  -- the answer "is 10 exactly when no plan of any length is feasible and accepted", with x barred, of arcs that are on
  pub decided-none : {work work' : List ℕ} {r : Searched} → Decided g x on b c work plan work' plan' r
      → (r ≡ no_plan) ↔ ((p : Plan) → IsPlan g p → Feasible g b c p → Accepted g x p → AllOn on p.prefix → AllOn on p.cycle → ⊥)
  decided-none d =
      let none = no-plan-on g x on b c in
      (λ e. none.0 (d.no_plan_iff.0 e), λ no. d.no_plan_iff.1 (none.1 no))

  module _ {a : SearchAnswer} (h : SearchByNumber (Ok tt) g x on b c plan plan' a) where
    pub number-ten : (a.answer.number ≡ 10) ↔ ((p : Plan) → IsPlan g p → Feasible g b c p → Accepted g x p → AllOn on p.prefix → AllOn on p.cycle → ⊥)
    number-ten =
        let none = no-plan-on g x on b c in
        (λ e. none.0 ((h.ten refl).0 e), λ no. (h.ten refl).1 (none.1 no))

    -- otherwise the bytes of the plan buffer "are with this p and q a feasible and accepted plan"
    pub number-plan : (a.answer.number ≡ 10 → ⊥) → let p = plan_of a.p (take (a.p + a.q) plan') in
        IsPlan g p × Feasible g b c p × Accepted g x p × AllOn on p.prefix × AllOn on p.cycle
    number-plan other =
        let s = (h.otherwise refl other).1.serves in
        (s.serves.plan, s.serves.feasible, s.serves.accepted, s.prefix_on, s.cycle_on)
