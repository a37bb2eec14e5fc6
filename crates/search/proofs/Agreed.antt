-- Document 02, Ask 7, from what search promises of every call: any two answers to a call agree, and plans carry the given arc numbers. Assumes
-- nothing.
use Rattle.std.specs.Prelude.{Ok, Err}
use Rattle.refusals.specs.Refusals.{Verdict}
use mathlib.Core.Logic.{◌↔◌, ◌⊎◌, inl, inr}
use mathlib.Core.Path.{◌≡◌, refl, sym, ap, subst₂, ◌∙◌}
use mathlib.Core.List.{List}
use Prim.Native.Nat.{ℕ, zero, suc, ◌+◌, ◌<◌}
use native.Mathlib.Omega.{arith}
use native.Mathlib.Decide.{ℕ_discrete}
use lib.ListN.{length, get_or, take}
use Rattle.refusals.specs.declared.Answer.{Answer}
use Rattle.refusals.specs.declared.Refusal.{Refusal}
use Rattle.refusals.proofs.Verdicts.{clash}
use Rattle.model.specs.Automaton.{Automaton, arc_at}
use Rattle.model.specs.declared.Arc.{Arc}
use Rattle.model.specs.Lists.{Lists, arc_of, automaton_of}
use Rattle.model.specs.Plans.{Leads}
use Rattle.model.proofs.Arcs.{arcs-length, arcs-here}
use Rattle.model.proofs.Leads.{leads-cut}
use Rattle.model.proofs.Places.{mode_at, Joins, leads-places}
use Rattle.search.specs.declared.SearchAnswer.{SearchAnswer}
use Rattle.search.specs.Search.{Searched, planned, no_plan, IsFound, search_answer, searchable, Answered, none, found, SearchByNumber, SearchOf}
use Rattle.search.specs.Agreed.{Agreed, refusals, tens, plans, GivenNumbers}
use Rattle.search.proofs.Demand3.{answered-found, plan-searchable, search-none}

-- the given numbers are those of arcs that lead on from s in the model of the lists, and the other way round
pub given-leads : (n s k : ℕ) (l : Lists) (w : List ℕ) → GivenNumbers l s w ↔ ((t : ℕ) × Leads (automaton_of n s k l) s w t)
given-leads n s k l w = (λ given. (last, (leads-places g w s last).1 (joins given, refl)), λ (t, h). given ((leads-places g w s t).0 h).0)
  where
    g : Automaton
    g = automaton_of n s k l

    last : ℕ
    last = mode_at g s w (length w)

    arc : (i : ℕ) → get_or w i 0 < length l.sources → arc_at g (get_or w i 0) ≡ arc_of l (get_or w i 0)
    arc i known = arcs-here l (length l.sources) (get_or w i 0) known

    source : (i : ℕ) → get_or w i 0 < length l.sources → (arc_at g (get_or w i 0)).source ≡ get_or l.sources (get_or w i 0) 0
    source i known = ap {B = ℕ} (λ (x : Arc). x.source) (arc i known)

    target : (i : ℕ) → get_or w i 0 < length l.sources → (arc_at g (get_or w i 0)).target ≡ get_or l.targets (get_or w i 0) 0
    target i known = ap {B = ℕ} (λ (x : Arc). x.target) (arc i known)

    joins : GivenNumbers l s w → (i : ℕ) → i < length w → Joins g s w i
    joins given i low = (omega (arith, given.known i low, arcs-length l (length l.sources) 0), leaves i low)
      where
        leaves : (i : ℕ) → i < length w → (arc_at g (get_or w i 0)).source ≡ mode_at g s w i
        leaves zero low = source 0 (given.known 0 low) ∙ given.first low
        leaves (suc i) low =
            source (suc i) (given.known (suc i) low) ∙ given.chain i low ∙ sym (target i (given.known i (omega arith)))

    given : ((i : ℕ) → i < length w → Joins g s w i) → GivenNumbers l s w
    given f =
        record {
          known = known;
          first = λ some. sym (source 0 (known 0 some)) ∙ (f 0 some).1;
          chain = λ i low. sym (source (suc i) (known (suc i) low)) ∙ (f (suc i) low).1 ∙ target i (known i (omega arith));
        }
      where
        known : (i : ℕ) → i < length w → get_or w i 0 < length l.sources
        known i low = omega (arith, (f i low).0, arcs-length l (length l.sources) 0)

-- two answers where none of 1 to 9 applies: both 10 or both a plan, where each is 10 just where the other is
answered-agree : {v : Verdict} {g g' : Automaton} {x b c x' b' c' : ℕ} {on on' : List ℕ} {plan plan' plan₂ plan₂' : List ℕ} {r r₂ : Searched} → v ≡ Ok tt
    → Answered g x on b c plan plan' r → Answered g' x' on' b' c' plan₂ plan₂' r₂ → (r ≡ no_plan → r₂ ≡ no_plan) → (r₂ ≡ no_plan → r ≡ no_plan) → Agreed v r r₂
answered-agree e (none h) (none k) to from = tens e
answered-agree e (found f) (found g) to from = plans e
answered-agree e (none h) (found g) to from = let off = to refl in clash (cc)
answered-agree e (found f) (none k) to from = let off = from refl in clash (cc)

module _ (n s k : ℕ) (l : Lists) (x : ℕ) (on : List ℕ) (b c : ℕ) {work plan work' plan' : List ℕ} where
  -- "Every answer and detail equals that of the ungrouped model": whatever stands in the buffers, two answers to a call agree
  pub search-agrees : {work₂ plan₂ work₂' plan₂' : List ℕ} {r r₂ : Searched} → length work₂ ≡ length work → length plan₂ ≡ length plan
      → SearchOf n s k l x on b c work plan work' plan' r → SearchOf n s k l x on b c work₂ plan₂ work₂' plan₂' r₂
      → Agreed (searchable n s k l b c (length work) (length plan)) r r₂
  search-agrees {work₂} {plan₂} {r = r} {r₂ = r₂} ew ep h h₂ = go (searchable n s k l b c (length work) (length plan)) refl
    where
      same : searchable n s k l b c (length work₂) (length plan₂) ≡ searchable n s k l b c (length work) (length plan)
      same = rw (ew, ep) refl

      go : (v : Verdict) → searchable n s k l b c (length work) (length plan) ≡ v → Agreed (searchable n s k l b c (length work) (length plan)) r r₂
      go (Ok _) e =
          let one = search-none n s k l x on b c h e in
          let two = search-none n s k l x on b c h₂ (same ∙ e) in
          answered-agree e (h.decided e).answered (h₂.decided (same ∙ e)).answered (λ q. two.1 (one.0 q)) (λ q. one.1 (two.0 q))
      go (Err y) e =
          subst₂ (λ (r z : Searched). Agreed (searchable n s k l b c (length work) (length plan)) r z) (sym (h.refused y e).0)
          (sym (h₂.refused y (same ∙ e)).0) (refusals e)

  -- "Plans still carry the given arc numbers": the bytes of a plan are numbers of the arcs in the lists as they are given
  pub search-numbers : {p q : ℕ} → SearchOf n s k l x on b c work plan work' plan' (planned p q) → GivenNumbers l s (take (p + q) plan')
  search-numbers {p} {q} h =
      let f = answered-found (h.decided (plan-searchable n s k l x on b c h)).answered in
      let path = f.serves.serves.plan in
      (given-leads n s k l (take (p + q) plan')).1
      (path.mode, (leads-cut (automaton_of n s k l) p (take (p + q) plan') s path.mode).1 (path.mode, path.leads_in, path.leads_cycle))

-- where one of 1 to 9 applies, both answers are that refusal
pub agreed-refused : {x : Refusal} {r r₂ : Searched} → Agreed (Err x) r r₂ → (r ≡ Err x) × (r₂ ≡ Err x)
agreed-refused (refusals e) = (cc, cc)
agreed-refused (tens e) = clash (cc)
agreed-refused (plans e) = clash (cc)

-- where none applies, both are 10 or both a plan
pub agreed-decided : {r r₂ : Searched} → Agreed (Ok tt) r r₂ → ((r ≡ no_plan) × (r₂ ≡ no_plan)) ⊎ (IsFound r × IsFound r₂)
agreed-decided (refusals e) = clash (cc)
agreed-decided (tens e) = inl (refl, refl)
agreed-decided (plans {p} {q} {p'} {q'} e) = inr ((p, q, refl), (p', q', refl))

-- answers that agree have the same number and detail
pub agreed-answer : {v : Verdict} {r r₂ : Searched} → Agreed v r r₂ → (search_answer r).answer ≡ (search_answer r₂).answer
agreed-answer (refusals e) = refl
agreed-answer (tens e) = refl
agreed-answer (plans e) = refl

-- by the numbers that are answered: two answers to a call have the same number and detail, and the same p and q where it is not a plan
pub numbers-agree : (v : Verdict) {g : Automaton} {x : ℕ} {on : List ℕ} {b c : ℕ} {plan plan' plan₂ plan₂' : List ℕ} {a a₂ : SearchAnswer}
    → SearchByNumber v g x on b c plan plan' a → SearchByNumber v g x on b c plan₂ plan₂' a₂
    → (a.answer ≡ a₂.answer) × ((a.answer.number ≡ 0 → ⊥) → (a.p ≡ a₂.p) × (a.q ≡ a₂.q))
numbers-agree (Err y) h h₂ =
    let (e, p, q) = h.refused y refl in
    let (e₂, p₂, q₂) = h₂.refused y refl in
    (e ∙ sym e₂, λ no. (p ∙ sym p₂, q ∙ sym q₂))
numbers-agree (Ok _) {a = a} h h₂ =
    elim (ℕ_discrete a.answer.number 10) [
      | yes ten ↦
          let (e, p, q) = h.ten_alone refl ten in
          let (e₂, p₂, q₂) = h₂.ten_alone refl ((h₂.ten refl).1 ((h.ten refl).0 ten)) in
          (e ∙ sym e₂, λ no. (p ∙ sym p₂, q ∙ sym q₂))
      | no plan ↦
          let e = (h.otherwise refl plan).0 in
          let e₂ = (h₂.otherwise refl (λ ten. plan ((h.ten refl).1 ((h₂.ten refl).0 ten)))).0 in
          (e ∙ sym e₂, λ no. absurd (no (ap {B = ℕ} (λ (x : Answer). x.number) e)))
    ]
