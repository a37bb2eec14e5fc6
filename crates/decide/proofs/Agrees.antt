-- Document 02, Ask 12: "Inside the old ceilings it agrees with the search." From the two promises. Assumes nothing.
use Rattle.std.specs.Prelude.{Ok, Err}
use mathlib.Core.Path.{◌≡◌, sym, ap, ◌∙◌}
use mathlib.Core.List.{List}
use mathlib.Core.Logic.{◌↔◌, ⊎_elim}
use Prim.Native.Nat.{ℕ, ◌≤◌}
use native.Mathlib.Omega.{arith}
use lib.ListN.{length}
use Rattle.limits.specs.Ceilings.{decide_space}
use Rattle.refusals.specs.declared.Refusal.TheVariants.{NoPlan}
use Rattle.refusals.specs.declared.Answer.{Answer}
use Rattle.refusals.specs.Refusals.{Verdict, answer_of}
use Rattle.model.specs.Lists.{Lists}
use Rattle.search.specs.Search.{Searched, no_plan, search_answer, searchable, SearchOf}
use Rattle.search.proofs.Searchable.{searchable-yes}
use Rattle.decide.specs.Decide.{decidable, DecideOf}
use Rattle.decide.proofs.Decidable.{decidable-yes}

module _ (n s k : ℕ) (l : Lists) (b c : ℕ) where
  -- where search is not refused, only a short space refuses the decision
  pub decide-inside : (words bytes space : ℕ) → searchable n s k l b c words bytes ≡ Ok tt → decide_space k n ≤ space → decidable n s k l b c space ≡ Ok tt
  decide-inside words bytes space e h =
      let a = (searchable-yes n s k l b c words bytes).0 e in
      (decidable-yes n s k l b c space).1 (record {
        equal = a.equal;
        fit = a.fit;
        low = omega (arith, a.low);
        credit = a.credit;
        space = h;
      })

  module _ (x : ℕ) (on : List ℕ) {work plan work' plan' space space' : List ℕ} {r : Searched} {v : Verdict}
      (searched : SearchOf n s k l x on b c work plan work' plan' r) (decided : DecideOf n s k l x on b c space space' v)
      (inside : searchable n s k l b c (length work) (length plan) ≡ Ok tt) (room : decide_space k n ≤ length space) where
    -- both say that there is no plan, or neither does
    pub decide-agrees : (r ≡ no_plan) ↔ (v ≡ Err NoPlan)
    decide-agrees =
        let e = decide-inside (length work) (length plan) (length space) inside room in
        let t = (searched.decided inside).no_plan_iff in
        let d = decided.no_plan_iff e in
        (λ q. d.1 (t.0 q), λ q. t.1 (d.0 q))

    -- in the number and the detail that are answered
    pub decide-same : (search_answer r).answer ≡ answer_of v
    decide-same =
        let e = decide-inside (length work) (length plan) (length space) inside room in
        let t = searched.by_number in
        ⊎_elim
        (λ yes.
        let plan = (decided.yes e).0 yes in
        (t.otherwise inside (λ ten. (t.ten inside).0 ten plan)).0 ∙ sym (ap {B = Answer} answer_of yes))
        (λ no.
        (t.ten_alone inside ((t.ten inside).1 ((decided.no_plan_iff e).0 no))).0 ∙ sym (ap {B = Answer} answer_of no))
        (decided.verdict e)
