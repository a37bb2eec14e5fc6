-- Document 02, Ask 8, beside search and the decision: where the least level is answered, a search and a decision with any level that is looked at say that there is
-- no plan exactly below it. From the promises alone. Assumes nothing.
use Rattle.std.specs.Prelude.{Ok, Err}
use Rattle.refusals.specs.Refusals.{Verdict}
use mathlib.Core.Path.{◌≡◌, refl}
use mathlib.Core.List.{List}
use mathlib.Core.Logic.{◌↔◌}
use Prim.Native.Nat.{ℕ, ◌+◌, ◌*◌, ◌≤◌, ◌<◌}
use native.Mathlib.Nat.{mul-le-mul}
use native.Mathlib.Omega.{arith}
use lib.ListN.{length}
use Rattle.limits.specs.Ceilings.{work_words, work_levels, work_space, plan_buffer, decide_space}
use Rattle.refusals.specs.declared.Refusal.TheVariants.{NoPlan}
use Rattle.model.specs.Lists.{Lists, automaton_of}
use Rattle.search.specs.Search.{Searched, no_plan, search_answer, IsFound, Answered, none, found, searchable, SearchOf}
use Rattle.search.proofs.Searchable.{searchable-yes}
use Rattle.decide.specs.Decide.{decidable, DecideOf}
use Rattle.decide.proofs.Agrees.{decide-inside}
use Rattle.least.specs.declared.Sought.{Sought}
use Rattle.least.specs.declared.Sought.TheVariants.{Credit, Bound}
use Rattle.least.specs.Least.{LeastFound, bound_at, credit_at, Allowed, HasPlan, seekable, LeastOf}
use Rattle.least.proofs.Levels.{factor-low, largest-bound}
use Rattle.least.proofs.Seekable.{seekable-yes}
use Rattle.least.proofs.Claims.{least-serves}

-- a larger bound takes no less working space
space-grows : (k n b b' : ℕ) → b ≤ b' → work_space k n b ≤ work_space k n b'
space-grows k n b b' h =
    let same : work_words * (k + work_levels) * n ≤ work_words * (k + work_levels) * n = omega arith in
    let more : b + 1 ≤ b' + 1 = omega arith in
    mul-le-mul same more

-- where a call is not refused, a short plan buffer alone refuses a search with a level that is looked at, in the same working space
pub least-searchable : (s : Sought) (n start k : ℕ) (l : Lists) (given words bytes y : ℕ) → seekable s n start k l given words ≡ Ok tt
    → Allowed s n given y → plan_buffer k n (bound_at s given y) ≤ bytes
    → searchable n start k l (bound_at s given y) (credit_at s given y) words bytes ≡ Ok tt
least-searchable Credit n start k l given words bytes y e h buffer =
    let a = (seekable-yes Credit n start k l given words).0 e in
    (searchable-yes n start k l given y words bytes).1 (record {
      equal = a.equal;
      fit = a.fit;
      credit = h;
      low = factor-low n given a.fit.some-mode a.product;
      product = a.product;
      space = a.space;
      buffer = buffer;
    })
least-searchable Bound n start k l given words bytes y e h buffer =
    let a = (seekable-yes Bound n start k l given words).0 e in
    let largest = (largest-bound n y a.fit.some-mode a.fit.few_modes).0 h.1 in
    (searchable-yes n start k l y given words bytes).1 (record {
      equal = a.equal;
      fit = a.fit;
      credit = h.0;
      low = factor-low n y a.fit.some-mode h.1;
      product = h.1;
      space = omega (arith, space-grows k n y _ largest, a.space);
      buffer = buffer;
    })

-- and a short working space of its own a decision
pub least-decidable : (s : Sought) (n start k : ℕ) (l : Lists) (given words space y : ℕ) → seekable s n start k l given words ≡ Ok tt
    → Allowed s n given y → decide_space k n ≤ space → decidable n start k l (bound_at s given y) (credit_at s given y) space ≡ Ok tt
least-decidable s n start k l given words space y e h room =
    let b = bound_at s given y in
    decide-inside n start k l b (credit_at s given y) words (plan_buffer k n b) space
    (least-searchable s n start k l given words (plan_buffer k n b) y e h (omega arith)) room

module _ (s : Sought) (n start k : ℕ) (l : Lists) (x : ℕ) (on : List ℕ) (given : ℕ) {space space' : List ℕ} {r : LeastFound}
    (claim : LeastOf s n start k l x on given space space' r) (able : seekable s n start k l given (length space) ≡ Ok tt)
    (y : ℕ) (allowed : Allowed s n given y) where
  -- the levels without a plan are those below the least, or all where 10 is answered
  without-plan : {m : ℕ} → r ≡ Ok m → (HasPlan s (automaton_of n start k l) x on given y → ⊥) ↔ (y < m)
  without-plan {m} q = least-serves ((claim.value able m).0 q) y allowed

  without-any : r ≡ Err NoPlan → HasPlan s (automaton_of n start k l) x on given y → ⊥
  without-any q = (claim.no_plan_iff able).0 q y allowed

  module _ {work plan work' plan' : List ℕ} {t : Searched}
      (searched : SearchOf n start k l x on (bound_at s given y) (credit_at s given y) work plan work' plan' t)
      (inside : searchable n start k l (bound_at s given y) (credit_at s given y) (length work) (length plan) ≡ Ok tt) where
    -- search says that there is no plan exactly below the least level ..
    pub least-search : {m : ℕ} → r ≡ Ok m → (t ≡ no_plan) ↔ (y < m)
    least-search q =
        let w = without-plan q in
        let d = (searched.decided inside).no_plan_iff in
        (λ e. w.0 (d.0 e), λ h. d.1 (w.1 h))

    -- .. by its number ..
    pub least-search-ten : {m : ℕ} → r ≡ Ok m → ((search_answer t).answer.number ≡ 10) ↔ (y < m)
    least-search-ten q =
        let w = without-plan q in
        let d = searched.by_number.ten inside in
        (λ e. w.0 (d.0 e), λ h. d.1 (w.1 h))

    -- .. and hands back a plan at it and above it
    pub least-search-found : {m : ℕ} → r ≡ Ok m → m ≤ y → IsFound t
    least-search-found {m} q h = go (searched.decided inside).answered (λ e. absurd (let i : y < m = (least-search q).0 e in omega arith))
      where
        go : {b c : ℕ} {u : Searched} → Answered (automaton_of n start k l) x on b c plan plan' u → (u ≡ no_plan → ⊥) → IsFound u
        go (none e) f = absurd (f refl)
        go (found {p} {q} h) f = (p, q, refl)

    pub none-search : r ≡ Err NoPlan → t ≡ no_plan
    none-search q = (searched.decided inside).no_plan_iff.1 (without-any q)

  module _ {work work' : List ℕ} {v : Verdict}
      (decided : DecideOf n start k l x on (bound_at s given y) (credit_at s given y) work work' v)
      (inside : decidable n start k l (bound_at s given y) (credit_at s given y) (length work) ≡ Ok tt) where
    -- so does the decision
    pub least-decide : {m : ℕ} → r ≡ Ok m → (v ≡ Err NoPlan) ↔ (y < m)
    least-decide q =
        let w = without-plan q in
        let d = decided.no_plan_iff inside in
        (λ e. w.0 (d.0 e), λ h. d.1 (w.1 h))

    pub none-decide : r ≡ Err NoPlan → v ≡ Err NoPlan
    none-decide q = (decided.no_plan_iff inside).1 (without-any q)

-- the two go together: c is below the least credit for b exactly where b is below the least bound for c
pub least-together : (n start k : ℕ) (l : Lists) (x : ℕ) (on : List ℕ) (b c : ℕ) {space space' space₂ space₂' : List ℕ} {r r₂ : LeastFound}
    → LeastOf Credit n start k l x on b space space' r → LeastOf Bound n start k l x on c space₂ space₂' r₂
    → seekable Credit n start k l b (length space) ≡ Ok tt → seekable Bound n start k l c (length space₂) ≡ Ok tt → c ≤ b → {m m₂ : ℕ}
    → r ≡ Ok m → r₂ ≡ Ok m₂ → (c < m) ↔ (b < m₂)
least-together n start k l x on b c {space} h h₂ e e₂ low q q₂ =
    let credit = without-plan Credit n start k l x on b h e c low q in
    let bound = without-plan Bound n start k l x on c h₂ e₂ b (low, ((seekable-yes Credit n start k l b (length space)).0 e).product) q₂ in
    (λ i. bound.0 (credit.1 i), λ i. credit.0 (bound.1 i))
