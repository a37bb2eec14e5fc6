-- Document 02, Ask 6, from what search promises of every call: bits at or above k change nothing, and with nothing barred search answers what it
-- answered before. Assumes nothing.
use Rattle.std.specs.Prelude.{Ok}
use mathlib.Core.Path.{◌≡◌}
use mathlib.Core.List.{List}
use mathlib.Core.Logic.{◌↔◌}
use Prim.Native.Nat.{ℕ, ◌+◌, ◌<◌}
use lib.ListN.{length, take}
use Rattle.model.specs.Automaton.{bit}
use Rattle.model.specs.Lists.{Lists, automaton_of}
use Rattle.model.specs.Plans.{Plan, IsPlan, Feasible, Meets}
use Rattle.model.proofs.Bits.{bit-zero}
use Rattle.model.proofs.Plans.{accepted-all, plan-unbarred}
use Rattle.switches.specs.Switches.{AllBelow}
use Rattle.switches.proofs.PlansOn.{serves-on-barred}
use Rattle.judge.specs.Shape.{plan_of}
use Rattle.search.specs.Search.{Searched, search_answer, searchable, SearchOf}
use Rattle.search.proofs.Alike.{search-alike}
use Rattle.search.proofs.Switched.{search-all-on}

-- "its bits at or above k are ignored": what search promises for a byte, buffers counted, it promises for every byte with the same bits below k
pub search-ignored : (n s k : ℕ) (l : Lists) (x y : ℕ) (on : List ℕ) (b c : ℕ) {work plan work' plan' : List ℕ} {r : Searched}
    → ((j : ℕ) → j < k → bit x j ≡ bit y j) → SearchOf n s k l x on b c work plan work' plan' r → SearchOf n s k l y on b c work plan work' plan' r
search-ignored n s k l x y on b c same = search-alike n s k l x y on on b c (serves-on-barred (automaton_of n s k l) on b c x y same)

-- with nothing barred and every arc on search answers by document 01's words alone: 10 exactly where no plan is feasible and has each of the k
-- colours on some arc of its round, and otherwise such a plan
pub search-unbarred : (n s k : ℕ) (l : Lists) (on : List ℕ) (b c : ℕ) {work plan work' plan' : List ℕ} {r : Searched}
    → AllBelow (length (automaton_of n s k l).arcs) on → SearchOf n s k l 0 on b c work plan work' plan' r
    → searchable n s k l b c (length work) (length plan) ≡ Ok tt
    → let g = automaton_of n s k l in
    let Plain : Plan → Type 0 = λ p. IsPlan g p × Feasible g b c p × ((j : ℕ) → j < k → Meets g j p.cycle) in
    let a = search_answer r in
    ((a.answer.number ≡ 10) ↔ (((p : Plan) × Plain p) → ⊥))
    × ((a.answer.number ≡ 10 → ⊥) → Plain (plan_of a.p (take (a.p + a.q) plan')))
search-unbarred n s k l on b c all h through =
    let g = automaton_of n s k l in
    let (ten, plan) = search-all-on n s k l 0 on b c all h through in
    let old = plan-unbarred g b c in (
      (
        λ e (p, (plan, feasible, met)). ten.0 e (old.1 (p, plan, feasible, met)),
        λ no. ten.1 (λ some. let (p, plan, feasible, met) = old.0 some in no (p, (plan, feasible, met))),
      ),
      λ other.
          let serves = plan other in
          (serves.plan, serves.feasible, (accepted-all g 0 _ (λ j q. bit-zero j)).0 serves.accepted),
    )
