-- Document 01, "Examples": what search answers to the rows A, B, G and H of the table of examples. Assumes nothing.
use Rattle.std.specs.Prelude.{Ok}
use mathlib.Core.Path.{◌≡◌, ap}
use mathlib.Core.List.{List}
use mathlib.Core.Logic.{◌↔◌}
use Prim.Native.Nat.{ℕ}
use lib.ListN.{length}
use Rattle.refusals.proofs.Verdicts.{clash}
use Rattle.model.specs.Automaton.{Automaton}
use Rattle.model.specs.Lists.{automaton_of}
use Rattle.model.specs.Plans.{SomePlan}
use Rattle.switches.specs.Switches.{AllBelow}
use Rattle.switches.specs.PlansOn.{SomePlanOn}
use Rattle.switches.proofs.PlansOn.{some-plan-all-on}
use Rattle.judge.specs.Examples.{Claim, Found, None, Judged, Example, Admitted, Says, Stands}
use Rattle.search.specs.Search.{Searched, search_answer, spaces, searchable, SearchOf}
use Rattle.search.specs.Examples.{Answers}
use Rattle.search.proofs.Searchable.{searchable-on}
use Rattle.search.proofs.Demand3.{search-ten, search-complete}

-- where the buffers suffice for a row that holds, search answers as it says, with nothing barred and every arc on: A and G by a plan, B and H by 10 (judge
-- Examples, examples-hold)
pub example-searched : (x : Example) {on work plan work' plan' : List ℕ} {r : Searched} → Stands x
    → AllBelow (length (automaton_of x.modes 0 x.colours x.arcs).arcs) on
    → spaces x.modes x.colours x.bound (length work) (length plan) ≡ Ok tt
    → SearchOf x.modes 0 x.colours x.arcs 0 on x.bound x.credit work plan work' plan' r → Answers x.claim r
example-searched x {on} {work} {plan} {r = r} stands all room h = go x.claim stands
  where
    n : ℕ
    n = x.modes

    g : Automaton
    g = automaton_of n 0 x.colours x.arcs

    through : Admitted x → searchable n 0 x.colours x.arcs x.bound x.credit (length work) (length plan) ≡ Ok tt
    through a = searchable-on n 0 x.colours x.arcs x.bound x.credit (length work) (length plan) a room

    same : SomePlanOn g 0 on x.bound x.credit ↔ SomePlan g 0 x.bound x.credit
    same = some-plan-all-on g 0 on all x.bound x.credit

    go : (k : Claim) → Says x k → Answers k r
    go Found (a, some) =
        let (p, q, e, f) = search-complete n 0 x.colours x.arcs 0 on x.bound x.credit h (through a) (same.1 some) in (p, q, e)
    go None (a, none) = (search-ten n 0 x.colours x.arcs 0 on x.bound x.credit h (through a)).1 (λ some. none (same.0 some))
    go (Judged p q w a) says = tt

-- what a row says of search, in the paper's numbers: 0 where a plan is found, else 10; this pins each case of Answers
pub answers_number : (k : Claim) (r : Searched) → Answers k r → (k ≡ Found → (search_answer r).answer.number ≡ 0) × (k ≡ None → (search_answer r).answer.number ≡ 10)
answers_number Found r (p, q, e) = (λ same. ap {B = ℕ} (λ (x : Searched). (search_answer x).answer.number) e, λ same. clash (cc))
answers_number None r ten = (λ same. clash (cc), λ same. ten)
answers_number (Judged p q w a) r says = (λ same. clash (cc), λ same. clash (cc))
