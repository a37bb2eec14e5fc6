-- Document 02, Ask 9, from what search promises of every call: a plan has arcs that are on alone, with every arc on search answers what it answered
-- without switches, and bits at or above m change nothing. Assumes nothing.
use Rattle.std.specs.Prelude.{Ok}
use mathlib.Core.Path.{◌≡◌, subst}
use mathlib.Core.List.{List}
use mathlib.Core.Logic.{◌↔◌}
use Prim.Native.Nat.{ℕ, ◌+◌}
use lib.ListN.{length, take, drop, take-append-drop}
use Rattle.model.specs.Automaton.{Automaton}
use Rattle.model.specs.Lists.{Lists, automaton_of}
use Rattle.model.specs.Plans.{Serves, SomePlan}
use Rattle.switches.specs.Switches.{SameBelow, AllBelow}
use Rattle.switches.specs.PlansOn.{AllOn}
use Rattle.switches.proofs.PlansOn.{all-on-append, some-plan-all-on, serves-on-ignored}
use Rattle.judge.specs.Shape.{plan_of}
use Rattle.search.specs.Search.{Searched, planned, search_answer, searchable, Found, SearchOf}
use Rattle.search.proofs.Alike.{search-alike}
use Rattle.search.proofs.Demand3.{answered-found, plan-searchable}

-- "Search .. use only arcs that are on": each byte of a plan that is handed back is the number of such an arc
found-on : {g : Automaton} {x : ℕ} {on : List ℕ} {b c p q : ℕ} {plan plan' : List ℕ} → Found g x on b c p q plan plan' → AllOn on (take (p + q) plan')
found-on {on = on} {p = p} {q} {plan' = plan'} f =
    let w = take (p + q) plan' in
    subst (AllOn on) (take-append-drop p w) ((all-on-append on (take p w) (drop p w)).1 (f.serves.prefix_on, f.serves.cycle_on))

module _ (n s k : ℕ) (l : Lists) (x : ℕ) (on : List ℕ) (b c : ℕ) {work plan work' plan' : List ℕ} where
  pub search-on : {p q : ℕ} → SearchOf n s k l x on b c work plan work' plan' (planned p q) → AllOn on (take (p + q) plan')
  search-on h = found-on (answered-found (h.decided (plan-searchable n s k l x on b c h)).answered)

  -- with every arc on "no plan" means that there is none at all, and any other answer is a plan, as without switches
  pub search-all-on : {r : Searched} → AllBelow (length (automaton_of n s k l).arcs) on → SearchOf n s k l x on b c work plan work' plan' r
      → searchable n s k l b c (length work) (length plan) ≡ Ok tt
      → let g = automaton_of n s k l in
      let a = search_answer r in
      ((a.answer.number ≡ 10) ↔ (SomePlan g x b c → ⊥))
      × ((a.answer.number ≡ 10 → ⊥) → Serves g x b c (plan_of a.p (take (a.p + a.q) plan')))
  search-all-on all h through =
      let ten = h.by_number.ten through in
      let same = some-plan-all-on (automaton_of n s k l) x on all b c in (
        (λ e some. ten.0 e (same.1 some), λ no. ten.1 (λ some. no (same.0 some))),
        λ other. (h.by_number.otherwise through other).1.serves.serves,
      )

-- "Bits at or above m are ignored.": what search promises for switches, buffers counted, it promises for all that are the same below m
pub search-same-below : (n s k : ℕ) (l : Lists) (x : ℕ) (on on' : List ℕ) (b c : ℕ) {work plan work' plan' : List ℕ} {r : Searched}
    → SameBelow (length (automaton_of n s k l).arcs) on on' → SearchOf n s k l x on b c work plan work' plan' r
    → SearchOf n s k l x on' b c work plan work' plan' r
search-same-below n s k l x on on' b c same =
    search-alike n s k l x x on on' b c (serves-on-ignored (automaton_of n s k l) x on on' same b c)
