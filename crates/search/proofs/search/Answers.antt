-- `search::search` meets its contract: 1 to 9 refuse it and both buffers are untouched, or it is decided and the working space cleared.
-- Assumes nothing.
use mathlib.Core.Logic.{◌↔◌}
use mathlib.Core.Path.{◌≡◌, ap, subst, ◌∙◌}
use mathlib.Core.List.{List}
use Prim.Native.Nat.{ℕ}
use native.Mathlib.Omega.{arith}
use lib.ListN.{replicate}
use Rattle.std.proofs.lemmas.Result.{err_from_is_err_and}
use Rattle.model.specs.Automaton.{Automaton}
use Rattle.model.specs.Lists.{lists_of}
use Rattle.switches.specs.PlansOn.{SomePlanOn}
use Rattle.search.specs.Search.{no_plan, Answered}
use Rattle.search.proofs.Searchable.{told-refused, told-yes, told-held, told-solvable, search-refused, search-decided}
use Rattle.search.proofs.search.Goals as goal

pub returns-in_err-model : goal.returns-in_err-model
returns-in_err-model c =
    let a = c.args in
    let g = a.given.now in
    let p = err_from_is_err_and c.from_residual.result c.from_residual.ensures.1 in
    rw (p.1, p.2) (search-refused (told-refused g.n g.start g.k (lists_of g.lists) a.b a.c _ _ _ c.in_err-model.ensures))

pub overflow_cast-c : goal.overflow_cast-c
overflow_cast-c c =
    let a = c.args in
    let g = a.given.now in
    let able = told-solvable g.n g.start g.k (lists_of g.lists) a.b a.c _ _ c.in_ok-model.ensures in
    omega (arith, able.credit, able.low)

pub overflow_cast-b : goal.overflow_cast-b
overflow_cast-b c =
    let a = c.args in
    let g = a.given.now in
    let able = told-solvable g.n g.start g.k (lists_of g.lists) a.b a.c _ _ c.in_ok-model.ensures in
    omega (arith, able.low)

pub plan_model-searched-requires : goal.plan_model-searched-requires
plan_model-searched-requires c =
    let a = c.args in
    let g = a.given.now in
    told-solvable g.n g.start g.k (lists_of g.lists) a.b a.c _ _ c.in_ok-model.ensures

pub returns : goal.returns
returns c =
    let y = c.plan_model-searched in
    let a = c.args in
    let g = a.given.now in
    let l = lists_of g.lists in
    let held = told-held g.n g.start g.k l a.b a.c _ _ c.in_ok-model.ensures in
    let told = told-yes g.n g.start g.k l a.b a.c _ _ c.in_ok-model.ensures in
    search-decided told
    (subst (λ (g : Automaton). (y.result ≡ no_plan) ↔ (SomePlanOn g a.barred a.on a.b a.c → ⊥)) held y.ensures.no_plan)
    (subst (λ (g : Automaton). Answered g a.barred a.on a.b a.c a.plan.now y.new.plan y.result) held y.ensures.answered)
    (c.fill.ensures.after (λ z h. h) ∙ ap {B = List ℕ} (λ (x : ℕ). replicate x 0) y.auto.work)
