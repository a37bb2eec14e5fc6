-- `decide` meets its contract: 1 to 6 and 8 refuse it and the space is untouched, or it is decided and the space cleared. Assumes nothing.
use mathlib.Core.Logic.{◌↔◌}
use mathlib.Core.Path.{◌≡◌, ap, subst, ◌∙◌}
use mathlib.Core.Bool.{true}
use mathlib.Core.List.{List}
use Prim.Native.Nat.{ℕ}
use lib.ListN.{replicate}
use Rattle.std.proofs.lemmas.Result.{err_from_is_err_and}
use Rattle.model.specs.Automaton.{Automaton}
use Rattle.model.specs.Lists.{lists_of}
use Rattle.switches.specs.PlansOn.{SomePlanOn}
use Rattle.decide.proofs.Decidable.{told-refused, told-yes, told-held, told-answerable}
use Rattle.decide.proofs.Claims.{decision-refused, decision-answered}
use Rattle.decide.proofs.decide.Goals as goal

pub decide_model-some-requires : goal.decide_model-some-requires
decide_model-some-requires c =
    let a = c.args in
    let g = a.given.now in
    told-answerable g.n g.start g.k (lists_of g.lists) a.b a.c _ c.in_ok-model.ensures

pub returns-in_err-model : goal.returns-in_err-model
returns-in_err-model c =
    let a = c.args in
    let g = a.given.now in
    let p = err_from_is_err_and c.from_residual.result c.from_residual.ensures.1 in
    rw (p.1, p.2) (decision-refused (told-refused g.n g.start g.k (lists_of g.lists) a.b a.c _ c.in_err-model.ensures))

pub returns : goal.returns
returns c =
    let y = c.decide_model-some in
    let a = c.args in
    let g = a.given.now in
    let l = lists_of g.lists in
    let held = told-held g.n g.start g.k l a.b a.c _ c.in_ok-model.ensures in
    let told = told-yes g.n g.start g.k l a.b a.c _ c.in_ok-model.ensures in
    let plans = subst (λ (h : Automaton). (y.result ≡ true) ↔ SomePlanOn h a.barred a.on a.b a.c) held y.ensures in
    let cleared = c.fill.ensures.after (λ z h. h) ∙ ap {B = List ℕ} (λ (x : ℕ). replicate x 0) y.auto.work in
    decision-answered y.result c.answer.ensures told plans cleared
