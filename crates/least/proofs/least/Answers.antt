-- `least` meets its contract: 1 to 8 refuse it and the space is untouched, or it is answered and the space cleared. Assumes nothing.
use mathlib.Core.Path.{subst}
use Rattle.std.proofs.lemmas.Result.{err_from_is_err_and}
use Rattle.model.specs.Automaton.{Automaton}
use Rattle.model.specs.Lists.{lists_of}
use Rattle.least.specs.Least.{Allowed, HasPlan}
use Rattle.least.specs.Within.{Answered}
use Rattle.least.proofs.Seekable.{told-refused, told-yes, told-held, told-answerable}
use Rattle.least.proofs.Claims.{claim-refused, claim-answered}
use Rattle.least.proofs.least.Goals as goal

pub least_of-found-requires : goal.least_of-found-requires
least_of-found-requires c =
    let a = c.args in
    let g = a.given.now in
    told-answerable a.sought g.n g.start g.k (lists_of g.lists) a.known _ c.in_ok-model.ensures

pub returns-in_err-model : goal.returns-in_err-model
returns-in_err-model c =
    let a = c.args in
    let g = a.given.now in
    let p = err_from_is_err_and c.from_residual.result c.from_residual.ensures.1 in
    rw (p.1, p.2) (claim-refused (told-refused a.sought g.n g.start g.k (lists_of g.lists) a.known _ c.in_err-model.ensures))

pub returns : goal.returns
returns c =
    let a = c.args in
    let g = a.given.now in
    let l = lists_of g.lists in
    let told = c.in_ok-model.ensures in
    let answered =
    subst
    (λ (h : Automaton). Answered (λ m. Allowed a.sought h.modes a.known m) (λ m. HasPlan a.sought h a.barred a.on a.known m) c.least_of-found.result)
    (told-held a.sought g.n g.start g.k l a.known _ told)
    c.least_of-found.ensures in
    claim-answered (told-yes a.sought g.n g.start g.k l a.known _ told) answered (c.fill.ensures.after (λ y h. h))
