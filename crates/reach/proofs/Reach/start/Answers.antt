-- `Reach::start` meets its contract. Assumes nothing.
use Rattle.std.proofs.lemmas.Result.{err_from_is_err_and}
use Rattle.model.specs.Lists.{lists_of}
use Rattle.reach.proofs.Calls.{tabled, start-refused, start-yes}
use Rattle.reach.proofs.Reach.start.Goals as goal

pub returns-in_err-model : goal.returns-in_err-model
returns-in_err-model c =
    let a = c.args in
    let g = a.given.now in
    let p = err_from_is_err_and c.from_residual.result c.from_residual.ensures.1 in
    rw (p.1, p.2) (start-refused g.n g.start g.k (lists_of g.lists) a.b a.c _ c.in_err-model.ensures)

pub table-charges-requires : goal.table-charges-requires
table-charges-requires c =
    let a = c.args in
    let g = a.given.now in
    tabled g.n g.start g.k (lists_of g.lists) a.b a.c _ c.in_ok-model.ensures

pub returns : goal.returns
returns c =
    let a = c.args in
    let g = a.given.now in
    start-yes g.n g.start g.k (lists_of g.lists) a.b a.c _ c.in_ok-model.ensures c.table-charges.ensures
