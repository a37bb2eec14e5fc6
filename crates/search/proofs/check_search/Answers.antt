-- `search::check_search` meets its contract: what the check doesn't find by itself, that 7 to 9 answer after 1 to 6. Assumes nothing.
use Rattle.std.proofs.lemmas.Result.{err_from_is_err_and}
use Rattle.model.specs.Lists.{lists_of}
use Rattle.search.proofs.Searchable.{checked-spaces}
use Rattle.search.proofs.check_search.Goals as goal

pub returns-in_err-check_spaces : goal.returns-in_err-check_spaces
returns-in_err-check_spaces c =
    let a = c.args in
    let g = a.given.now in
    let p = err_from_is_err_and c.from_residual-in_err-check_spaces.result c.from_residual-in_err-check_spaces.ensures.1 in
    rw (p.1, p.2) (checked-spaces g.n g.start g.k (lists_of g.lists) a.b a.c a.words a.bytes _ c.in_ok-model.ensures _
    c.in_err-check_spaces.ensures c.in_ok-check_levels.ensures)
