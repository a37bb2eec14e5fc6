-- `Reach::switch` meets its contract. Assumes nothing.
use native.Mathlib.Omega.{arith}
use Rattle.std.proofs.lemmas.Result.{err_from_is_err_and}
use Rattle.model.specs.Lists.{lists_of}
use Rattle.reach.proofs.Calls.{tabled, switch-refused, switch-twelve, switch-yes}
use Rattle.reach.proofs.Reach.switch.Goals as goal

pub returns-in_err-model : goal.returns-in_err-model
returns-in_err-model c =
    let a = c.args in
    let g = a.given.now in
    let p = err_from_is_err_and c.from_residual.result c.from_residual.ensures.1 in
    rw (p.1, p.2) (switch-refused g.n g.start g.k (lists_of g.lists) a.b a.c _ c.in_err-model.ensures)

pub returns-then-arc-from : goal.returns-then-arc-from
returns-then-arc-from c =
    let a = c.args in
    let g = a.given.now in
    switch-twelve g.n g.start g.k (lists_of g.lists) a.b a.c _ c.in_ok-model.ensures (omega (arith, c.if-arc-from.true, c.from.ensures))

pub turn-requires : goal.turn-requires
turn-requires c =
    let a = c.args in
    let g = a.given.now in
    tabled g.n g.start g.k (lists_of g.lists) a.b a.c _ c.in_ok-model.ensures

pub returns : goal.returns
returns c =
    let a = c.args in
    let g = a.given.now in
    switch-yes g.n g.start g.k (lists_of g.lists) a.b a.c _ c.in_ok-model.ensures (omega (arith, c.if-arc-from.false, c.from.ensures)) c.turn.ensures
