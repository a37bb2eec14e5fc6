-- `model::check_fitness` meets its contract: the verdict on 1 to 4 decides who answers. Assumes nothing.
use mathlib.Core.Path.{sym, ap, ◌∙◌}
use Rattle.std.proofs.lemmas.Result.{err_from_is_err_and}
use Rattle.refusals.specs.Refusals.{Verdict}
use Rattle.model.specs.Lists.{lists_of}
use Rattle.model.specs.Fitness.{header}
use Rattle.model.proofs.Fitness.{header-yes, fitness-through, fitness-stopped}
use Rattle.model.proofs.check_fitness.Goals as goal

pub check_each_arc-requires : goal.check_each_arc-requires
check_each_arc-requires c =
    let g = c.args.given.now in
    (header-yes g.n g.start g.k (lists_of g.lists)).0
    (sym (c.in_ok-check_header.ensures ∙ ap {B = Verdict} (header g.n g.start g.k) c.unfit_lists.ensures))

pub returns-in_err-check_header : goal.returns-in_err-check_header
returns-in_err-check_header c =
    let g = c.args.given.now in
    let p = err_from_is_err_and c.from_residual.result c.from_residual.ensures.1 in
    rw (p.1, p.2) (sym (fitness-stopped g.n g.start g.k (lists_of g.lists) _
    (sym (c.in_err-check_header.ensures ∙ ap {B = Verdict} (header g.n g.start g.k) c.unfit_lists.ensures))))

pub returns : goal.returns
returns c =
    let g = c.args.given.now in
    c.check_each_arc.ensures
    ∙ sym (fitness-through g.n g.start g.k (lists_of g.lists)
    (sym (c.in_ok-check_header.ensures ∙ ap {B = Verdict} (header g.n g.start g.k) c.unfit_lists.ensures)))
