-- `decide_model` meets its contract: the rows and groups stand for the model. Assumes nothing.
use Rattle.decide.proofs.Standing.{part-lent, answerable-decidable, answered}
use Rattle.decide.proofs.decide_model.Goals as goal

pub find_kept-requires : goal.find_kept-requires
find_kept-requires c =
    let a = c.args in
    rw (c.from-modes.ensures, c.from-start.ensures) (answerable-decidable a.barred a.on c.requires c.group-groups.ensures (cc) _ (part-lent a.work.now c.requires))

pub returns : goal.returns
returns c =
    let a = c.args in
    answered a.barred a.on c.requires c.group-groups.ensures (cc) _ (part-lent a.work.now c.requires)
    (rw (c.from-modes.ensures, c.from-start.ensures) at c.find_kept.ensures)
