-- `judge::judge_model` meets its contract: the model that check_model hands back is fit. Assumes nothing.
use Rattle.model.specs.Lists.{lists_of}
use Rattle.model.proofs.Held.{told-holds}
use Rattle.judge.proofs.judge_model.Goals as goal

pub judge_levels-requires : goal.judge_levels-requires
judge_levels-requires c =
    let g = c.args.given.now in
    told-holds g.n g.start g.k (lists_of g.lists) _ c.in_ok-model.ensures
