-- `join::join_colours` meets its contract. Assumes nothing.
use Rattle.join.proofs.Colours.{colours-or}
use Rattle.join.proofs.join_colours.Goals as goal

pub returns : goal.returns
returns c = colours-or c.args.knee c.args.habit c.args.k c.requires
