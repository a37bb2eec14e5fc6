-- `least_of` meets its contract: the rows and groups stand for the model. Assumes nothing.
use mathlib.Core.Path.{refl}
use Rattle.least.proofs.Standing.{model-decidables, model-answered}
use Rattle.least.proofs.least_of.Goals as goal

pub least_in-requires : goal.least_in-requires
least_in-requires c =
    let a = c.args in
    model-decidables a.barred a.on a.sought c.requires (record {
      groups = c.group-groups.ensures;
      modes = c.from-modes.ensures;
      start = c.from-start.ensures;
      duties = cc;
      sought = refl;
      known = refl;
      lowest = c.lowest_tried.ensures;
      highest = c.largest_tried.ensures;
    })

pub returns : goal.returns
returns c =
    let a = c.args in
    model-answered a.barred a.on a.sought c.requires (record {
      groups = c.group-groups.ensures;
      modes = c.from-modes.ensures;
      start = c.from-start.ensures;
      duties = cc;
      sought = refl;
      known = refl;
      lowest = c.lowest_tried.ensures;
      highest = c.largest_tried.ensures;
    }) c.least_in.ensures
