-- `reading::check_fitness` meets its contract: 3 has looked at the number of lines. Assumes nothing.
use mathlib.Core.Path.{sym, ◌∙◌}
use native.Mathlib.Omega.{arith}
use Rattle.model.proofs.Fitness.{numbers-yes}
use Rattle.reading.proofs.Verdicts.{room-no, header-same}
use Rattle.reading.proofs.check_fitness.Goals as goal

pub check_weights-requires : goal.check_weights-requires
check_weights-requires c =
    let told = c.in_ok-check_header.ensures
    ∙ header-same c.modes_of-modes.ensures c.start_of-start.ensures c.colours_of-colours.ensures c.no_room-unfit.ensures in
    let (_, _, _, fits, _) = (numbers-yes _ _ _ _).0 (sym told) in
    omega (arith, c.requires, ((room-no c.args.room c.args.count).0 fits).1)
