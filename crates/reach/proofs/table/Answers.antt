-- `reach::table` meets its contract: the words that closing leaves have the charges of the table. Assumes nothing.
use native.Mathlib.Omega.{arith}
use Rattle.reach.proofs.Peaks.{findable, words-low, words-table}
use Rattle.reach.proofs.table.Goals as goal

pub find_peaks-requires : goal.find_peaks-requires
find_peaks-requires c = rw (c.from-modes.ensures, c.from-start.ensures) (findable c.args.on c.requires c.group-groups.ensures)

pub charges_of-requires : goal.charges_of-requires
charges_of-requires c = rw c.from-modes.ensures (words-low c.args.on c.requires c.group-groups.ensures (rw (c.from-modes.ensures, c.from-start.ensures) at c.find_peaks.ensures))

pub returns : goal.returns
returns c = words-table c.args.on c.requires c.group-groups.ensures (rw (c.from-modes.ensures, c.from-start.ensures) at c.find_peaks.ensures) (rw c.from-modes.ensures at c.charges_of.ensures)
