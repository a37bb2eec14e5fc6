-- `fields::line_at` meets its contract: a line later at every turn. Assumes nothing.
use Rattle.std.proofs.Common.{add-one}
use Rattle.fields.proofs.Places.{line_step}
use Rattle.fields.proofs.line_at.Goals as goal

pub loop-preserved : goal.loop-preserved
loop-preserved c =
    let s = c.args.text.now in
    rw (add-one c.loop.counter) (line_step s c.loop.at c.loop.counter c.piece_end-at.result c.loop.invariant c.piece_end-at.ensures)
