-- `join::Both::check_size` meets its contract. Assumes nothing.
use mathlib.Core.Path.{sym, ◌∙◌}
use Rattle.std.proofs.lemmas.Result.{err_from_is_err_and}
use Rattle.join.proofs.Verdicts.{size-above, size-told}
use Rattle.join.proofs.Both.check_size.Goals as goal

pub returns-in_err-count : goal.returns-in_err-count
returns-in_err-count c =
    let p = err_from_is_err_and c.from_residual.result c.from_residual.ensures.1 in
    rw (p.1, p.2) (size-above c.args.self.now.knee.now c.args.self.now.habit.now c.args.room _ c.in_err-count.ensures)

-- the test is that of 23
pub returns-then-is_oversize : goal.returns-then-is_oversize
returns-then-is_oversize c =
    size-told c.args.self.now.knee.now c.args.self.now.habit.now c.args.room c.in_ok-count.count _ c.in_ok-count.ensures
    (sym c.if-is_oversize.true ∙ simp (c.modes.ensures, c.colours.ensures) at c.is_oversize.ensures)

pub returns : goal.returns
returns c =
    size-told c.args.self.now.knee.now c.args.self.now.habit.now c.args.room c.in_ok-count.count _ c.in_ok-count.ensures
    (sym c.if-is_oversize.false ∙ simp (c.modes.ensures, c.colours.ensures) at c.is_oversize.ensures)
