-- `reading::read` meets its contract: the checks decide whether the lists are written. Assumes nothing.
use mathlib.Core.Path.{sym, ap, ◌∙◌}
use Rattle.std.specs.Prelude.{Result, Ok}
use Rattle.refusals.specs.declared.Refusal.{Refusal}
use Rattle.filling.specs.declared.Numbers.{Numbers}
use Rattle.filling.specs.Filling.{lists_lent}
use Rattle.reading.proofs.Verdicts.{arc-slice}
use Rattle.reading.proofs.Through.{read-accepted, may-fill}
use Rattle.reading.proofs.read.Goals as goal

pub fill-requires : goal.fill-requires
fill-requires c =
    may-fill _ _ (lists_lent c.args.lists.now) (sym (rw c.room-room.ensures at c.in_ok-check_texts.ensures)) _ _ c.body_of.ensures
    (arc-slice _ _ c.problem_of-problem.ensures)

pub returns-clause-reading : goal.returns-clause-reading
returns-clause-reading c =
    ap {B = Result Numbers Refusal} (λ (n : Numbers). Ok n) c.numbers.ensures
    ∙ read-accepted _ _ (lists_lent c.args.lists.now) (sym (rw c.room-room.ensures at c.in_ok-check_texts.ensures)) _ c.problem_of-problem.ensures.count
