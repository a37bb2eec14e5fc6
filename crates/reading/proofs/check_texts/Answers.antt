-- `reading::check_texts` meets its contract: each way out is one row, after the rows above it. Assumes nothing.
use mathlib.Core.Path.{sym, ap, ◌∙◌}
use Prim.Native.Nat.{ℕ}
use lib.ListN.{length}
use Rattle.fields.proofs.Wrong.{told_line, told_none}
use Rattle.reading.proofs.Verdicts.{readable-hoa, readable-dimacs, readable-other, readable-same, lines-count, fitness-by, arc-slice, agree-by}
use Rattle.reading.proofs.check_texts.Goals as goal

pub returns-in-Some : goal.returns-in-Some
returns-in-Some c = let (line, some) = told_line _ _ c.in-Some.ensures in readable-hoa _ _ _ _ line (rw line some)

pub returns-in-Some-dimacs_wrong : goal.returns-in-Some-dimacs_wrong
returns-in-Some-dimacs_wrong c =
    let (line, some) = told_line _ _ c.in-Some-dimacs_wrong.ensures in readable-dimacs _ _ _ (told_none _ c.in_default.ensures) _ line (rw line some)

pub returns-then-not-texts_agree : goal.returns-then-not-texts_agree
returns-then-not-texts_agree c =
    readable-other _ _ _ (told_none _ c.in_default.ensures) (told_none _ c.in_default-dimacs_wrong.ensures)
    (sym (c.texts_agree.ensures ∙ agree-by _ _ _ _ c.requires.modes (arc-slice _ _ c.requires)) ∙ c.if-not-texts_agree.true)

pub check_fitness-requires : goal.check_fitness-requires
check_fitness-requires c =
    ap {B = ℕ} length (arc-slice _ _ c.requires) ∙ lines-count _ (told_none _ c.in_default-dimacs_wrong.ensures) ∙ sym c.requires.count

pub returns : goal.returns
returns c =
    let right = told_none _ c.in_default.ensures in
    let too = told_none _ c.in_default-dimacs_wrong.ensures in
    let agreed = sym (c.texts_agree.ensures ∙ agree-by _ _ _ _ c.requires.modes (arc-slice _ _ c.requires)) ∙ c.if-not-texts_agree.false in
    c.check_fitness.ensures
    ∙ fitness-by _ _ _ _ _ c.requires.count (arc-slice _ _ c.requires) right too agreed
    ∙ readable-same _ _ _ right too agreed
