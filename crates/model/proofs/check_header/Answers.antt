-- `model::check_header` meets its contract: each way out is one row of the table, after the rows above it. Assumes nothing.
use borrow.Author.Tests.{lt-ltb, le-ltb, le-leb, lt-leb, eq-eqb, ne_eqb}
use Rattle.model.specs.Fitness.{header}
use Rattle.model.proofs.check_header.Goals as goal

pub returns-then-n-eq0 : goal.returns-then-n-eq0
unfolding header
returns-then-n-eq0 c = simp (eq-eqb _ _ c.if-n-eq0.true)

pub returns-then-n-gt-MODES : goal.returns-then-n-gt-MODES
unfolding header
returns-then-n-gt-MODES c = simp (ne_eqb _ _ c.if-n-eq0.false, lt-ltb _ _ c.if-n-gt-MODES.true)

pub returns-then-start-n : goal.returns-then-start-n
unfolding header
returns-then-start-n c = simp (ne_eqb _ _ c.if-n-eq0.false, le-ltb _ _ c.if-n-gt-MODES.false, le-leb _ _ c.if-start-n.true)

pub returns-then-unfit : goal.returns-then-unfit
unfolding header
returns-then-unfit c =
    simp (ne_eqb _ _ c.if-n-eq0.false, le-ltb _ _ c.if-n-gt-MODES.false, lt-leb _ _ c.if-start-n.false, c.if-unfit.true)

pub returns-then-k-gt-COLOURS : goal.returns-then-k-gt-COLOURS
unfolding header
returns-then-k-gt-COLOURS c =
    simp (
      ne_eqb _ _ c.if-n-eq0.false,
      le-ltb _ _ c.if-n-gt-MODES.false,
      lt-leb _ _ c.if-start-n.false,
      c.if-unfit.false,
      lt-ltb _ _ c.if-k-gt-COLOURS.true,
    )

pub returns : goal.returns
unfolding header
returns c =
    simp (
      ne_eqb _ _ c.if-n-eq0.false,
      le-ltb _ _ c.if-n-gt-MODES.false,
      lt-leb _ _ c.if-start-n.false,
      c.if-unfit.false,
      le-ltb _ _ c.if-k-gt-COLOURS.false,
    )
