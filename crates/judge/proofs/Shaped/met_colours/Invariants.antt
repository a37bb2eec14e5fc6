use mathlib.Core.Path.{◌≡◌}
use lib.ListN.{drop}
use Rattle.model.specs.Lists.{held}
use Rattle.judge.specs.Colours.{met_by}
use Rattle.judge.proofs.Shaped.met_colours.Given as goal

abbrev pub invariant-loop-number : goal.invariant-loop-number
invariant-loop-number l =
    let s = l.fn.self in
    met_by (held s.model.now) s.cycle.now l.passed ≡ met_by (held s.model.now) (drop l.number-index s.cycle.now) l.met
