use Rattle.fields.specs.Fields.{LineAt}
use Rattle.fields.proofs.line_at.Given as goal

abbrev pub invariant-loop : goal.invariant-loop
invariant-loop l = LineAt l.text l.at l.counter
