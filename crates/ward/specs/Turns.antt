-- What the function that the loop over a ward calls gives. The promise of a ward does not rest on this word.
use Rattle.std.specs.Prelude.{ℕ, cond, eqb}
use Rattle.refusals.specs.declared.Answer.{Answer}
use Rattle.refusals.specs.Refusals.{answer}

-- the answer so far after one more verdict v, at place i
abbrev pub after_verdict : Answer → ℕ → ℕ → Answer
after_verdict r v i = cond (eqb r.number 0) (cond (eqb v 0) r (answer v i)) r
