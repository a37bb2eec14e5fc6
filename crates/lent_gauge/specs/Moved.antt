-- What a step does to a lent gauge. Document 01, "Where each call stops": "A gauge step uses 1 to 6, then 12, 13, 15 with detail 0, and a
-- refusal leaves the gauge as found."; with document 02, Ask 3, 22 stands after 6.
use Rattle.std.specs.Prelude.{ℕ, ◌≡◌}
use Rattle.refusals.specs.declared.Answer.{Answer}
use Rattle.model.specs.Lists.{Lists}
use Rattle.gauge.specs.declared.Gauge.{Gauge}
use Rattle.gauge.specs.Gauge.{gauge_or, stepped_of, stepped_answer}

-- A step of a lent gauge on arc a. x: the gauge at entry, y: the gauge at exit, r: the answer.
pub record LentStep (n s k : ℕ) (l : Lists) (b a : ℕ) (x y : Gauge) (r : Answer) : Type 0 where
  -- "uses 1 to 6, then 12, 13, 15 with detail 0"
  pub answered : r ≡ stepped_answer n s k l b a x
  -- "one small record that each step moves on"
  pub moved_on : y ≡ gauge_or x (stepped_of n s k l b a x)
  -- "a refusal leaves the gauge as found"
  pub as_found : (r.number ≡ 0 → ⊥) → y ≡ x
