-- Where the walk does not begin or go on: the plan is refused, the model has no such colour, or a start or a step is refused. Assumes nothing.
use Rattle.std.specs.Prelude.{Result, Ok, Err}
use mathlib.Core.Path.{◌≡◌, refl}
use mathlib.Core.List.{List}
use Prim.Native.Nat.{ℕ, ◌≤◌}
use borrow.Author.Tests.{le-leb}
use Rattle.refusals.specs.declared.Refusal.{Refusal}
use Rattle.refusals.specs.declared.Refusal.TheVariants.{NoSuchColour}
use Rattle.model.specs.Lists.{Lists}
use Rattle.judge.specs.Judged.{judged}
use Rattle.gauge.specs.declared.Gauge.{Gauge}
use Rattle.gauge.specs.Gauge.{Gauged}
use Rattle.planwalk.specs.declared.Walked.{Walked}
use Rattle.planwalk.specs.Walked.{walk_on, walk_of}

module _ (n s k : ℕ) (l : Lists) (x b c p q : ℕ) (w : List ℕ) (j t : ℕ) where
  -- a plan that judging refuses is not walked
  pub walk_refused : (r : Refusal) → judged n s k l x b c p q w ≡ Err r → walk_of n s k l x b c p q w j t ≡ Err r
  unfolding walk_of
  walk_refused r e = rw e refl

  -- "j not below k, looked at after the plan"
  pub walk-no-colour : judged n s k l x b c p q w ≡ Ok tt → k ≤ j → walk_of n s k l x b c p q w j t ≡ Err NoSuchColour
  unfolding walk_of
  walk-no-colour e h = rw (e, le-leb k j h) refl

-- a refused start or step ends the walk
pub walk-on-refused : (y : Gauged) (f : Gauge → Result Walked Refusal) (r : Refusal) → y ≡ Err r → walk_on y f ≡ Err r
walk-on-refused y f r e = rw e refl
