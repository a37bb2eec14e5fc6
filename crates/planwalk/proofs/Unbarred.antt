-- What the byte of barred colours does not change in the walk. Assumes nothing.
use Rattle.std.specs.Prelude.{Result}
use mathlib.Core.Path.{◌≡◌, ap}
use mathlib.Core.List.{List}
use Prim.Native.Nat.{ℕ, ◌<◌}
use lib.Dec.{leb}
use Rattle.refusals.specs.declared.Refusal.{Refusal}
use Rattle.refusals.specs.declared.Refusal.TheVariants.{NoSuchColour}
use Rattle.refusals.specs.Refusals.{Verdict, refuse, and_then}
use Rattle.model.specs.Automaton.{bit}
use Rattle.model.specs.Lists.{Lists}
use Rattle.judge.specs.Shape.{plan_of}
use Rattle.judge.proofs.Judged.{judged_plain, judged-unbarred, judged-ignored}
use Rattle.gauge.specs.Gauge.{started_of}
use Rattle.planwalk.specs.declared.Walked.{Walked}
use Rattle.planwalk.specs.Walked.{steps_of_plan, walk_on, gauge_walk, walk_of}

module _ (n s k : ℕ) (l : Lists) (b c p q : ℕ) (w : List ℕ) (j t : ℕ) where
  -- what the walk answers, by judging's verdict
  abbrev walk_by : Verdict → Result Walked Refusal
  walk_by v =
      and_then v (refuse (leb k j) NoSuchColour (walk_on (started_of n s k l b c) (gauge_walk n s k l b j (steps_of_plan (plan_of p w) t) 0)))

  -- with nothing barred every answer is the old one
  pub walk-unbarred : walk_of n s k l 0 b c p q w j t ≡ walk_by (judged_plain n s k l b c p q w)
  unfolding walk_of
  walk-unbarred = ap {B = Result Walked Refusal} walk_by (judged-unbarred n s k l b c p q w)

  -- "its bits at or above k are ignored"
  pub walk-ignored : (x y : ℕ) → ((i : ℕ) → i < k → bit x i ≡ bit y i) → walk_of n s k l x b c p q w j t ≡ walk_of n s k l y b c p q w j t
  unfolding walk_of
  walk-ignored x y same = ap {B = Result Walked Refusal} walk_by (judged-ignored n s k l x y same b c p q w)
