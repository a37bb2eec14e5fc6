-- From the checks to what the join answers and leaves in the lists. x: the knee; y: the habit. Assumes nothing.
use Rattle.std.specs.Prelude.{Result, Ok, Err}
use mathlib.Core.Path.{◌≡◌, refl, ap, subst, ◌∙◌}
use Prim.Native.Nat.{ℕ}
use Rattle.refusals.specs.declared.Refusal.{Refusal}
use Rattle.refusals.specs.Refusals.{answer_of}
use Rattle.model.specs.declared.Model.{Model}
use Rattle.model.specs.Automaton.{Automaton}
use Rattle.model.specs.Lists.{Lists, held}
use Rattle.model.specs.Fitness.{fitted_of}
use Rattle.filling.specs.declared.Numbers.{Numbers}
use Rattle.filling.specs.Filling.{room_in, Written, numbers_of}
use Rattle.join.specs.Joined.{joined}
use Rattle.join.specs.Joining.{Given, size_of, join_verdict, join_of, join_answer, lists_joined}
use Rattle.join.specs.Within.{joined_held}
use Rattle.join.proofs.Verdicts.{joined-told, size-left}

module _ (x y : Given) (l : Lists) where
  -- where the verdict is a refusal
  pub refused-join : (r : Refusal) → join_verdict x y (room_in l) ≡ Err r
      → (Err r ≡ join_of x y l) × (answer_of (Err r) ≡ join_answer x y l) × (l ≡ lists_joined x y l)
  refused-join r e = rw e (refl, refl, refl)

  -- where there are models g and h of what is given, 23 does not apply to them, and the joined arcs are written
  pub accepted-join : (g h : Model) (knee : Ok g ≡ fitted_of x.modes x.start x.colours x.arcs)
      (habit : Ok h ≡ fitted_of y.modes y.start y.colours y.arcs) (fits : size_of (joined (held g) (held h)) (room_in l) ≡ Ok tt)
      (n : Numbers) (count : ℕ) (left : Lists) → n ≡ numbers_of (joined (held g) (held h)) → Written (joined_held g h) 0 l count left
      → (Ok n ≡ join_of x y l) × (answer_of (Ok tt) ≡ join_answer x y l) × (left ≡ lists_joined x y l)
  accepted-join g h knee habit fits n count left e w =
      let same = joined-told x y g h knee habit in
      let written = subst (λ (q : Automaton). Written q.arcs 0 l count left) same w in
      let yes : join_verdict x y (room_in l) ≡ Ok tt = size-left x y g h knee habit (room_in l) ∙ fits in
      rw yes (ap {B = Result Numbers Refusal} (λ (q : Numbers). Ok q) (e ∙ ap {B = Numbers} numbers_of same), refl, written.puts)
