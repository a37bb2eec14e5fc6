-- The verdicts, as the code comes to them: 23 after the first pass; the knee's 1 to 5, the habit's and 23. Assumes nothing.
use Rattle.std.specs.Prelude.{Ok, Err}
use mathlib.Core.Path.{◌≡◌, refl, ap, ◌∙◌}
use mathlib.Core.Bool.{Bool, true, false, ◌||◌}
use Prim.Native.Nat.{ℕ, ◌+◌, ◌*◌}
use native.Mathlib.Nat.{zero-add}
use lib.Dec.{ltb}
use lib.ListN.{length}
use Rattle.limits.specs.Ceilings.{modes_most, arcs_most, colours_most}
use Rattle.refusals.specs.declared.Refusal.{Refusal}
use Rattle.refusals.specs.declared.Refusal.TheVariants.{JoinSize}
use Rattle.refusals.specs.Refusals.{Verdict, refuse}
use Rattle.model.specs.declared.Model.{Model}
use Rattle.model.specs.Automaton.{Automaton}
use Rattle.model.specs.Lists.{held}
use Rattle.model.specs.Fitness.{fitted_of, Holds}
use Rattle.model.proofs.Held.{told-yes, told-holds, told-held}
use Rattle.filling.proofs.Widths.{fit-narrow}
use Rattle.join.specs.Joined.{joined}
use Rattle.join.specs.Joining.{Given, model_given, joined_given, some_sum_above, oversize, size_of, join_verdict}
use Rattle.join.specs.Within.{joined_held, counted, AllFit}
use Rattle.join.proofs.Counting.{counted-is}
use Rattle.join.proofs.Fits.{size-yes, joined-fit}

or-true : (b x : Bool) → (b || true || x) ≡ true
or-true true x = refl
or-true false x = refl

-- what the first pass answers: 23, ..
module _ (g h : Model) (room : ℕ) where
  pub size-above : (r : Refusal) → Err r ≡ counted 0 (joined_held g h) → ◌≡◌ {A = Verdict} (Err r) (size_of (joined (held g) (held h)) room)
  unfolding size_of oversize
  size-above r e = go (some_sum_above (joined_held g h)) refl (e ∙ counted-is 0 (joined_held g h))
    where
      go : (t : Bool) → some_sum_above (joined_held g h) ≡ t → Err r ≡ refuse t JoinSize (Ok (0 + length (joined_held g h)))
          → ◌≡◌ {A = Verdict} (Err r) (size_of (joined (held g) (held h)) room)
      go true z f =
          let same : r ≡ JoinSize = cc in
          rw (same, z, or-true (ltb modes_most (g.modes * h.modes) || ltb arcs_most (length (joined_held g h)) || ltb colours_most (g.colours + h.colours)) _) refl
      go false z f = absurd (cc)

  -- or how many arcs there are; then 23 by the test that the code makes of it
  pub size-told : (count : ℕ) (test : Bool) → Ok count ≡ counted 0 (joined_held g h)
      → test ≡ oversize (g.modes * h.modes) count (g.colours + h.colours) false room
      → ◌≡◌ {A = Verdict} (refuse test JoinSize (Ok tt)) (size_of (joined (held g) (held h)) room)
  unfolding size_of
  size-told count test told e = go (some_sum_above (joined_held g h)) refl (told ∙ counted-is 0 (joined_held g h))
    where
      go : (t : Bool) → some_sum_above (joined_held g h) ≡ t → Ok count ≡ refuse t JoinSize (Ok (0 + length (joined_held g h)))
          → ◌≡◌ {A = Verdict} (refuse test JoinSize (Ok tt)) (size_of (joined (held g) (held h)) room)
      go true z f = absurd (cc)
      go false z f = let same : count ≡ length (joined_held g h) = cc (zero-add (length (joined_held g h))) in rw (e, same, z) refl

-- the models g and h that are handed back of what is given: x the knee, y the habit
module _ (x y : Given) (g h : Model) (knee : Ok g ≡ fitted_of x.modes x.start x.colours x.arcs)
    (habit : Ok h ≡ fitted_of y.modes y.start y.colours y.arcs) where
  pub both-hold : Holds g × Holds h
  both-hold = (told-holds x.modes x.start x.colours x.arcs g knee, told-holds y.modes y.start y.colours y.arcs h habit)

  -- their joined model is that of what is given
  pub joined-told : joined (held g) (held h) ≡ joined_given x y
  joined-told =
      ap {B = Automaton} (λ (q : Automaton). joined q (held h)) (told-held x.modes x.start x.colours x.arcs g knee)
      ∙ ap {B = Automaton} (joined (model_given x)) (told-held y.modes y.start y.colours y.arcs h habit)

  -- and 23 is all that is left of the verdict
  pub size-left : (room : ℕ) → join_verdict x y room ≡ size_of (joined (held g) (held h)) room
  unfolding join_verdict
  size-left room =
      rw (joined-told, told-yes x.modes x.start x.colours x.arcs g knee, told-yes y.modes y.start y.colours y.arcs h habit) refl

  -- where that is yes the arcs may be written
  pub may-write : (room : ℕ) → size_of (joined (held g) (held h)) room ≡ Ok tt → AllFit g h
  may-write room fits =
      let J = joined (held g) (held h) in
      let fit = joined-fit (held g) (held h) room both-hold.0.fit both-hold.1.fit ((size-yes J room).0 fits) in
      record { narrow = fit-narrow J fit; few = fit.few_arcs }
