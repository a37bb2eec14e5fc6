-- What a caller learns from the verdict of a join: where it is yes, what stands in the lists, that it is a fit model, and when that has a plan. Assumes
-- nothing.
use Rattle.std.specs.Prelude.{Result, Ok, Err}
use mathlib.Core.Path.{◌≡◌, refl, sym, ap, subst}
use mathlib.Core.Logic.{◌↔◌}
use Prim.Native.Nat.{ℕ}
use Rattle.refusals.specs.declared.Refusal.{Refusal}
use Rattle.refusals.specs.declared.Refusal.TheVariants.{JoinSize}
use Rattle.refusals.specs.Refusals.{and_then}
use Rattle.refusals.proofs.Verdicts.{and-then-yes}
use Rattle.model.specs.Automaton.{Automaton}
use Rattle.model.specs.Lists.{Lists, automaton_of}
use Rattle.model.specs.Fitness.{Fit, fitness}
use Rattle.model.specs.Plans.{SomePlan}
use Rattle.model.proofs.Fitness.{fitness-yes}
use Rattle.filling.specs.declared.Numbers.{Numbers}
use Rattle.filling.specs.Filling.{room_in, reading_if, numbers_in, first_places, later_places}
use Rattle.filling.proofs.Filled.{accepted-model, filled-rest, filled-fitness}
use Rattle.join.specs.Joining.{Given, model_given, fitness_given, joined_given, size_of, SizeFits, join_verdict, Joinable, join_of, lists_joined}
use Rattle.join.specs.Together.{SomeTogether}
use Rattle.join.proofs.Fits.{size-yes, size-no, joined-fit}
use Rattle.join.proofs.Together.{joins}

module _ (x y : Given) where
  -- the join is not refused exactly where it can be made
  pub join-yes : (room : ℕ) → (join_verdict x y room ≡ Ok tt) ↔ Joinable x y room
  unfolding join_verdict
  join-yes room =
      let size = size_of (joined_given x y) room in
      let first = and-then-yes (fitness_given x) (and_then (fitness_given y) size) in
      let second = and-then-yes (fitness_given y) size in
      let knee-yes = fitness-yes x.modes x.start x.colours x.arcs in
      let habit-yes = fitness-yes y.modes y.start y.colours y.arcs in (
        λ e.
            let one = first.0 e in
            let two = second.0 one.1 in
            record {
              knee_lists = (knee-yes.0 one.0).0;
              knee = (knee-yes.0 one.0).1;
              habit_lists = (habit-yes.0 two.0).0;
              habit = (habit-yes.0 two.0).1;
              size = (size-yes (joined_given x y) room).0 two.1;
            },
        λ j.
            first.1 (
              knee-yes.1 (j.knee_lists, j.knee),
              second.1 (habit-yes.1 (j.habit_lists, j.habit), (size-yes (joined_given x y) room).1 j.size),
            ),
      )

  -- "Either model unfit gives its own number from 1 to 5, the knee's first";
  module _ (room : ℕ) (r : Refusal) where
    pub join-knee : fitness_given x ≡ Err r → join_verdict x y room ≡ Err r
    unfolding join_verdict
    join-knee e = rw e refl

    pub join-habit : fitness_given x ≡ Ok tt → fitness_given y ≡ Err r → join_verdict x y room ≡ Err r
    unfolding join_verdict
    join-habit e f = rw (e, f) refl

  -- 23 is "looked at last", and answered exactly where the size does not fit
  pub join-size : (room : ℕ) → fitness_given x ≡ Ok tt → fitness_given y ≡ Ok tt
      → (join_verdict x y room ≡ Err JoinSize) ↔ (SizeFits (joined_given x y) room → ⊥)
  unfolding join_verdict
  join-size room e f = rw (e, f) (size-no (joined_given x y) room)

  -- the answer depends on what the lists take, not on what stands in them
  pub join-same : (l m : Lists) → room_in l ≡ room_in m → join_of x y l ≡ join_of x y m
  join-same l m e = ap {B = Result Numbers Refusal} (λ (room : ℕ). reading_if (join_verdict x y room) (joined_given x y)) e

  module _ (l : Lists) (yes : join_verdict x y (room_in l) ≡ Ok tt) where
    abbrev J : Automaton
    J = joined_given x y

    joinable : Joinable x y (room_in l)
    joinable = (join-yes (room_in l)).0 yes

    -- the joined model of two fit models is fit where 23 does not apply
    pub join-fit : Fit J
    join-fit = joined-fit (model_given x) (model_given y) (room_in l) joinable.knee joinable.habit joinable.size

    -- n, the start mode and k as answered, and the first m places of the lists, are the joined model,
    pub join-model : let r = numbers_in (join_of x y l) in automaton_of r.modes r.start r.colours (first_places r.count (lists_joined x y l)) ≡ J
    join-model = accepted-model (join_verdict x y (room_in l)) J yes l joinable.size.room_for

    -- which no call refuses by 1 to 5;
    pub join-fitness : let r = numbers_in (join_of x y l) in fitness r.modes r.start r.colours (first_places r.count (lists_joined x y l)) ≡ Ok tt
    join-fitness = rw yes (filled-fitness J l joinable.size.room_for join-fit)

    -- later places are as they were
    pub join-rest : let m = (numbers_in (join_of x y l)).count in later_places m (lists_joined x y l) ≡ later_places m l
    join-rest = rw yes (filled-rest J l joinable.size.room_for)

    -- "For any c and b in their limits, the joined model has a feasible accepted plan exactly when the two have" plans that serve together. z: the
    -- joined model's barred colours
    pub join-plans : (z b c : ℕ) → let r = numbers_in (join_of x y l) in
        SomePlan (automaton_of r.modes r.start r.colours (first_places r.count (lists_joined x y l))) z b c
        ↔ SomeTogether (model_given x) (model_given y) z b c
    join-plans z b c =
        subst (λ (g : Automaton). SomePlan g z b c ↔ SomeTogether (model_given x) (model_given y) z b c) (sym join-model)
        (joins (model_given x) (model_given y) joinable.knee joinable.habit z b c)
