-- The joined model of two fit models is fit where 23 does not apply. Assumes nothing.
use Rattle.std.specs.Prelude.{Ok, Err}
use mathlib.Core.Path.{◌≡◌, refl, sym, subst}
use mathlib.Core.Bool.{Bool, true, false, ◌||◌}
use mathlib.Core.List.{List, [], ◌∷◌}
use mathlib.Core.Logic.{◌↔◌}
use Prim.Native.Nat.{ℕ, zero, suc, ◌+◌, ◌*◌, ◌<◌}
use native.Mathlib.Omega.{arith}
use lib.Dec.{ltb}
use lib.ListN.{length, get_or}
use Rattle.limits.specs.Ceilings.{modes_most, arcs_most, colours_most, draw_most, gain_most}
use Rattle.refusals.specs.declared.Refusal.TheVariants.{JoinSize}
use Rattle.refusals.specs.Refusals.{Verdict, refuse}
use Rattle.refusals.proofs.Tests.{or_no, or5-no, lt_no}
use Rattle.refusals.proofs.Verdicts.{clash, refuse-yes}
use Rattle.model.specs.declared.Arc.{Arc}
use Rattle.model.specs.Automaton.{Automaton, no_arc}
use Rattle.model.specs.Fitness.{ArcFits, Fit}
use Rattle.model.proofs.Bits.{colours-below}
use Rattle.join.specs.Joined.{join_arc, joined}
use Rattle.join.specs.Joining.{sum_above, some_sum_above, oversize, size_of, SumsFit, SizeFits}
use Rattle.join.proofs.Colours.{colours-within}
use Rattle.join.proofs.Modes.{mode-below}
use Rattle.join.proofs.Pairs.{made_of}

-- of one arc
sum-no : (a : Arc) → (sum_above a ≡ false) ↔ SumsFit a
sum-no a =
    let both = or_no (ltb draw_most a.draw) (ltb gain_most a.gain) in (
      λ e. record { draw = (lt_no draw_most a.draw).0 (both.0 e).0; gain = (lt_no gain_most a.gain).0 (both.0 e).1 },
      λ s. both.1 ((lt_no draw_most a.draw).1 s.draw, (lt_no gain_most a.gain).1 s.gain),
    )

-- of every arc of a list
pub sums-no : (l : List Arc) → (some_sum_above l ≡ false) ↔ ((a : ℕ) → a < length l → SumsFit (get_or l a no_arc))
sums-no l = (to l, from l)
  where
    to : (l : List Arc) → some_sum_above l ≡ false → (a : ℕ) → a < length l → SumsFit (get_or l a no_arc)
    to [] e a h = absurd (omega arith)
    to (x ∷ l) e zero h = (sum-no x).0 ((or_no (sum_above x) (some_sum_above l)).0 e).0
    to (x ∷ l) e (suc a) h = to l ((or_no (sum_above x) (some_sum_above l)).0 e).1 a (omega arith)

    from : (l : List Arc) → ((a : ℕ) → a < length l → SumsFit (get_or l a no_arc)) → some_sum_above l ≡ false
    from [] f = refl
    from (x ∷ l) f = (or_no (sum_above x) (some_sum_above l)).1 ((sum-no x).1 (f 0 (omega arith)), from l (λ a h. f (suc a) (omega arith)))

-- 23 does not apply exactly where the size fits
pub size-yes : (g : Automaton) (room : ℕ) → (size_of g room ≡ Ok tt) ↔ SizeFits g room
unfolding size_of oversize
size-yes g room =
    let m = length g.arcs in
    let modes = ltb modes_most g.modes in
    let arcs = ltb arcs_most m in
    let colours = ltb colours_most g.colours in
    let above = some_sum_above g.arcs in
    let all = refuse-yes (modes || arcs || colours || above || ltb room m) JoinSize (Ok tt) in
    let five = or5-no modes arcs colours above (ltb room m) in (
      λ e.
          let (few_modes, few_arcs, few_colours, sums, fits) = five.0 (all.0 e).0 in
          record {
            few_modes = (lt_no modes_most g.modes).0 few_modes;
            few_arcs = (lt_no arcs_most m).0 few_arcs;
            few_colours = (lt_no colours_most g.colours).0 few_colours;
            sums = (sums-no g.arcs).0 sums;
            room_for = (lt_no room m).0 fits;
          },
      λ s.
          let none = five.1 (
            (lt_no modes_most g.modes).1 s.few_modes,
            (lt_no arcs_most m).1 s.few_arcs,
            (lt_no colours_most g.colours).1 s.few_colours,
            (sums-no g.arcs).1 s.sums,
            (lt_no room m).1 s.room_for,
          ) in
          all.1 (none, refl),
    )

-- and is answered exactly where it does not
pub size-no : (g : Automaton) (room : ℕ) → (size_of g room ≡ Err JoinSize) ↔ (SizeFits g room → ⊥)
unfolding size_of
size-no g room = (
  λ e s. let yes = (size-yes g room).1 s in clash (cc),
  λ misfit. go (oversize g.modes (length g.arcs) g.colours (some_sum_above g.arcs) room) (λ e. misfit ((size-yes g room).0 e)),
)
  where
    go : (t : Bool) → (◌≡◌ {A = Verdict} (refuse t JoinSize (Ok tt)) (Ok tt) → ⊥) → ◌≡◌ {A = Verdict} (refuse t JoinSize (Ok tt)) (Err JoinSize)
    go true other = refl
    go false other = absurd (other refl)

-- the joined arc of two fit arcs, where its sums are within their ranges
arc-fits : (n₁ k₁ n₂ k₂ : ℕ) (x y : Arc) → ArcFits n₁ k₁ x → ArcFits n₂ k₂ y → SumsFit (join_arc n₂ k₁ x y)
    → ArcFits (n₁ * n₂) (k₁ + k₂) (join_arc n₂ k₁ x y)
arc-fits n₁ k₁ n₂ k₂ x y f h s =
    record {
      source = mode-below n₁ n₂ x.source y.source f.source h.source;
      target = mode-below n₁ n₂ x.target y.target f.target h.target;
      draw_fits = s.draw;
      gain_fits = s.gain;
      colours =
          (colours-below (join_arc n₂ k₁ x y).colours (k₁ + k₂)).0
          (colours-within x.colours y.colours k₁ k₂ ((colours-below x.colours k₁).1 f.colours) ((colours-below y.colours k₂).1 h.colours));
      action_fits = f.action_fits;
    }

pub joined-fit : (g h : Automaton) (room : ℕ) → Fit g → Fit h → SizeFits (joined g h) room → Fit (joined g h)
joined-fit g h room knee habit small =
    let start = mode-below g.modes h.modes g.start h.start knee.starts habit.starts in
    record {
      some-mode = omega (arith, start);
      few_modes = small.few_modes;
      starts = start;
      few_arcs = small.few_arcs;
      few_colours = small.few_colours;
      arcs_fit = λ z below.
          let m = made_of g h z below in
          subst (ArcFits (g.modes * h.modes) (g.colours + h.colours)) (sym m.arc)
          (arc-fits g.modes g.colours h.modes h.colours _ _ (knee.arcs_fit _ m.knee_below) (habit.arcs_fit _ m.habit_below)
          (subst SumsFit m.arc (small.sums z below)));
    }
