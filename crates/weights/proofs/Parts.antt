-- The models given by weights are exactly those without both parts in an arc. Assumes nothing.
use mathlib.Core.Path.{◌≡◌, refl, sym, ◌∙◌}
use mathlib.Core.List.{List, [], ◌∷◌, map}
use mathlib.Core.Logic.{◌↔◌, ◌⊎◌, inl, inr, ⊎_elim}
use Prim.Native.Nat.{ℕ, zero, suc}
use native.Mathlib.Omega.{arith}
use lib.IntN.{ℤ, pos, negsuc}
use lib.ListN.{length, length-map, get_or, get_or-map}
use Rattle.walks.specs.Weights.{draw_of, gain_of}
use Rattle.model.specs.Lists.{Lists}
use Rattle.weights.specs.Models.{WeightLists, lists_of, OnePart}

-- the weight of a draw and a gain, one of which is 0
abbrev weight_of : ℕ → ℕ → ℤ
weight_of zero g = pos g
weight_of (suc d) g = negsuc d

abbrev weights_of : List ℕ → List ℕ → List ℤ
weights_of [] gs = []
weights_of (d ∷ ds) [] = []
weights_of (d ∷ ds) (g ∷ gs) = weight_of d g ∷ weights_of ds gs

draw-back : (d g : ℕ) → draw_of (weight_of d g) ≡ d
draw-back zero g = refl
draw-back (suc d) g = refl

gain-back : (d g : ℕ) → (d ≡ 0) ⊎ (g ≡ 0) → gain_of (weight_of d g) ≡ g
gain-back zero g h = refl
gain-back (suc d) g h = ⊎_elim (λ e. absurd (omega arith)) (λ e. sym e) h

draws-back : (ds gs : List ℕ) → length ds ≡ length gs → map draw_of (weights_of ds gs) ≡ ds
draws-back [] gs e = refl
draws-back (d ∷ ds) [] e = absurd (omega arith)
draws-back (d ∷ ds) (g ∷ gs) e = rw (draw-back d g, draws-back ds gs (omega arith)) refl

gains-back : (ds gs : List ℕ) → length ds ≡ length gs → ((a : ℕ) → (get_or ds a 0 ≡ 0) ⊎ (get_or gs a 0 ≡ 0)) → map gain_of (weights_of ds gs) ≡ gs
gains-back [] [] e h = refl
gains-back [] (g ∷ gs) e h = absurd (omega arith)
gains-back (d ∷ ds) [] e h = absurd (omega arith)
gains-back (d ∷ ds) (g ∷ gs) e h = rw (gain-back d g (h 0), gains-back ds gs (omega arith) λ a. h (suc a)) refl

-- a weight has no draw or no gain
part_none : (w : ℤ) → (draw_of w ≡ 0) ⊎ (gain_of w ≡ 0)
part_none (pos x) = inl refl
part_none (negsuc x) = inr refl

pub one-part : (l : Lists) → OnePart l ↔ ((w : WeightLists) × (lists_of w ≡ l))
one-part l = (
  λ h. (
    record { sources = l.sources; targets = l.targets; weights = weights_of l.draws l.gains; colours = l.colours; actions = l.actions },
    rw (draws-back l.draws l.gains h.equal, gains-back l.draws l.gains h.equal h.none) refl,
  ),
  λ (w, e). rw (sym e) (record {
    equal = length-map w.weights draw_of ∙ sym (length-map w.weights gain_of);
    none = λ a.
        rw (get_or-map draw_of w.weights a (pos 0), get_or-map gain_of w.weights a (pos 0)) (part_none (get_or w.weights a (pos 0)));
  }),
)
