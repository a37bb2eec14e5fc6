-- What is printed for an arc reads back as it, where it is fit and has one part and action 0. Assumes nothing.
use mathlib.Core.Path.{◌≡◌, refl, sym, ap}
use mathlib.Core.Bool.{Bool, true, false, cond, ◌&&◌}
use mathlib.Core.List.{List, [], ◌∷◌, ◌++◌, map}
use mathlib.Core.Logic.{◌⊎◌, inl, inr}
use Prim.Native.Nat.{ℕ, zero, suc, ◌^◌, ◌≤◌, ◌<◌}
use native.Mathlib.Decide.{ℕ_discrete, dec_le}
use native.Mathlib.Omega.{arith}
use lib.Dec.{eqb}
use lib.IntN.{ℤ, pos, negsuc}
use lib.ListN.{length, get_or}
use borrow.Author.Tests.{eqb-true, eq-eqb}
use Rattle.limits.specs.Ceilings.{colours_most, draw_most, gain_most}
use Rattle.refusals.proofs.Verdicts.{clash}
use Rattle.walks.specs.Weights.{draw_of, gain_of}
use Rattle.model.specs.declared.Arc.{Arc}
use Rattle.model.specs.Automaton.{bit, no_arc}
use Rattle.model.specs.Fitness.{ArcFits}
use Rattle.model.proofs.Bits.{colours-below}
use Rattle.fields.proofs.Numbers.{both}
use Rattle.hoa.specs.Text.{Edge, contains, colour_byte}
use Rattle.hoa.specs.Edges.{Below, EdgesFit}
use Rattle.dimacs.specs.Text.{TextArc}
use Rattle.dimacs.proofs.PrintText.{SmallZ, TextArcsFit}
use Rattle.filling.proofs.Filled.{arc-by}
use Rattle.reading.specs.Agreement.{all_same}
use Rattle.reading.specs.ModelRead.{arc_read, arcs_read}

-- colour j where a byte has it
abbrev colour_if : ℕ → ℕ → List ℕ
colour_if x j = cond (bit x j) (j ∷ []) []

-- the colours of a byte, for the four colours that a fit model may have
abbrev colours_in : ℕ → List ℕ
colours_in x = colour_if x 0 ++ (colour_if x 1 ++ (colour_if x 2 ++ colour_if x 3))

-- the weight of a draw and a gain of which one is 0
abbrev weight_for : ℕ → ℕ → ℤ
weight_for zero gain = pos gain
weight_for (suc x) gain = negsuc x

-- what is printed for an arc
abbrev pub edge_for : Arc → Edge
edge_for a = record { source = a.source; target = a.target; colours = colours_in a.colours }

abbrev pub text_arc_for : Arc → TextArc
text_arc_for a = record { from = suc a.source; to = suc a.target; weight = weight_for a.draw a.gain }

-- a test for all numbers below n
every : ℕ → (ℕ → Bool) → Bool
every zero p = true
every (suc n) p = p n && every n p

every-says : (n : ℕ) (p : ℕ → Bool) → every n p ≡ true → (x : ℕ) → x < n → p x ≡ true
unfolding every
every-says zero p e x h = absurd (omega arith)
every-says (suc n) p e x h =
    let (here, below) = both (p n) (every n p) e in
    elim (ℕ_discrete x n) [ yes z ↦ rw z here | no z ↦ every-says n p below x (omega arith) ]

-- the byte of its colours is the byte
byte-back : (x : ℕ) → x < 2 ^ colours_most → colour_byte (colours_in x) ≡ x
unfolding every colour_byte contains
byte-back x h = eqb-true (colour_byte (colours_in x)) x (every-says 16 (λ y. eqb (colour_byte (colours_in y)) y) refl x h)

-- a byte without a bit at or above k has colours below k
below-append : (k : ℕ) (cs ds : List ℕ) → Below k cs → Below k ds → Below k (cs ++ ds)
below-append k [] ds f g = g
below-append k (c ∷ cs) ds f g = (f.0, below-append k cs ds f.1 g)

colours-in-below : (k x : ℕ) → ((j : ℕ) → k ≤ j → bit x j ≡ false) → Below k (colours_in x)
colours-in-below k x f =
    below-append k (colour_if x 0) _ (one 0) (below-append k (colour_if x 1) _ (one 1) (below-append k (colour_if x 2) _ (one 2) (one 3)))
  where
    low : (t : Bool) (j : ℕ) → bit x j ≡ t → Below k (cond t (j ∷ []) [])
    low false j e = tt
    low true j e = elim (dec_le k j) [ yes h ↦ clash (cc (f j h)) | no h ↦ (omega arith, tt) ]

    one : (j : ℕ) → Below k (colour_if x j)
    one j = low (bit x j) j refl

-- the weight means the draw and the gain
draw-back : (draw gain : ℕ) → draw_of (weight_for draw gain) ≡ draw
draw-back zero gain = refl
draw-back (suc x) gain = refl

gain-back : (draw gain : ℕ) → (draw ≡ 0) ⊎ (gain ≡ 0) → gain_of (weight_for draw gain) ≡ gain
gain-back zero gain e = refl
gain-back (suc x) gain (inl e) = absurd (omega (arith, e))
gain-back (suc x) gain (inr e) = omega (arith, e)

weight-small : (draw gain : ℕ) → draw ≤ draw_most → gain ≤ gain_most → SmallZ (weight_for draw gain)
weight-small zero gain h g = omega arith
weight-small (suc x) gain h g = omega arith

-- edges and `a` lines of the same arcs have the same ends
pub printed-same : (l : List Arc) → all_same (map edge_for l) (map text_arc_for l) ≡ true
unfolding all_same
printed-same [] = refl
printed-same (a ∷ l) =
    rw (eq-eqb (suc a.source) (suc a.source) refl, eq-eqb (suc a.target) (suc a.target) refl) (printed-same l)

module _ (n k : ℕ) where
  -- what is printed for arcs that are fit can be printed
  pub edges_fit : (l : List Arc) → ((a : ℕ) → a < length l → ArcFits n k (get_or l a no_arc)) → EdgesFit n k (map edge_for l)
  edges_fit [] f = tt
  edges_fit (x ∷ l) f =
      let g : ArcFits n k x = f 0 (omega arith) in (
        record { source = g.source; target = g.target; colours = colours-in-below k x.colours g.colours },
        edges_fit l (λ a h. f (suc a) (omega arith)),
      )

  pub text-arcs-fit : (l : List Arc) → ((a : ℕ) → a < length l → ArcFits n k (get_or l a no_arc)) → TextArcsFit n (map text_arc_for l)
  text-arcs-fit [] f = tt
  text-arcs-fit (x ∷ l) f =
      let g : ArcFits n k x = f 0 (omega arith) in (
        record {
          modes = record {
            from_some = omega arith;
            from_most = omega (arith, g.source);
            to_some = omega arith;
            to_most = omega (arith, g.target);
          };
          weight = weight-small x.draw x.gain g.draw_fits g.gain_fits;
        },
        text-arcs-fit l (λ a h. f (suc a) (omega arith)),
      )

  arc-back : (x : Arc) → k ≤ colours_most → ArcFits n k x → (x.draw ≡ 0) ⊎ (x.gain ≡ 0) → x.action ≡ 0 → arc_read (edge_for x) (text_arc_for x) ≡ x
  arc-back x few g one none =
      let low : x.colours < 2 ^ colours_most = (colours-below x.colours colours_most).1 (λ j h. g.colours j (omega arith)) in
      arc-by x refl refl (draw-back x.draw x.gain) (gain-back x.draw x.gain one) (byte-back x.colours low) (sym none)

  -- and reads back
  pub arcs-back : (l : List Arc) → k ≤ colours_most → ((a : ℕ) → a < length l → ArcFits n k (get_or l a no_arc))
      → ((a : ℕ) → a < length l → ((get_or l a no_arc).draw ≡ 0) ⊎ ((get_or l a no_arc).gain ≡ 0))
      → ((a : ℕ) → a < length l → (get_or l a no_arc).action ≡ 0)
      → arcs_read (map edge_for l) (map text_arc_for l) ≡ l
  unfolding arcs_read
  arcs-back [] few f one none = refl
  arcs-back (x ∷ l) few f one none =
      let later = arcs-back l few (λ a h. f (suc a) (omega arith)) (λ a h. one (suc a) (omega arith)) (λ a h. none (suc a) (omega arith)) in
      rw (arc-back x few (f 0 (omega arith)) (one 0 (omega arith)) (none 0 (omega arith))) (ap {B = List Arc} (λ (t : List Arc). x ∷ t) later)
