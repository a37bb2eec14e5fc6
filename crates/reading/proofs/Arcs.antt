-- The arcs that are read: there are as many as edges and `a` lines, their colour bytes say the colours in the braces, and 5 can only find their
-- weights. Assumes nothing.
use mathlib.Core.Path.{◌≡◌, refl, ap, ◌∙◌}
use mathlib.Core.Bool.{true, false, ◌||◌, and-false, or-false}
use mathlib.Core.List.{List, [], ◌∷◌, map}
use Prim.Native.Nat.{ℕ, suc, ◌^◌, ◌≤◌}
use native.Mathlib.Omega.{arith}
use lib.Dec.{ltb}
use lib.ListN.{length}
use borrow.Author.Tests.{lt-leb, ne_eqb}
use Rattle.limits.specs.Ceilings.{colours_most, draw_most, gain_most}
use Rattle.refusals.proofs.Verdicts.{clash}
use Rattle.walks.specs.Weights.{draw_of, gain_of}
use Rattle.model.specs.Automaton.{bit}
use Rattle.model.specs.Fitness.{unfit_arc, arcs_verdict}
use Rattle.model.proofs.Bits.{colours-below}
use Rattle.fields.proofs.Numbers.{both}
use Rattle.hoa.specs.Text.{Edge, contains, colour_byte}
use Rattle.hoa.specs.Edges.{Below, EdgeFits, EdgesFit}
use Rattle.hoa.proofs.Colours.{colour-bit}
use Rattle.dimacs.specs.Text.{TextArc, text_arc_on}
use Rattle.reading.specs.Agreement.{same_ends, all_same}
use Rattle.reading.specs.ModelRead.{arc_read, arcs_read}
use Rattle.reading.specs.Within.{out_of_range, weights_verdict}

-- texts that agree have as many edges as `a` lines
pub same_length : (es : List Edge) (ts : List TextArc) → all_same es ts ≡ true → length es ≡ length ts
unfolding all_same
same_length [] [] e = refl
same_length [] (a ∷ ts) e = clash (cc)
same_length (x ∷ es) [] e = clash (cc)
same_length (x ∷ es) (a ∷ ts) e = ap {B = ℕ} suc (same_length es ts (both (same_ends x a) (all_same es ts) e).1)

-- and as many arcs
pub read_length : (es : List Edge) (ts : List TextArc) → length es ≡ length ts → length (arcs_read es ts) ≡ length ts
unfolding arcs_read
read_length [] [] e = refl
read_length [] (a ∷ ts) e = absurd (omega arith)
read_length (x ∷ es) [] e = absurd (omega arith)
read_length (x ∷ es) (a ∷ ts) e = ap {B = ℕ} suc (read_length es ts (omega arith))

-- a list of colours below k has none at or above it
pub none_above : (k j : ℕ) (cs : List ℕ) → Below k cs → k ≤ j → contains j cs ≡ false
unfolding contains
none_above k j [] h q = refl
none_above k j (c ∷ cs) h q = rw (ne_eqb j c (λ e. omega (arith, h.0)), none_above k j cs h.1 q) refl

module _ (n k : ℕ) (e : Edge) (a : TextArc) (fits : EdgeFits n k e) where
  -- the colours of an edge's arc are below k
  no-colour : (j : ℕ) → k ≤ j → bit (colour_byte e.colours) j ≡ false
  no-colour j h = colour-bit e.colours j ∙ rw (none_above k j e.colours fits.colours h) (and-false (ltb j colours_most))

  -- so an arc is unfit by its weight alone
  pub weight-five : unfit_arc n (2 ^ k) (arc_read e a) ≡ (ltb draw_most (draw_of a.weight) || ltb gain_most (gain_of a.weight))
  unfolding unfit_arc
  weight-five =
      let above = ltb draw_most (draw_of a.weight) || ltb gain_most (gain_of a.weight) in
      rw (
        lt-leb n e.source fits.source,
        lt-leb n e.target fits.target,
        lt-leb (2 ^ k) (colour_byte e.colours) ((colours-below (colour_byte e.colours) k).1 no-colour),
      ) (or-false (above || false) ∙ or-false above)

-- 5 of the arcs that are read is that of the `a` lines
pub weights-five : (n k : ℕ) (es : List Edge) (ls : List (List ℕ)) (i : ℕ) → length es ≡ length ls → EdgesFit n k es
    → arcs_verdict n (2 ^ k) (arcs_read es (map text_arc_on ls)) i ≡ weights_verdict ls i
unfolding arcs_read arcs_verdict weights_verdict out_of_range
weights-five n k [] [] i e f = refl
weights-five n k [] (l ∷ ls) i e f = absurd (omega arith)
weights-five n k (x ∷ es) [] i e f = absurd (omega arith)
weights-five n k (x ∷ es) (l ∷ ls) i e f =
    rw (weight-five n k x (text_arc_on l) f.0, weights-five n k es ls (suc i) (omega arith) f.1) refl
