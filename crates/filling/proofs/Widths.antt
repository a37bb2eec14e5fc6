-- Arcs within the widths of the lists. Assumes nothing.
use mathlib.Core.Path.{subst}
use mathlib.Core.List.{List, ◌∷◌, ◌++◌}
use Prim.Native.Nat.{suc, ◌+◌}
use native.Mathlib.Omega.{arith}
use lib.ListN.{length, length-append, get_or-append}
use lib.Pow.{pow_mono}
use lib.Seq.{get_or-append-add}
use Rattle.model.specs.declared.Arc.{Arc}
use Rattle.model.specs.Automaton.{Automaton, no_arc, arc_at}
use Rattle.model.specs.Fitness.{Fit}
use Rattle.model.proofs.Bits.{colours-below}
use Rattle.filling.specs.Filling.{Narrow, AllNarrow}

-- the arcs of a fit model
pub fit-narrow : (g : Automaton) → Fit g → AllNarrow g.arcs
fit-narrow g fit a h =
    let f = fit.arcs_fit a h in
    let few = fit.few_modes in
    record {
      source = omega (arith, f.source);
      target = omega (arith, f.target);
      draw = omega (arith, f.draw_fits);
      gain = omega (arith, f.gain_fits);
      colours = omega (arith, (colours-below (arc_at g a).colours g.colours).1 f.colours, pow_mono fit.few_colours);
    }

-- the first of some arcs, and the others
pub narrow-first : (x : Arc) (l : List Arc) → AllNarrow (x ∷ l) → Narrow x
narrow-first x l n = n 0 (omega arith)

pub narrow-others : (x : Arc) (l : List Arc) → AllNarrow (x ∷ l) → AllNarrow l
narrow-others x l n a h = n (suc a) (omega arith)

-- two parts
module _ (u v : List Arc) (n : AllNarrow (u ++ v)) where
  pub narrow-left : AllNarrow u
  narrow-left a h = subst Narrow (get_or-append u v no_arc a h) (n a (omega (arith, length-append u v)))

  pub narrow-right : AllNarrow v
  narrow-right a h = subst Narrow (get_or-append-add u v a no_arc) (n (length u + a) (omega (arith, length-append u v)))
