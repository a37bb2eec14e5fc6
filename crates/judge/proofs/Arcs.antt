-- Lists of arc numbers of a model: where 12 and the shape do not apply, the parts of one, and the colours of its arcs. Assumes nothing.
use Rattle.std.specs.Prelude.{Ok}
use mathlib.Core.Path.{◌≡◌}
use mathlib.Core.List.{List}
use Prim.Native.Nat.{ℕ, ◌+◌, ◌-◌, ◌^◌, ◌≤◌, ◌<◌}
use native.Mathlib.Omega.{arith}
use lib.ListN.{length, get_or, take, drop, length-drop}
use lib.Seq.{get_or-take, get_or-drop, length-take-le, take_all}
use Rattle.limits.specs.Ceilings.{arcs_most, plan_most}
use Rattle.refusals.proofs.Verdicts.{and-then-yes}
use Rattle.model.specs.declared.Model.{Model}
use Rattle.model.specs.Automaton.{arc_at}
use Rattle.model.specs.Fitness.{Holds}
use Rattle.model.specs.Lists.{held}
use Rattle.model.proofs.Bits.{colours-below}
use Rattle.judge.specs.Shape.{length_of, numbers, chain, numbers_then_chain, closing, path, shape}
use Rattle.judge.specs.Judged.{ArcNumbers}
use Rattle.judge.proofs.Shapes.{length-yes, numbers-yes}

-- where 12 and 13 do not apply, the numbers are those of arcs of the model
pub path-arcs : (g : Model) → Holds g → (w : List ℕ) (s : ℕ) → numbers_then_chain (held g) s w 0 ≡ Ok tt → ArcNumbers g w
path-arcs g holds w s path =
    let numbered = ((and-then-yes (numbers (length (held g).arcs) w 0) (chain (held g) s w 0)).0 path).0 in
    let below = (numbers-yes (length (held g).arcs) w).0 numbered in
    record { few = omega (arith, holds.fit.few_arcs, holds.count); below = λ i h. omega (arith, below i h, holds.count) }

-- where 11 to 14 do not apply, too, and p of them are the prefix's
pub shape-arcs : (g : Model) → Holds g → (p q : ℕ) (w : List ℕ) → shape (held g) p q w ≡ Ok tt
    → ArcNumbers g w × (p ≤ length w) × (length w ≤ plan_most)
unfolding shape
shape-arcs g holds p q w shaped =
    let both = (and-then-yes (length_of p q (length w)) (path (held g) p w)).0 shaped in
    let long = (length-yes p q w).0 both.0 in
    let two = (and-then-yes (numbers_then_chain (held g) g.start w 0) (closing (held g) p w)).0 both.1 in
    (path-arcs g holds w g.start two.0, omega (arith, long.parts), long.short)

-- the part of a list from p on, as the code lends it
pub rest_part : (p : ℕ) (w : List ℕ) → take (length w - p) (drop p w) ≡ drop p w
rest_part p w = take_all (length w - p) (drop p w) (omega (arith, length-drop p w))

module _ (g : Model) (w : List ℕ) (arcs : ArcNumbers g w) where
  -- each is a place of the array in which the code holds the arcs; this pins both fields of ArcNumbers
  pub arcs-inside : (i : ℕ) → i < length w → get_or w i 0 < arcs_most
  arcs-inside i h = omega (arith, arcs.few, arcs.below i h)

  -- the first p of them are numbers of arcs too
  pub arcs-take : (p : ℕ) → p ≤ length w → ArcNumbers g (take p w)
  arcs-take p h =
      record {
        few = arcs.few;
        below = λ i q.
            let short : i < p = omega (arith, length-take-le p w h) in
            rw (get_or-take p w i 0 short) (arcs.below i (omega arith));
      }

  -- and the others
  pub arcs-drop : (p : ℕ) → ArcNumbers g (drop p w)
  arcs-drop p =
      record { few = arcs.few; below = λ i q. rw (get_or-drop p w i 0) (arcs.below (p + i) (omega (arith, length-drop p w))) }

  -- none of them has a colour at or above k
  pub arcs-coloured : Holds g → (i : ℕ) → i < length w → (arc_at (held g) (get_or w i 0)).colours < 2 ^ g.colours
  arcs-coloured holds i h =
      let fits = holds.fit.arcs_fit (get_or w i 0) (omega (arith, arcs.below i h, holds.count)) in
      (colours-below (arc_at (held g) (get_or w i 0)).colours g.colours).1 fits.colours
