-- What a pass that is ready has at the places of a mode: arcs of its net, which are on and leave the mode. Assumes nothing.
use mathlib.Core.Path.{◌≡◌}
use mathlib.Core.Bool.{true}
use Prim.Native.Nat.{ℕ, ◌<◌}
use native.Mathlib.Omega.{arith}
use Rattle.limits.specs.Ceilings.{arcs_most}
use Rattle.groups.specs.Grouped.{arc_placed, InGroup}
use Rattle.groups.proofs.Grouping.{group-place}
use Rattle.passes.specs.Pass.{Pass, Ready}

module _ {P : Pass} {m size s i : ℕ} (r : Ready P m size) (mode : s < P.net.modes) (p : InGroup P.places s i) where
  -- the place is one of the arcs'
  pub place-low : i < arcs_most
  place-low = omega (arith, group-place r.grouped mode p, r.few_arcs)

  -- the arc there is one of the net's ..
  pub place-known : arc_placed P.places i < P.net.count
  place-known = r.grouped.known s i mode p

  -- .. is on ..
  pub place-stands : P.net.on (arc_placed P.places i) ≡ true
  place-stands = r.grouped.stands s i mode p

  -- .. and leaves the mode
  pub place-leaves : P.net.graph.source (arc_placed P.places i) ≡ s
  place-leaves = r.grouped.leaves s i mode p
