-- How much is lost: by a step of a fit model at most the greatest gain, so by a walk at most that for each of its steps. Assumes nothing.
use Rattle.std.specs.Prelude.{Ok}
use mathlib.Core.Path.{◌≡◌}
use mathlib.Core.List.{List, [], ◌∷◌}
use Prim.Native.Nat.{ℕ, ◌*◌, ◌≤◌, ◌<◌}
use native.Mathlib.Omega.{arith}
use lib.ListN.{length}
use Rattle.limits.specs.Ceilings.{gain_most}
use Rattle.walks.specs.BoundedStep.{to, stepped}
use Rattle.walks.specs.Walk.{Ends}
use Rattle.walks.specs.Spill.{spilled}
use Rattle.walks.proofs.Walks.{walked-cons}
use Rattle.walks.proofs.Charges.{stepped-bound}
use Rattle.walks.proofs.Spill.{step-loss, spilled-cons}
use Rattle.model.specs.Automaton.{Automaton, arc_at, move_of, moves_of}
use Rattle.model.specs.Lists.{Lists, automaton_of}
use Rattle.model.specs.Fitness.{fitness}
use Rattle.model.specs.Plans.{Leads, walked_arcs}
use Rattle.model.proofs.Fitness.{fitness-yes}

module _ (n s k : ℕ) (l : Lists) (b : ℕ) (fit : fitness n s k l ≡ Ok tt) where
  abbrev g : Automaton
  g = automaton_of n s k l

  arc-loss : (a e x u : ℕ) → e ≤ b → a < length g.arcs → stepped b (move_of (arc_at g a)) e ≡ to x u → u ≤ gain_most
  arc-loss a e x u h below to =
      omega (arith, step-loss b (move_of (arc_at g a)) e x u h to, (((fitness-yes n s k l).0 fit).1.arcs_fit a below).gain_fits)

  pub spilled-most : (w : List ℕ) (m e t x : ℕ) → e ≤ b → Leads g m w t → walked_arcs g b w e ≡ Ends x → spilled b (moves_of g w) e ≤ length w * gain_most
  unfolding spilled
  spilled-most [] m e t x h leads q = omega arith
  spilled-most (a ∷ w) m e t x h (below, source, leads) q =
      let f = move_of (arc_at g a) in
      let (y, lost, to, r) = (walked-cons b f (moves_of g w) e x).0 q in
      let little = arc-loss a e y lost h below to in
      let rest = spilled-most w (arc_at g a).target y t x (stepped-bound b f e y lost h to) leads r in
      omega (arith, spilled-cons b f (moves_of g w) e y lost to)
