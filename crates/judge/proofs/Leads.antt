-- Arcs lead on from one to the next exactly where refusals 12 and 13 let a list through. Assumes nothing.
use Rattle.std.specs.Prelude.{Ok}
use mathlib.Core.Path.{◌≡◌, refl}
use mathlib.Core.Bool.{not}
use mathlib.Core.List.{List, [], ◌∷◌}
use mathlib.Core.Logic.{◌↔◌}
use Prim.Native.Nat.{ℕ, suc}
use lib.Dec.{leb, eqb}
use lib.ListN.{length}
use Rattle.refusals.specs.declared.Refusal.TheVariants.{ArcNumber, OtherMode}
use Rattle.refusals.proofs.Verdicts.{refuse-yes}
use Rattle.refusals.proofs.Tests.{le-no, differ-no}
use Rattle.model.specs.Automaton.{Automaton, arc_at}
use Rattle.model.specs.Plans.{Leads}
use Rattle.judge.specs.Shape.{numbers, chain, mode_after}

module _ (g : Automaton) where
  -- arcs lead from s to t exactly where neither 12 nor 13 applies and t is the mode after them
  pub leads-chain : (w : List ℕ) (s t i : ℕ) → Leads g s w t
      ↔ ((numbers (length g.arcs) w i ≡ Ok tt) × (chain g s w i ≡ Ok tt) × (mode_after g s w ≡ t))
  unfolding numbers chain
  leads-chain [] s t i = (λ h. (refl, refl, h), λ h. h.2)
  leads-chain (a ∷ w) s t i =
      let m = length g.arcs in
      let row12 = refuse-yes (leb m a) (ArcNumber i) (numbers m w (suc i)) in
      let row13 = refuse-yes (not (eqb (arc_at g a).source s)) (OtherMode i) (chain g (arc_at g a).target w (suc i)) in
      let same = differ-no (arc_at g a).source s in
      let ih = leads-chain w (arc_at g a).target t (suc i) in (
        λ h. let (n, c, e) = ih.0 h.2 in (row12.1 ((le-no m a).1 h.0, n), row13.1 (same.1 h.1, c), e),
        λ (n, c, e). ((le-no m a).0 (row12.0 n).0, same.0 (row13.0 c).0, ih.1 ((row12.0 n).1, (row13.0 c).1, e)),
      )

  -- the mode that arcs lead to is the mode after them
  pub leads-mode : (w : List ℕ) (s t : ℕ) → Leads g s w t → mode_after g s w ≡ t
  leads-mode w s t h = ((leads-chain w s t 0).0 h).2
