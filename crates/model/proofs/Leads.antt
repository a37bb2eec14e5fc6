-- Where lists of arcs lead: two lists joined, a list cut in two, a list repeated. Assumes nothing.
use mathlib.Core.Path.{refl}
use mathlib.Core.List.{List, [], ◌∷◌, ◌++◌}
use mathlib.Core.Logic.{◌↔◌}
use Prim.Native.Nat.{ℕ, zero, suc}
use lib.ListN.{take, drop, take-append-drop}
use Rattle.walks.specs.Walk.{times}
use Rattle.model.specs.Automaton.{Automaton, arc_at}
use Rattle.model.specs.Plans.{Leads}

module _ (g : Automaton) where
  -- two lists joined lead from s to t by way of a mode where the first ends and the second begins
  pub leads-append : (u v : List ℕ) (s t : ℕ) → Leads g s (u ++ v) t ↔ ((m : ℕ) × Leads g s u m × Leads g m v t)
  leads-append [] v s t = (λ h. (s, refl, h), λ (m, e, h). rw e h)
  leads-append (a ∷ u) v s t =
      let ih = leads-append u v (arc_at g a).target t in (
        λ (below, q, h). let (m, p, r) = ih.0 h in (m, (below, q, p), r),
        λ (m, (below, q, p), r). (below, q, ih.1 (m, p, r)),
      )

  -- the same of one list, cut after its first p arcs
  pub leads-cut : (p : ℕ) (w : List ℕ) (s t : ℕ) → Leads g s w t ↔ ((m : ℕ) × Leads g s (take p w) m × Leads g m (drop p w) t)
  leads-cut p w s t = rw (take-append-drop p w) at (leads-append (take p w) (drop p w) s t)

  -- a list that leads back to its first mode does so repeated
  pub leads-times : (w : List ℕ) (s : ℕ) → Leads g s w s → (r : ℕ) → Leads g s (times r w) s
  leads-times w s h zero = refl
  leads-times w s h (suc r) = (leads-append w (times r w) s s).1 (s, h, leads-times w s h r)
