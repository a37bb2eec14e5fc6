-- Finite runs of a graph: their moves, append, repetition, other arcs allowed; and that a run of a net stays in its modes.
-- Assumes nothing.
use mathlib.Core.Path.{◌≡◌, refl}
use mathlib.Core.List.{List, [], ◌∷◌, ◌++◌, map-append}
use mathlib.Core.Logic.{◌↔◌}
use Prim.Native.Nat.{ℕ, zero, suc, ◌<◌}
use Rattle.walks.specs.Walk.{times}
use Rattle.walks.proofs.Walks.{map-times}
use Rattle.nets.specs.Graph.{Graph, moves, Leads}
use Rattle.nets.specs.Net.{Net, Usable, Lasts, Fits}

module _ (g : Graph) where
  -- the moves of two lists joined
  pub moves-append : (u v : List ℕ) → moves g (u ++ v) ≡ moves g u ++ moves g v
  moves-append u v = map-append g.move u v

  -- the moves of a list repeated
  pub moves-times : (r : ℕ) (w : List ℕ) → moves g (times r w) ≡ times r (moves g w)
  moves-times r w = map-times g.move r w

  module _ (ok : ℕ → Type 0) where
    -- a run over two lists is two runs that meet in some mode
    pub leads-append : (u v : List ℕ) (s t : ℕ) → Leads g ok s (u ++ v) t ↔ ((m : ℕ) × Leads g ok s u m × Leads g ok m v t)
    leads-append [] v s t = (λ h. (s, refl, h), λ h. rw h.1 h.2)
    leads-append (a ∷ u) v s t =
        let ih = leads-append u v (g.target a) t in
        (λ h. let (m, p, q) = ih.0 h.2 in (m, (h.0, h.1, p), q), λ h. (h.1.0, h.1.1, ih.1 (h.0, h.1.2, h.2)))

    -- a closed run can be repeated
    pub leads-times : (w : List ℕ) (s : ℕ) → Leads g ok s w s → (r : ℕ) → Leads g ok s (times r w) s
    leads-times w s h zero = refl
    leads-times w s h (suc r) = (leads-append w (times r w) s s).1 (s, h, leads-times w s h r)

  -- a run over arcs that are ok is one over arcs that are fine, where what is ok is fine
  pub leads-weaken : (ok fine : ℕ → Type 0) → ((a : ℕ) → ok a → fine a) → (w : List ℕ) (s t : ℕ) → Leads g ok s w t → Leads g fine s w t
  leads-weaken ok fine f [] s t h = h
  leads-weaken ok fine f (a ∷ w) s t h = (f a h.0, h.1, leads-weaken ok fine f w (g.target a) t h.2)

module _ (g : Net) where
  -- arcs that last are usable
  pub leads-usable : (w : List ℕ) (s t : ℕ) → Leads g.graph (Lasts g) s w t → Leads g.graph (Usable g) s w t
  leads-usable w s t h = leads-weaken g.graph (Lasts g) (Usable g) (λ a k. k.0) w s t h

  -- a run from a mode of a net that fits leads to a mode of it
  pub leads-bound : Fits g → (w : List ℕ) (s t : ℕ) → s < g.modes → Leads g.graph (Usable g) s w t → t < g.modes
  leads-bound f [] s t h d = rw (← d) h
  leads-bound f (a ∷ w) s t h d = leads-bound f w (g.graph.target a) t (f.targets a d.0) d.2
