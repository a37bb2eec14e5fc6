-- The decision: a cycle from a mode that keeps a charge and meets every duty is there exactly where the tour has an arc that closes it; so,
-- with the peaks and the tours from them, a net has an accepted feasible lasso exactly where some tour has such an arc. Assumes nothing.
use mathlib.Core.Path.{◌≡◌, refl}
use mathlib.Core.List.{List, [], ◌∷◌}
use mathlib.Core.Logic.{◌↔◌}
use Prim.Native.Nat.{ℕ, suc, pred, ◌≤◌, ◌<◌}
use native.Mathlib.Omega.{arith}
use lib.ListN.{length, length-append}
use Rattle.walks.specs.BoundedStep.{after}
use Rattle.walks.specs.Moves.{charge, Possible}
use Rattle.nets.specs.Graph.{moves, Leads}
use Rattle.nets.specs.Net.{Net, Lasts, Fits, AcceptedLasso}
use Rattle.nets.specs.Table.{next, level, Closed, Reached, Peaks, Tour, Tours, KeptCycle, ClosingArc, PeakClosed}
use Rattle.nets.proofs.Levels.{next-bound}
use Rattle.nets.proofs.Tables.{reached-on}
use Rattle.nets.proofs.Kept.{kept-returned, returned-kept}
use Rattle.nets.proofs.Criterion.{criterion}

module _ (g : Net) (b s e : ℕ) (high : ℕ → ℕ → ℕ) where
  -- where a walk from below an entry ends in the last level, at s, no lower than e, its last arc closes a cycle
  pub last-closed : Closed g (Lasts g) g.duties b s e high → (w : List ℕ) (l m y : ℕ) → l ≤ g.duties → y < high l m → 0 < length w
      → Leads g.graph (Lasts g) m w s → Possible b (moves g.graph w) y → level g g.duties l w ≡ g.duties
      → e ≤ charge b (moves g.graph w) y → ClosingArc g b s e high
  last-closed k [] l m y hl h n d p q r = absurd (omega arith)
  last-closed k (a ∷ []) l m y hl h n d p q r =
      record {
        from = l;
        arc = a;
        charged = pred (high l m);
        bounded = hl;
        lasts = d.0;
        listed = rw d.1 (omega arith);
        possible = omega arith;
        last = q;
        back = d.2;
        kept = omega arith;
      }
  last-closed k (a ∷ c ∷ w) l m y hl h n d p q r =
      let z : high l (g.graph.source a) ≡ suc (pred (high l m)) = rw d.1 (omega arith) in
      last-closed k (c ∷ w) (next g g.duties l a) (g.graph.target a) (after b (g.graph.move a) y) (next-bound g g.duties l a hl)
      (omega (arith, k.steps l a (pred (high l m)) hl d.0 z (omega arith)))
      (omega arith) d.2 p.1 q r

  -- a kept cycle, repeated, is such a walk from the mode and the charge of the tour
  pub kept-closed : Closed g (Lasts g) g.duties b s e high → KeptCycle g b s e → ClosingArc g b s e high
  kept-closed k t =
      let r = kept-returned g b s e t in
      let w = r.reached in
      last-closed k w.arcs 0 s e (omega arith) k.begins r.has_arc w.leads w.possible w.levels
      (omega (arith, w.reaches, r.no_lower))

  -- a walk to the entry of a closing arc, with that arc, is a kept cycle
  unfoldable pub closed-kept : (h : ClosingArc g b s e high) → Reached g (Lasts g) g.duties b s e h.from (g.graph.source h.arc) h.charged
      → KeptCycle g b s e
  unfolding reached-on returned-kept
  closed-kept h t =
      let m = g.graph.source h.arc in
      let x = h.arc ∷ [] in
      let y = after b (g.graph.move h.arc) h.charged in
      returned-kept g b s e (record {
        charged = y;
        reached =
            reached-on g (Lasts g) g.duties b s e h.from g.duties m s h.charged y x t (h.lasts, refl, h.back) h.last
            (h.possible, tt) refl;
        has_arc = omega (arith, length-append t.arcs x);
        no_lower = h.kept;
      })

  -- a cycle from s keeps e and meets every duty exactly where the tour from s with e has a closing arc
  pub kept-cycle-closed : Fits g → Tour g b s e high → KeptCycle g b s e ↔ ClosingArc g b s e high
  kept-cycle-closed f k = (
    kept-closed k.closed,
    λ h.
        closed-kept h
        (k.attained h.from (g.graph.source h.arc) h.charged h.bounded (f.sources h.arc h.lasts.0) h.listed),
  )

-- the whole decision
pub decides : (g : Net) (b c : ℕ) (high : ℕ → ℕ → ℕ) (tour : ℕ → ℕ → ℕ → ℕ) → Fits g → c ≤ b → Peaks g b c high → Tours g b high tour
    → AcceptedLasso g b c ↔ PeakClosed g b high tour
decides g b c high tour f hc k t =
    let d = criterion g b c high f hc k in (
      λ p.
          let r = d.0 p in
          record {
            mode = r.mode;
            peak = r.peak;
            bounded = r.bounded;
            listed = r.listed;
            closes = (kept-cycle-closed g b r.mode r.peak (tour r.mode) f (t r.mode r.peak r.bounded r.listed)).0 r.cycle;
          },
      λ h.
          d.1 (record {
            mode = h.mode;
            peak = h.peak;
            bounded = h.bounded;
            listed = h.listed;
            cycle = (kept-cycle-closed g b h.mode h.peak (tour h.mode) f (t h.mode h.peak h.bounded h.listed)).1 h.closes;
          }),
    )
