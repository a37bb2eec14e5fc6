-- The criterion: a net has an accepted feasible lasso exactly where a cycle from some peak keeps the peak and meets every duty. So the
-- further iterations of document 001, Algorithm 1, lines 10 to 19, are not needed. Assumes nothing.
use mathlib.Core.Path.{◌≡◌, refl}
use mathlib.Core.List.{List, [], ◌∷◌, ◌++◌, map}
use mathlib.Core.Logic.{⊎_elim, ◌↔◌}
use Prim.Native.Nat.{ℕ, suc, pred, ◌≤◌, ◌<◌}
use native.Mathlib.Omega.{arith}
use Rattle.walks.specs.Moves.{charge, Possible, Keeps}
use Rattle.walks.proofs.Rounds.{keeps-forever}
use Rattle.walks.proofs.Merge.{turned, keeps-above}
use Rattle.nets.specs.Graph.{moves}
use Rattle.nets.specs.Net.{Net, Usable, Fits, MeetsAll, Cycle, AcceptedLasso}
use Rattle.nets.specs.Table.{Reached, Peaks, KeptCycle, PeakCycle}
use Rattle.nets.proofs.Leads.{moves-append, leads-usable, leads-bound}
use Rattle.nets.proofs.Cycles.{meets-turned, cycle-turned, lasso-possible}
use Rattle.nets.proofs.Levels.{level-bound}
use Rattle.nets.proofs.Tables.{reached-below, reached-on, table-bound}
use Rattle.nets.proofs.Kept.{lasso-kept}

-- a walk to mode s with charge e, and a cycle from s that keeps e, are a lasso: the walk is its prefix
unfoldable pub reached-lasso : (g : Net) (b c s e : ℕ) → Reached g (Usable g) 0 b g.start c 0 s e → KeptCycle g b s e → AcceptedLasso g b c
reached-lasso g b c s e r k =
    record {
      prefix = r.arcs;
      cycle = k.arcs;
      mode = s;
      leads_in = r.leads;
      closed = k.closed;
      possible =
          (lasso-possible g.graph b c r.arcs k.arcs).1
          (r.possible, rw r.reaches (keeps-forever b (moves g.graph k.arcs) e k.keeps));
      meets = k.meets;
    }

-- a split of a mapped list is a split of the list
split-map : {A B : Type 0} (f : A → B) (l : List A) (v u : List B) → map f l ≡ v ++ u
    → (v' u' : List A) × (l ≡ v' ++ u') × (map f v' ≡ v) × (map f u' ≡ u)
split-map f l [] u h = ([], l, refl, refl, h)
split-map f [] (x ∷ v) u h = absurd (let z : ◌≡◌ {A = ℕ} 0 1 = cc in omega arith)
split-map f (a ∷ l) (x ∷ v) u h =
    let (v', u', s, hv, hu) = split-map f l v u (cc) in
    let q : f a ≡ x = cc in
    (a ∷ v', u', cc, cc, hu)

module _ (g : Net) (b c : ℕ) (high : ℕ → ℕ → ℕ) (fits : Fits g) (hc : c ≤ b) (peaks : Peaks g b c high) where
  -- a cycle from a peak z whose first part brings the charge to b, begun after that part, is a cycle from the peak b
  at_bound : (s z : ℕ) (v u : List ℕ) → s < g.modes → high 0 s ≡ suc z → Cycle g s (v ++ u) → MeetsAll g (v ++ u)
      → Possible b (moves g.graph v) z → charge b (moves g.graph v) z ≡ b
      → Possible b (moves g.graph u ++ moves g.graph v) b → charge b (moves g.graph u ++ moves g.graph v) b ≡ b
      → PeakCycle g b high
  at_bound s z v u hs h r m pv cv pr cr =
      let (t, d, k) = cycle-turned g v u s r in
      let d' = leads-usable g v s t d in
      let ht = leads-bound g fits v s t hs d' in
      let x =
      reached-on g (Usable g) 0 b g.start c 0 0 s t z b v (peaks.attained 0 s z (omega arith) hs h) d'
      (omega (arith, level-bound g 0 v 0 (omega arith)))
      pv cv
      in
      let low = reached-below g (Usable g) 0 b g.start c high peaks.closed 0 t b x in
      record {
        mode = t;
        peak = b;
        bounded = ht;
        listed = omega (arith, table-bound g (Usable g) 0 b g.start c high hc peaks 0 t (omega arith) ht);
        cycle =
            record { arcs = u ++ v; closed = k; meets = meets-turned g v u m; keeps = rw (moves-append g.graph u v) (pr, omega arith) };
      }

  -- a cycle that falls from the peak z to a charge that it keeps passes through b, and is begun there
  from-fall : (s z : ℕ) (w : List ℕ) → s < g.modes → high 0 s ≡ suc z → Cycle g s w → MeetsAll g w → charge b (moves g.graph w) z < z
      → Possible b (moves g.graph w) (charge b (moves g.graph w) z)
      → charge b (moves g.graph w) (charge b (moves g.graph w) z) ≡ charge b (moves g.graph w) z → PeakCycle g b high
  from-fall s z w hs h r m f p q =
      let (v', u', e, pv, cv, pr, cr) = turned b (moves g.graph w) (charge b (moves g.graph w) z) z f p q refl in
      let (v, u, e', ev, eu) = split-map g.graph.move w v' u' e in
      at_bound s z v u hs h (rw e' at r) (rw e' at m) (rw ev pv) (rw ev cv) (rw (ev, eu) pr) (rw (ev, eu) cr)

  -- a cycle that keeps some charge up to a peak keeps the peak too, or falls from it to a charge that it keeps
  from-kept : (s e z : ℕ) (w : List ℕ) → s < g.modes → high 0 s ≡ suc z → e ≤ z → Cycle g s w → MeetsAll g w
      → Keeps b (moves g.graph w) e → PeakCycle g b high
  from-kept s e z w hs h hz r m k =
      let top = table-bound g (Usable g) 0 b g.start c high hc peaks 0 s (omega arith) hs in
      ⊎_elim
      (λ k'. record { mode = s; peak = z; bounded = hs; listed = h; cycle = record { arcs = w; closed = r; meets = m; keeps = k' } })
      (λ f. from-fall s z w hs h r m f.0 f.1 f.2)
      (keeps-above b (moves g.graph w) e z k hz (omega arith))

  -- the cycle of a lasso keeps a charge with which its mode is reached, so one up to the peak
  to-peak : AcceptedLasso g b c → PeakCycle g b high
  to-peak p =
      let l = lasso-kept g b c hc p in
      let s = l.mode in
      let r = l.reached in
      let k = l.kept in
      let hs = leads-bound g fits r.arcs g.start s fits.starts r.leads in
      let h = reached-below g (Usable g) 0 b g.start c high peaks.closed 0 s l.charged r in
      from-kept s l.charged (pred (high 0 s)) k.arcs hs (omega arith) (omega arith) k.closed k.meets k.keeps

  -- a peak is reached by a walk: the prefix
  from-peak : PeakCycle g b high → AcceptedLasso g b c
  from-peak k =
      reached-lasso g b c k.mode k.peak (peaks.attained 0 k.mode k.peak (omega arith) k.bounded k.listed) k.cycle

  -- an accepted feasible lasso is there exactly where a cycle from some peak keeps the peak and meets every duty
  pub criterion : AcceptedLasso g b c ↔ PeakCycle g b high
  criterion = (to-peak, from-peak)
