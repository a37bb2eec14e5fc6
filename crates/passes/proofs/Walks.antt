-- The queue of a pass in the words of nets: the arcs read back from it are walks, every entry has such arcs, and the table that the pass
-- leaves is the table of the greatest charges. Assumes nothing.
use mathlib.Core.Path.{◌≡◌, refl, sym, ap, subst, ◌∙◌}
use mathlib.Core.Bool.{true}
use mathlib.Core.List.{List, [], ◌∷◌}
use mathlib.Core.Logic.{◌↔◌}
use Prim.Native.Nat.{ℕ, ◌+◌, ◌/◌, ◌%◌, ◌<◌}
use native.Mathlib.Nat.{div-eq_of_lt, mod-eq_of_lt}
use native.Mathlib.Omega.{arith}
use lib.ListN.{get_or}
use Rattle.walks.specs.BoundedStep.{after}
use Rattle.walks.specs.Moves.{charge, Possible}
use Rattle.nets.specs.Graph.{moves, Leads}
use Rattle.nets.specs.Net.{Usable, Fits}
use Rattle.nets.specs.Table.{next, level, Closed, Reached}
use Rattle.passes.specs.Pass.{Pass, node}
use Rattle.passes.specs.Queue.{node_at, charge_at, Made, Covers, Begun}
use Rattle.passes.specs.Trace.{Traced, here, there}
use Rattle.passes.proofs.Nodes.{node-first}
use Rattle.passes.proofs.Traces.{traced-le}
use Rattle.passes.proofs.Steps.{Taken, along-taken, arc-along}

module _ (P : Pass) (fits : Fits P.net) (usable : (a : ℕ) → a < P.net.count → P.ok a ≡ true → Usable P.net a) (ok : ℕ → Type 0)
    (ok-known : (a : ℕ) → ok a ↔ ((a < P.net.count) × (P.ok a ≡ true))) where
  -- the arcs are a walk of possible steps from entry j to entry i
  record Run (w : List ℕ) (i j : ℕ) (arcs : List ℕ) : Type 0 where
    pub leads : Leads P.net.graph ok (node_at w j % P.net.modes) arcs (node_at w i % P.net.modes)
    pub levels : level P.net P.last (node_at w j / P.net.modes) arcs ≡ node_at w i / P.net.modes
    pub possible : Possible P.bound (moves P.net.graph arcs) (charge_at w j)
    pub reaches : charge P.bound (moves P.net.graph arcs) (charge_at w j) ≡ charge_at w i

  run_none : (w : List ℕ) (i : ℕ) → Run w i i []
  run_none w i = record { leads = refl; levels = refl; possible = tt; reaches = refl }

  run_more : {w : List ℕ} {i j p a : ℕ} {arcs : List ℕ} → Taken P a (node_at w p) (charge_at w p) (node_at w j) (charge_at w j)
      → Run w i j arcs → Run w i p (a ∷ arcs)
  run_more {a = a} {arcs = arcs} d r =
      record {
        leads = ((ok-known a).1 (d.known, d.allowed), d.leaves, rw d.enters r.leads);
        levels = rw d.rises r.levels;
        possible = (d.possible, rw d.left r.possible);
        reaches = ap {B = ℕ} (λ (y : ℕ). charge P.bound (moves P.net.graph arcs) y) d.left ∙ r.reaches;
      }

  -- the arcs that lead from entry j to entry i are such a walk
  traced-run : {w : List ℕ} {tail i j : ℕ} {arcs : List ℕ} → ((m : ℕ) → 0 < m → m < tail → Made P w m) → i < tail → Traced w i j arcs
      → Run w i j arcs
  traced-run {w} {i = i} made h (here {j = j} e) = subst (λ (m : ℕ). Run w i m []) (sym e) (run_none w i)
  traced-run {w} {tail} {i} made h (there {j = j} pos ep ea t) =
      let q = traced-le w tail (λ m h0 h1. (made m h0 h1).back) h t in
      run_more (rw (ep, ea) (along-taken P fits usable (made j pos (omega arith)).step)) (traced-run made h t)

  module _ (m c : ℕ) (best w : List ℕ) (tail : ℕ) (hm : m < P.net.modes) (begun : Begun P m c best w tail) where
    -- the arcs that lead to entry i come to its level, mode and charge
    pub traced-reached : (i l t x : ℕ) (arcs : List ℕ) → i < tail → node_at w i / P.net.modes ≡ l → node_at w i % P.net.modes ≡ t → charge_at w i ≡ x
        → Traced w i 0 arcs → (r : Reached P.net ok P.last P.bound m c l t x) × (r.arcs ≡ arcs)
    traced-reached i l t x arcs h el et ex d =
        let r = traced-run begun.queue.made h d in
        let z : node_at w 0 / P.net.modes ≡ 0 = rw begun.node (div-eq_of_lt hm) in
        let y : node_at w 0 % P.net.modes ≡ m = rw begun.node (mod-eq_of_lt hm) in (
          record {
            arcs = arcs;
            leads = rw (y, et) at r.leads;
            levels = rw (z, el) at r.levels;
            possible = rw begun.charge at r.possible;
            reaches = rw (begun.charge, ex) at r.reaches;
          },
          refl,
        )

    -- a table whose greatest charges are all covered is closed
    pub covered-closed : ((v x : ℕ) → get_or best v 0 ≡ x + 1 → (a : ℕ) → Covers P best a v x)
        → Closed P.net ok P.last P.bound m c (λ l t. get_or best (node P.net.modes l t) 0)
    covered-closed covers =
        record {
          begins = rw (node-first P.net.modes m) (omega (arith, begun.begun));
          steps = λ l a x hl ha q hd.
              let g = P.net.graph in
              let u = node P.net.modes (next P.net P.last l a) (g.target a) in
              let y = after P.bound (g.move a) x in
              let d = arc-along P fits usable a l x ((ok-known a).0 ha).0 ((ok-known a).0 ha).1 hd in
              omega (arith, (covers (node P.net.modes l (g.source a)) x (omega arith) a).knows u y d);
        }
