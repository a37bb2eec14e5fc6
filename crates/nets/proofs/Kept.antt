-- Kept cycles: the cycle of a lasso keeps a charge with which its mode is reached; and a mode has a cycle that keeps a charge and meets
-- every duty exactly where a walk through every level leads back to it, no lower. Assumes nothing.
use mathlib.Core.Path.{refl}
use mathlib.Core.Logic.{⊎_elim}
use Prim.Native.Nat.{ℕ, suc, ◌≤◌, ◌<◌}
use native.Mathlib.Omega.{arith}
use lib.ListN.{length, length-append}
use Rattle.walks.specs.Walk.{times}
use Rattle.walks.specs.Moves.{charge}
use Rattle.walks.proofs.Charges.{charge-bound}
use Rattle.walks.proofs.Rounds.{keeps-forever, kept-times, two-rounds}
use Rattle.nets.specs.Graph.{moves}
use Rattle.nets.specs.Net.{Net, Usable, Lasts, AcceptedLasso}
use Rattle.nets.specs.Table.{Reached, KeptCycle}
use Rattle.nets.proofs.Leads.{moves-times, leads-times, leads-usable}
use Rattle.nets.proofs.Levels.{level-bound, passed-met, times-level}
use Rattle.nets.proofs.Cycles.{lasso-possible}
use Rattle.nets.proofs.Tables.{reached-on}

-- a walk from the start mode to a mode with a charge, and a cycle from there that keeps the charge
pub record ReachedKept (g : Net) (b c : ℕ) : Type 0 where
  pub mode : ℕ
  pub charged : ℕ
  pub reached : Reached g (Usable g) 0 b g.start c 0 mode charged
  pub kept : KeptCycle g b mode charged

-- a lasso has both: its cycle keeps the charge with which its first round begins, or its second
pub lasso-kept : (g : Net) (b c : ℕ) → c ≤ b → AcceptedLasso g b c → ReachedKept g b c
lasso-kept g b c hc p =
    let u = p.prefix in
    let w = p.cycle in
    let s = p.mode in
    let (pu, fw) = (lasso-possible g.graph b c u w).0 p.possible in
    let e = charge b (moves g.graph u) c in
    let e' = charge b (moves g.graph w) e in
    let (pw, q) = (two-rounds b (moves g.graph w) e (charge-bound b (moves g.graph u) c hc)).0 fw in
    let r : Reached g (Usable g) 0 b g.start c 0 s e =
    record { arcs = u; leads = p.leads_in; levels = omega (arith, level-bound g 0 u 0 (omega arith)); possible = pu; reaches = refl }
    in
    let r' =
    reached-on g (Usable g) 0 b g.start c 0 0 s s e e' w r (leads-usable g w s s p.closed.leads)
    (omega (arith, level-bound g 0 w 0 (omega arith)))
    pw refl
    in
    ⊎_elim
    (λ k. record { mode = s; charged = e; reached = r; kept = record { arcs = w; closed = p.closed; meets = p.meets; keeps = (pw, k) } })
    (λ k. record { mode = s; charged = e'; reached = r'; kept = record { arcs = w; closed = p.closed; meets = p.meets; keeps = k } })
    q

-- a walk of at least one arc, over arcs that last, from mode s with charge e back to s in the last level, no lower than e
pub record Returned (g : Net) (b s e : ℕ) : Type 0 where
  pub charged : ℕ
  pub reached : Reached g (Lasts g) g.duties b s e g.duties s charged
  pub has_arc : 0 < length reached.arcs
  pub no_lower : e ≤ charged

module _ (g : Net) (b s e : ℕ) where
  -- one more repetition of a kept cycle than there are duties passes through every level
  pub kept-returned : KeptCycle g b s e → Returned g b s e
  kept-returned t =
      let n = suc g.duties in
      let w = t.arcs in
      let m = moves-times g.graph n w in
      record {
        charged = charge b (moves g.graph (times n w)) e;
        reached =
            record {
              arcs = times n w;
              leads = leads-times g.graph (Lasts g) w s t.closed.leads n;
              levels = omega (arith, times-level g w t.meets n 0 (omega arith), level-bound g g.duties (times n w) 0 (omega arith));
              possible = rw m (keeps-forever b (moves g.graph w) e t.keeps n);
              reaches = refl;
            };
        has_arc = omega (arith, t.closed.has_arc, length-append w (times g.duties w));
        no_lower = rw m (kept-times b (moves g.graph w) e n t.keeps.1);
      }

  -- and such a walk is a kept cycle
  unfoldable pub returned-kept : Returned g b s e → KeptCycle g b s e
  returned-kept r =
      let k = r.reached in
      record {
        arcs = k.arcs;
        closed = record { has_arc = r.has_arc; leads = k.leads };
        meets = λ j h. passed-met g g.duties k.arcs 0 j (omega arith) (omega (arith, k.levels));
        keeps = (k.possible, omega (arith, k.reaches, r.no_lower));
      }
