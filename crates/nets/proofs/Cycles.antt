-- Cycles and lassos of a net: a cycle begun at another of its arcs is a cycle that meets the same duties; a lasso is possible where its
-- prefix is and then its cycle for ever, and stays possible with more charge and under a larger bound. Assumes nothing.
use mathlib.Core.Path.{◌≡◌, ap, ◌∙◌}
use mathlib.Core.List.{List, ◌++◌}
use mathlib.Core.Logic.{⊎_elim, ◌↔◌}
use Prim.Native.Nat.{ℕ, ◌≤◌}
use native.Mathlib.Omega.{arith}
use lib.ListN.{length-append}
use Rattle.walks.specs.Walk.{times}
use Rattle.walks.specs.BoundedStep.{Move}
use Rattle.walks.specs.Moves.{charge, Possible, Forever}
use Rattle.walks.proofs.Charges.{possible-append, possible-wider}
use Rattle.model.proofs.SomeArc.{some_left, some_right, some-append}
use Rattle.nets.specs.Graph.{Graph, moves, Leads}
use Rattle.nets.specs.Net.{Net, Lasts, MeetsAll, Cycle, AcceptedLasso}
use Rattle.nets.proofs.Leads.{moves-append, moves-times, leads-append}

module _ (g : Net) where
  -- begun elsewhere, a list meets the same duties
  pub meets-turned : (v u : List ℕ) → MeetsAll g (v ++ u) → MeetsAll g (u ++ v)
  meets-turned v u h j k = ⊎_elim (some_right (g.meets j) u v) (some_left (g.meets j) u v) (some-append (g.meets j) v u (h j k))

  -- and a cycle is closed there
  pub cycle-turned : (v u : List ℕ) (s : ℕ) → Cycle g s (v ++ u) → (m : ℕ) × Leads g.graph (Lasts g) s v m × Cycle g m (u ++ v)
  cycle-turned v u s h =
      let (m, p, q) = (leads-append g.graph (Lasts g) v u s s).0 h.leads in (
        m,
        p,
        record {
          has_arc = omega (arith, h.has_arc, length-append v u, length-append u v);
          leads = (leads-append g.graph (Lasts g) u v m m).1 (s, q, p);
        },
      )

-- every step of a prefix and a repeated cycle is possible exactly where the prefix is possible, and then the cycle for ever
pub lasso-possible : (g : Graph) (b c : ℕ) (u w : List ℕ)
    → ((r : ℕ) → Possible b (moves g (u ++ times r w)) c) ↔ (Possible b (moves g u) c × Forever b (moves g w) (charge b (moves g u) c))
lasso-possible g b c u w = (λ h. (((cut 0).0 (h 0)).0, λ r. ((cut r).0 (h r)).1), λ h r. (cut r).1 (h.0, h.1 r))
  where
    same : (r : ℕ) → moves g (u ++ times r w) ≡ moves g u ++ times r (moves g w)
    same r = moves-append g u (times r w) ∙ ap {B = List Move} (λ l. moves g u ++ l) (moves-times g r w)

    cut : (r : ℕ)
        → Possible b (moves g (u ++ times r w)) c ↔ (Possible b (moves g u) c × Possible b (times r (moves g w)) (charge b (moves g u) c))
    cut r = rw (same r) (possible-append b (moves g u) (times r (moves g w)) c)

-- a lasso stays one with more charge and under a larger bound
pub lasso-wider : (g : Net) (b b' c c' : ℕ) → b ≤ b' → c ≤ c' → AcceptedLasso g b c → AcceptedLasso g b' c'
lasso-wider g b b' c c' w h l =
    record {
      prefix = l.prefix;
      cycle = l.cycle;
      mode = l.mode;
      leads_in = l.leads_in;
      closed = l.closed;
      possible = λ r. possible-wider b b' (moves g.graph (l.prefix ++ times r l.cycle)) c c' w h (l.possible r);
      meets = l.meets;
    }
