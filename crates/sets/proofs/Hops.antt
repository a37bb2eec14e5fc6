-- Walks from member to member of a set: joined one to another they come round, so that some member has a cycle that keeps its charge. Assumes
-- nothing.
use mathlib.Core.Path.{◌≡◌}
use mathlib.Core.List.{List, ◌++◌}
use Prim.Native.Nat.{ℕ, zero, suc, pred, ◌≤◌, ◌<◌}
use native.Mathlib.Omega.{arith}
use native.Mathlib.Decide.{dec_le}
use lib.ListN.{length, length-append}
use Rattle.walks.specs.Moves.{charge, Possible}
use Rattle.walks.proofs.Charges.{charge-append, possible-append, charge-mono, possible-mono}
use Rattle.model.proofs.SomeArc.{some_left}
use Rattle.nets.specs.Graph.{moves, Leads}
use Rattle.nets.specs.Net.{Net, Lasts, MeetsAll}
use Rattle.nets.specs.Table.{KeptCycle}
use Rattle.nets.proofs.Leads.{moves-append, leads-append}
use Rattle.nets.proofs.Pigeonhole.{pigeonhole}
use Rattle.sets.specs.Sets.{KeptMember}

-- a walk of at least one arc, over arcs that last, that meets every duty and leads from mode s with charge e to mode t with y or more
pub record Hop (g : Net) (b s e t y : ℕ) : Type 0 where
  pub arcs : List ℕ
  pub has_arc : 0 < length arcs
  pub leads : Leads g.graph (Lasts g) s arcs t
  pub meets : MeetsAll g arcs
  pub possible : Possible b (moves g.graph arcs) e
  pub no_lower : y ≤ charge b (moves g.graph arcs) e

-- two of them joined: from more than it needs the second is possible, and ends no lower
hop-joined : (g : Net) (b s e t y u z : ℕ) → Hop g b s e t y → Hop g b t y u z → Hop g b s e u z
hop-joined g b s e t y u z h k =
    let v = moves g.graph h.arcs in
    let w = moves g.graph k.arcs in
    let m = moves-append g.graph h.arcs k.arcs in
    let p = possible-mono b w y (charge b v e) h.no_lower k.possible in
    record {
      arcs = h.arcs ++ k.arcs;
      has_arc = omega (arith, h.has_arc, length-append h.arcs k.arcs);
      leads = (leads-append g.graph (Lasts g) h.arcs k.arcs s u).1 (t, h.leads, k.leads);
      meets = λ j i. some_left (g.meets j) h.arcs k.arcs (h.meets j i);
      possible = rw m ((possible-append b v w e).1 (h.possible, p));
      no_lower = rw (m, charge-append b v w e) (omega (arith, k.no_lower, charge-mono b w y (charge b v e) h.no_lower));
    }

-- one that comes back is a kept cycle
pub hop-kept : (g : Net) (b s e : ℕ) → Hop g b s e s e → KeptCycle g b s e
hop-kept g b s e h =
    record {
      arcs = h.arcs;
      closed = record { has_arc = h.has_arc; leads = h.leads };
      meets = h.meets;
      keeps = (h.possible, h.no_lower);
    }

-- a hop from some member of the set, at its charge, to mode s with its own
pub record HopFrom (g : Net) (b : ℕ) (set : ℕ → ℕ) (s : ℕ) : Type 0 where
  pub source : ℕ
  pub member : 0 < set source
  pub hop : Hop g b source (pred (set source)) s (pred (set s))

module _ (g : Net) (b : ℕ) (set : ℕ → ℕ) where
  record Member : Type 0 where
    mode : ℕ
    member : 0 < set mode

  module _ (bounded : (s : ℕ) → 0 < set s → s < g.modes) (from : (s : ℕ) → 0 < set s → HopFrom g b set s) where
    -- the members met when going back i hops
    back : Member → ℕ → Member
    back m zero = m
    back m (suc i) = let h = from (back m i).mode (back m i).member in record { mode = h.source; member = h.member }

    -- the hop to a member from the one before it
    one-hop : (m : Member) (i : ℕ) → Hop g b (back m (suc i)).mode (pred (set (back m (suc i)).mode)) (back m i).mode (pred (set (back m i).mode))
    unfolding back
    one-hop m i = (from (back m i).mode (back m i).member).hop

    -- the hops joined
    hops : (m : Member) (i j : ℕ) → i < j → Hop g b (back m j).mode (pred (set (back m j).mode)) (back m i).mode (pred (set (back m i).mode))
    hops m i zero h = absurd (omega arith)
    hops m i (suc j) h =
        elim (dec_le j i) [
          | yes q ↦ let e : j ≡ i = omega arith in rw e (one-hop m i)
          | no q ↦ hop-joined g b _ _ _ _ _ _ (one-hop m j) (hops m i j (omega arith))
        ]

    -- of as many members as there are modes, and one more, two are the same: a member has a kept cycle
    pub come-round : (s : ℕ) → 0 < set s → KeptMember g b set
    come-round s h =
        let m : Member = record { mode = s; member = h } in
        let (i, j, u, k, q) = pigeonhole g.modes (λ i. (back m i).mode) (λ i z. bounded (back m i).mode (back m i).member) in
        record {
          mode = (back m i).mode;
          peak = pred (set (back m i).mode);
          listed = omega (arith, (back m i).member);
          cycle = hop-kept g b _ _ (rw (← q) at (hops m i j u));
        }
