-- A table one level after the other: a level closed from the charges with which it is entered has the greatest charges of that level, and gives
-- those with which the next is entered. Assumes nothing.
use mathlib.Core.Path.{◌≡◌, refl}
use mathlib.Core.List.{List, [], ◌∷◌, ◌++◌}
use mathlib.Core.Logic.{⊎_elim}
use Prim.Native.Nat.{ℕ, zero, suc, pred, ◌≤◌, ◌<◌}
use native.Mathlib.Omega.{arith}
use Rattle.walks.specs.BoundedStep.{after}
use Rattle.walks.specs.Moves.{charge, Possible}
use Rattle.walks.proofs.Charges.{charge-append, possible-append, charge-bound}
use Rattle.nets.specs.Graph.{Graph, moves, Leads}
use Rattle.nets.specs.Net.{Net}
use Rattle.nets.specs.Table.{level}
use Rattle.nets.proofs.Leads.{moves-append, leads-append, leads-weaken}
use Rattle.nets.proofs.Levels.{next-cases}
use Rattle.nets.proofs.Tables.{reached-on}
use Rattle.closing.specs.Closed.{Spread, ClosedLevel}
use Rattle.sets.specs.Levels.{ReachedFrom, LevelTable, StaysIn, LeavesFor, Crossed, Entering, Entered}

-- what a walk over arcs that stay makes of a charge below an entry is below an entry
pub spread-below : (g : Graph) (stay leave : ℕ → Type 0) (b : ℕ) (from best later : ℕ → ℕ) → ClosedLevel g stay leave b from best later
    → (w : List ℕ) (m t x : ℕ) → Leads g stay m w t → x < best m → Possible b (moves g w) x → charge b (moves g w) x < best t
spread-below g stay leave b from best later k [] m t x d h p = rw (← d) h
spread-below g stay leave b from best later k (a ∷ w) m t x d h p =
    let q : best (g.source a) ≡ suc (pred (best m)) = rw d.1 (omega arith) in
    spread-below g stay leave b from best later k w (g.target a) t (after b (g.move a) x) d.2
    (omega (arith, k.stays a (pred (best m)) d.0 q (omega arith)))
    p.1

module _ (g : Net) (ok : ℕ → Type 0) (K b : ℕ) (from : ℕ → ℕ) where
  -- arcs that stay in a level stay in it
  stays-level : (w : List ℕ) (l s t : ℕ) → Leads g.graph (StaysIn g ok K l) s w t → level g K l w ≡ l
  stays-level [] l s t d = refl
  stays-level (a ∷ w) l s t d = rw d.0.1 (stays-level w l (g.graph.target a) t d.2)

  -- what is reached, and then a walk over arcs that stay
  stay-on : (l s t e x : ℕ) (w : List ℕ) → ReachedFrom g ok K b from l s e → Leads g.graph (StaysIn g ok K l) s w t
      → Possible b (moves g.graph w) e → charge b (moves g.graph w) e ≡ x → ReachedFrom g ok K b from l t x
  stay-on l s t e x w r d p q =
      record {
        source = r.source;
        charged = r.charged;
        bounded = r.bounded;
        listed = r.listed;
        reached =
            reached-on g ok K b r.source r.charged l l s t e x w r.reached
            (leads-weaken g.graph (StaysIn g ok K l) ok (λ a h. h.0) w s t d)
            (stays-level w l s t d) p q;
      }

  -- what is reached, and then an arc that leaves
  leave-on : (l t x : ℕ) → Crossed g ok K b from l t x → ReachedFrom g ok K b from (suc l) t x
  leave-on l t x c =
      let r = c.reached in
      record {
        source = r.source;
        charged = r.charged;
        bounded = r.bounded;
        listed = r.listed;
        reached =
            reached-on g ok K b r.source r.charged l (suc l) (g.graph.source c.arc) t c.before x (c.arc ∷ []) r.reached
            (c.leaves.0, refl, c.enters) c.leaves.1 (c.possible, tt) c.reaches;
      }

  -- a walk in level l that entered it at some mode and has stayed since
  record Standing (l t x : ℕ) : Type 0 where
    entry : ℕ
    entry_charge : ℕ
    entering : Entering g ok K b from l entry entry_charge
    arcs : List ℕ
    leads : Leads g.graph (StaysIn g ok K l) entry arcs t
    possible : Possible b (moves g.graph arcs) entry_charge
    reaches : charge b (moves g.graph arcs) entry_charge ≡ x

  -- entered by a walk: reached
  entering-reached : (l t x : ℕ) → Entering g ok K b from l t x → ReachedFrom g ok K b from l t x
  entering-reached zero t x h =
      record {
        source = t;
        charged = x;
        bounded = h.0;
        listed = h.1;
        reached = record { arcs = []; leads = refl; levels = refl; possible = tt; reaches = refl };
      }
  entering-reached (suc l) t x h = leave-on l t x h

  standing-reached : (l t x : ℕ) → Standing l t x → ReachedFrom g ok K b from l t x
  standing-reached l t x k =
      stay-on l k.entry t k.entry_charge x k.arcs (entering-reached l k.entry k.entry_charge k.entering) k.leads
      k.possible k.reaches

  -- one arc more, that stays
  stands-stay : (l a x : ℕ) → Standing l (g.graph.source a) x → StaysIn g ok K l a → (g.graph.move a).draw ≤ x
      → Standing l (g.graph.target a) (after b (g.graph.move a) x)
  stands-stay l a x k h p =
      let u = k.arcs in
      let v = a ∷ [] in
      let m = moves-append g.graph u v in
      record {
        entry = k.entry;
        entry_charge = k.entry_charge;
        entering = k.entering;
        arcs = u ++ v;
        leads =
            (leads-append g.graph (StaysIn g ok K l) u v k.entry (g.graph.target a)).1
            (g.graph.source a, k.leads, (h, refl, refl));
        possible =
            rw m ((possible-append b (moves g.graph u) (moves g.graph v) k.entry_charge).1 (k.possible, rw k.reaches (p, tt)));
        reaches = rw (m, charge-append b (moves g.graph u) (moves g.graph v) k.entry_charge, k.reaches) refl;
      }

  -- one arc more, that leaves
  stands-leave : (l a x : ℕ) → Standing l (g.graph.source a) x → LeavesFor g ok K l a → (g.graph.move a).draw ≤ x
      → Standing (suc l) (g.graph.target a) (after b (g.graph.move a) x)
  stands-leave l a x k h p =
      record {
        entry = g.graph.target a;
        entry_charge = after b (g.graph.move a) x;
        entering =
            record {
              arc = a;
              before = x;
              leaves = h;
              reached = standing-reached l (g.graph.source a) x k;
              possible = p;
              reaches = refl;
              enters = refl;
            };
        arcs = [];
        leads = refl;
        possible = tt;
        reaches = refl;
      }

  -- any walk more
  stands_on : (w : List ℕ) (l m t x : ℕ) → Standing l m x → Leads g.graph ok m w t → Possible b (moves g.graph w) x
      → Standing (level g K l w) t (charge b (moves g.graph w) x)
  stands_on [] l m t x k d p = rw (← d) k
  stands_on (a ∷ w) l m t x k d p =
      let k' : Standing l (g.graph.source a) x = rw d.1 k in
      ⊎_elim
      (λ q.
      rw q.rises
      (stands_on w (suc l) (g.graph.target a) t (after b (g.graph.move a) x) (stands-leave l a x k' (d.0, q.rises) p.0) d.2 p.1))
      (λ q.
      rw q.stays
      (stands_on w l (g.graph.target a) t (after b (g.graph.move a) x) (stands-stay l a x k' (d.0, q.stays) p.0) d.2 p.1))
      (next-cases g K l a)

  -- what is reached entered its level somewhere and has stayed since
  reached-standing : (l t x : ℕ) → ReachedFrom g ok K b from l t x → Standing l t x
  reached-standing l t x r =
      let w = r.reached in
      let k : Standing 0 r.source r.charged =
      record {
        entry = r.source;
        entry_charge = r.charged;
        entering = (r.bounded, r.listed);
        arcs = [];
        leads = refl;
        possible = tt;
        reaches = refl;
      }
      in
      rw (w.levels, w.reaches) at (stands_on w.arcs 0 r.source t r.charged k w.leads w.possible)

  -- level 0 is entered at the sources
  pub entered-first : ((s : ℕ) → 0 < from s → s < g.modes) → Entered g ok K b from 0 from
  entered-first low =
      record { above = λ t x h. omega (arith, h.1); attained = λ t x q. entering-reached 0 t x (low t (omega arith), q) }

  module _ (l : ℕ) (begun best later : ℕ → ℕ) (h : Entered g ok K b from l begun)
      (k : ClosedLevel g.graph (StaysIn g ok K l) (LeavesFor g ok K l) b begun best later) where
    spread-reached : (t x : ℕ) → Spread g.graph (StaysIn g ok K l) b begun t x → ReachedFrom g ok K b from l t x
    spread-reached t x w =
        stay-on l w.source t w.charged x w.arcs (h.attained w.source w.charged w.listed) w.leads w.possible
        w.reaches

    level-above : (t x : ℕ) → ReachedFrom g ok K b from l t x → x < best t
    level-above t x r =
        let s = reached-standing l t x r in
        rw s.reaches at (spread-below g.graph (StaysIn g ok K l) (LeavesFor g ok K l) b begun best later k s.arcs s.entry t
        s.entry_charge s.leads (omega (arith, h.above s.entry s.entry_charge s.entering, k.begins s.entry)) s.possible)

    -- a level closed from the charges with which it is entered has the greatest charges
    pub level-table : LevelTable g ok K b from l best
    level-table = record { above = level-above; attained = λ t x ht q. spread-reached t x (k.attained t x q) }

    -- and those with which the next is entered
    pub level-entered : Entered g ok K b from (suc l) later
    level-entered =
        record {
          above = λ t x c.
              let a = c.arc in
              let low = level-above (g.graph.source a) c.before c.reached in
              let q : best (g.graph.source a) ≡ suc (pred (best (g.graph.source a))) = omega arith in
              let i = k.leaves a (pred (best (g.graph.source a))) c.leaves q (omega (arith, c.possible)) in
              rw c.enters at (lower (g.graph.move a).draw (g.graph.move a).gain c.before (best (g.graph.source a)) x
              (later (g.graph.target a)) low c.reaches i);
          attained = λ t x q.
              let c = k.attained_later t x q in
              leave-on l t x (record {
                arc = c.arc;
                before = c.before;
                leaves = c.leaves;
                reached = spread-reached (g.graph.source c.arc) c.before c.spread;
                possible = c.possible;
                reaches = c.reaches;
                enters = c.enters;
              });
        }
      where
        lower : (d n y z x w : ℕ) → y < z → after b (record { draw = d; gain = n }) y ≡ x
            → after b (record { draw = d; gain = n }) (pred z) < w → x < w
        lower d n y z x w h q i = omega arith

-- with sources up to the bound, no level is entered above it
pub entered-bound : (g : Net) (ok : ℕ → Type 0) (K b : ℕ) (from : ℕ → ℕ) (l : ℕ) (begun : ℕ → ℕ) → ((s : ℕ) → from s ≤ suc b)
    → Entered g ok K b from l begun → (t : ℕ) → begun t ≤ suc b
entered-bound g ok K b from l begun low k t = go (begun t) refl
  where
    go : (n : ℕ) → begun t ≡ n → n ≤ suc b
    go zero q = omega arith
    go (suc x) q =
        let r = k.attained t x q in
        let w = r.reached in
        let he : r.charged ≤ b = omega (arith, low r.source, r.listed) in
        omega (arith, w.reaches, charge-bound b (moves g.graph w.arcs) r.charged he)
