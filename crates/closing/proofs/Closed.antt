-- A level closed with other words for its arcs; the level alone closed from the start mode is the table of peaks of nets, which is the only one.
-- Assumes nothing.
use mathlib.Core.Path.{◌≡◌, refl}
use mathlib.Core.Bool.{Bool, true, false}
use mathlib.Core.Logic.{◌↔◌}
use Prim.Native.Nat.{ℕ, suc, ◌<◌}
use native.Mathlib.Omega.{arith}
use lib.Dec.{eqb}
use borrow.Author.Tests.{eqb-true, eq-eqb}
use Rattle.nets.specs.Graph.{Graph}
use Rattle.nets.specs.Net.{Net, Usable}
use Rattle.nets.specs.Table.{Peaks}
use Rattle.nets.proofs.Leads.{leads-weaken}
use Rattle.nets.proofs.Levels.{level-bound}
use Rattle.nets.proofs.Tables.{table-unique}
use Rattle.closing.specs.Closed.{word_if, only_at, Spread, ClosedLevel}

-- with other words for the arcs that stay and for those that leave
pub closed-level-same : (g : Graph) (stay leave stay' leave' : ℕ → Type 0) (b : ℕ) (from best later : ℕ → ℕ)
    → ((a : ℕ) → stay a ↔ stay' a) → ((a : ℕ) → leave a ↔ leave' a) → ClosedLevel g stay leave b from best later
    → ClosedLevel g stay' leave' b from best later
closed-level-same g stay leave stay' leave' b from best later i j k =
    record {
      begins = k.begins;
      stays = λ a x o q p. k.stays a x ((i a).1 o) q p;
      leaves = λ a x o q p. k.leaves a x ((j a).1 o) q p;
      attained = λ t x q. spread t x (k.attained t x q);
      attained_later = λ t x q.
          let w = k.attained_later t x q in
          record {
            arc = w.arc;
            before = w.before;
            leaves = (j w.arc).0 w.leaves;
            spread = spread (g.source w.arc) w.before w.spread;
            possible = w.possible;
            reaches = w.reaches;
            enters = w.enters;
          };
    }
  where
    spread : (t x : ℕ) → Spread g stay b from t x → Spread g stay' b from t x
    spread t x w =
        record {
          source = w.source;
          charged = w.charged;
          listed = w.listed;
          arcs = w.arcs;
          leads = leads-weaken g stay stay' (λ a. (i a).0) w.arcs w.source t w.leads;
          possible = w.possible;
          reaches = w.reaches;
        }

-- an entry of the table with one entry is that one
pub only_at_lem : (s y t x : ℕ) → only_at s y t ≡ suc x → (t ≡ s) × (y ≡ suc x)
only_at_lem s y t x q = go (eqb t s) refl q
  where
    go : (v : Bool) → eqb t s ≡ v → word_if v y ≡ suc x → (t ≡ s) × (y ≡ suc x)
    go true p h = (eqb-true t s p, h)
    go false p h = absurd (omega arith)

-- the level alone, closed from the start mode with credit c: the peaks
pub level-peaks : (g : Net) (leave : ℕ → Type 0) (b c : ℕ) (best later : ℕ → ℕ)
    → ClosedLevel g.graph (Usable g) leave b (only_at g.start (suc c)) best later → Peaks g b c (λ l t. best t)
level-peaks g leave b c best later k =
    record {
      closed =
          record {
            begins = let h = k.begins g.start in rw (eq-eqb g.start g.start refl) at h;
            steps = λ l a x hl o q p. k.stays a x o q p;
          };
      attained = λ l t x hl ht q.
          let w = k.attained t x q in
          let (i, j) = only_at_lem g.start (suc c) w.source w.charged w.listed in
          let z : w.charged ≡ c = omega arith in
          record {
            arcs = w.arcs;
            leads = rw i at w.leads;
            levels = omega (arith, level-bound g 0 w.arcs 0 (omega arith));
            possible = rw z at w.possible;
            reaches = rw z at w.reaches;
          };
    }

-- There is one table of peaks: what is closed and attained is the table computed afresh. Document 02, Ask 9: "the table equals the one computed
-- afresh from the arcs then on".
pub peaks-one : (g : Net) (b c : ℕ) (high high' : ℕ → ℕ → ℕ) → Peaks g b c high → Peaks g b c high' → (t : ℕ) → t < g.modes → high 0 t ≡ high' 0 t
peaks-one g b c high high' k k' t ht = table-unique g (Usable g) 0 b g.start c high high' k k' 0 t (omega arith) ht
