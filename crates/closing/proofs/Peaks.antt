-- The level alone, closed from the start mode with the credit: the peaks of the net of the rows. Assumes nothing.
use mathlib.Core.Path.{◌≡◌, refl, sym, ap, subst, fun_ext, ◌∙◌}
use mathlib.Core.Bool.{Bool, true, false}
use mathlib.Core.List.{List}
use Prim.Native.Nat.{ℕ, suc, ◌+◌, ◌≤◌, ◌<◌}
use native.Mathlib.Omega.{arith}
use native.Mathlib.Decide.{ℕ_discrete}
use lib.Dec.{eqb}
use lib.ListN.{length, get_or, set, replicate, length-set, length-replicate}
use lib.Seq.{get_or-set_same, get_or-set_other}
use borrow.Author.Tests.{eq-eqb, ne_eqb}
use Rattle.nets.specs.Net.{Net, Usable}
use Rattle.groups.specs.declared.Row.{Row}
use Rattle.groups.specs.Grouped.{arc_count}
use Rattle.passes.specs.RowsNet.{rows_net}
use Rattle.closing.specs.Closed.{word_if, only_at, ClosedLevel}
use Rattle.closing.specs.Stratum.{stratum, level_alone, graph_of, leaves_by, Staying, Leaving}
use Rattle.closing.specs.Tables.{Closable, Closes, Findable, PeaksFound}
use Rattle.closing.proofs.Closed.{closed-level-same, level-peaks}
use Rattle.closing.proofs.Lifts.{zeros}

-- the first table: the credit at the start mode
first_word : (n start c v : ℕ) → start < n → get_or (set (replicate n 0) start (c + 1)) v 0 ≡ only_at start (suc c) v
first_word n start c v h =
    elim (ℕ_discrete v start) [
      | yes e ↦
          rw (e, eq-eqb start start refl)
          (get_or-set_same (replicate n 0) start (c + 1) 0 (omega (arith, length-replicate {A = ℕ} n 0)) ∙ omega arith)
      | no e ↦ rw (ne_eqb v start e) (get_or-set_other (replicate n 0) start v (c + 1) 0 e ∙ zeros n v)
    ]

-- the level closed from there
closed-peaks : {rows : List Row} {places best best' later : List ℕ} {s c b : ℕ} (n : ℕ) → s < n → best ≡ set (replicate n 0) s (c + 1) → length best ≡ n
    → Closes (stratum rows (level_alone (arc_count places n) b)) best best' later → PeaksFound rows places n s c b best'
unfolding leaves_by
closed-peaks {rows} {places} {best} {best'} {later} {s} {c} {b} n h q z k =
    let S = stratum rows (level_alone (arc_count places n) b) in
    let G : ℕ → Net = λ d. rows_net rows n s d (arc_count places n) in
    let word : List ℕ → ℕ → ℕ = λ w v. get_or w v 0 in
    let first : word best ≡ only_at s (suc c) =
    ap {B = ℕ → ℕ} (λ (w : List ℕ). word w) q ∙ fun_ext (λ v. first_word n s c v h)
    in
    record {
      peaks = λ d.
          level-peaks (G d) (Leaving S) b c (word best') (word later)
          (subst (λ (f : ℕ → ℕ). ClosedLevel (graph_of S) (Usable (G d)) (Leaving S) b f (word best') (word later)) first
          (closed-level-same (graph_of S) (Staying S) (Leaving S) (Usable (G d)) (Leaving S) b (word best) (word best') (word later)
          (λ a. (λ o. (o.0.0, o.0.1), λ o. ((o.0, o.1, refl), refl))) (λ a. (λ o. o, λ o. o)) k.closed));
      size = k.size ∙ z;
      low = k.low.low;
    }

first-size : (n s y : ℕ) (best : List ℕ) → best ≡ set (replicate n 0) s y → length best ≡ n
first-size n s y best q = ap length q ∙ length-set (replicate n 0) s y ∙ length-replicate {A = ℕ} n 0

-- what is asked for the peaks, and the first table: what is asked to close the level, ..
pub findable-closable : {rows : List Row} {places best later first : List ℕ} {s c b m : ℕ} → Findable rows places s c b best
    → m ≡ arc_count places (length best) → first ≡ set (replicate (length best) 0) s (c + 1) → length later ≡ length best
    → Closable (stratum rows (level_alone m b)) places first later
findable-closable {rows} {places} {best} {later} {first} {s} {c} {b} {m} k p q l =
    let z : length first ≡ length best = first-size (length best) s (c + 1) first q in
    record {
      work =
          record {
            ready = rw (p, z) k.ready;
            low = record { low = λ v. low v (ap (λ (w : List ℕ). get_or w v 0) q ∙ first_word (length best) s c v k.starts) };
          };
      placed = rw (p, z) k.placed;
      size_later = l ∙ sym z;
    }
  where
    low : (v : ℕ) → get_or first v 0 ≡ only_at s (suc c) v → get_or first v 0 ≤ b + 1
    low v e = go (eqb v s) e
      where
        go : (t : Bool) → get_or first v 0 ≡ word_if t (suc c) → get_or first v 0 ≤ b + 1
        go true e = omega (arith, k.credit)
        go false e = omega arith

-- .. and what closing it gives
pub findable-found : {rows : List Row} {places best first best' later' : List ℕ} {s c b m : ℕ} → Findable rows places s c b best
    → m ≡ arc_count places (length best) → first ≡ set (replicate (length best) 0) s (c + 1)
    → Closes (stratum rows (level_alone m b)) first best' later' → PeaksFound rows places (length best) s c b best'
findable-found {rows} {places} {best} {s = s} {c = c} {b = b} k p q z =
    closed-peaks (length best) k.starts q (first-size (length best) s (c + 1) _ q) (rw p at z)
