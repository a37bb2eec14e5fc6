-- Tables of greatest charges: what is reached is below its entry in every closed table; a walk goes on from where another has come; a table
-- that is closed and attained is nowhere above the bound, and is the only one. Assumes nothing.
use mathlib.Core.Path.{◌≡◌, refl, ◌∙◌}
use mathlib.Core.List.{List, [], ◌∷◌, ◌++◌}
use Prim.Native.Nat.{ℕ, zero, suc, pred, ◌≤◌, ◌<◌}
use native.Mathlib.Omega.{arith}
use Rattle.walks.specs.BoundedStep.{after}
use Rattle.walks.specs.Moves.{charge, Possible}
use Rattle.walks.proofs.Charges.{charge-append, possible-append, charge-bound}
use Rattle.nets.specs.Graph.{moves, Leads}
use Rattle.nets.specs.Net.{Net}
use Rattle.nets.specs.Table.{next, level, Closed, Reached, Table}
use Rattle.nets.proofs.Leads.{moves-append, leads-append}
use Rattle.nets.proofs.Levels.{level-append, next-bound}

module _ (g : Net) (ok : ℕ → Type 0) (K b s e : ℕ) where
  -- what a walk makes of a charge below an entry is below an entry
  charge-below : (high : ℕ → ℕ → ℕ) → Closed g ok K b s e high → (w : List ℕ) (l m t x : ℕ) → l ≤ K → Leads g.graph ok m w t → x < high l m
      → Possible b (moves g.graph w) x → charge b (moves g.graph w) x < high (level g K l w) t
  charge-below high k [] l m t x hl d h p = rw (← d) h
  charge-below high k (a ∷ w) l m t x hl d h p =
      let q : high l (g.graph.source a) ≡ suc (pred (high l m)) = rw d.1 (omega arith) in
      charge-below high k w (next g K l a) (g.graph.target a) t (after b (g.graph.move a) x) (next-bound g K l a hl) d.2
      (omega (arith, k.steps l a (pred (high l m)) hl d.0 q (omega arith)))
      p.1

  -- a charge that is reached is below its entry
  pub reached-below : (high : ℕ → ℕ → ℕ) → Closed g ok K b s e high → (l t x : ℕ) → Reached g ok K b s e l t x → x < high l t
  reached-below high k l t x r =
      rw (r.levels, r.reaches) at (charge-below high k r.arcs 0 s t e (omega arith) r.leads (omega (arith, k.begins)) r.possible)

  -- a walk goes on by the arcs v from where another has come
  unfoldable pub reached-on : (l l' t t' x x' : ℕ) (v : List ℕ) → Reached g ok K b s e l t x → Leads g.graph ok t v t' → level g K l v ≡ l'
      → Possible b (moves g.graph v) x → charge b (moves g.graph v) x ≡ x' → Reached g ok K b s e l' t' x'
  reached-on l l' t t' x x' v k d h p q =
      let u = k.arcs in
      let m = moves-append g.graph u v in
      record {
        arcs = u ++ v;
        leads = (leads-append g.graph ok u v s t').1 (t, k.leads, d);
        levels = level-append g K u v 0 ∙ rw k.levels h;
        possible = rw m ((possible-append b (moves g.graph u) (moves g.graph v) e).1 (k.possible, rw k.reaches p));
        reaches = rw (m, charge-append b (moves g.graph u) (moves g.graph v) e, k.reaches) q;
      }

  -- no entry is above the bound
  pub table-bound : (high : ℕ → ℕ → ℕ) → e ≤ b → Table g ok K b s e high → (l t : ℕ) → l ≤ K → t < g.modes → high l t ≤ suc b
  table-bound high he k l t hl ht = go (high l t) refl
    where
      go : (n : ℕ) → high l t ≡ n → n ≤ suc b
      go zero q = omega arith
      go (suc x) q =
          let r = k.attained l t x hl ht q in
          omega (arith, r.reaches, charge-bound b (moves g.graph r.arcs) e he)

  table-le : (high high' : ℕ → ℕ → ℕ) → Table g ok K b s e high → Table g ok K b s e high'
      → (l t n : ℕ) → l ≤ K → t < g.modes → high l t ≡ n → n ≤ high' l t
  table-le high high' k k' l t zero hl ht q = omega arith
  table-le high high' k k' l t (suc x) hl ht q = reached-below high' k'.closed l t x (k.attained l t x hl ht q)

  -- there is one table of the greatest charges
  pub table-unique : (high high' : ℕ → ℕ → ℕ) → Table g ok K b s e high → Table g ok K b s e high'
      → (l t : ℕ) → l ≤ K → t < g.modes → high l t ≡ high' l t
  table-unique high high' k k' l t hl ht =
      omega (arith, table-le high high' k k' l t (high l t) hl ht refl, table-le high' high k' k l t (high' l t) hl ht refl)
