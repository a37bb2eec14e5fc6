-- A loop that gains can be raised to its fixed point in one step: what its top is, is attained. Document 001, section 4: loops raised to
-- their fixed point. Assumes nothing.
use mathlib.Core.Path.{◌≡◌, refl}
use mathlib.Core.List.{List, [], ◌++◌}
use Prim.Native.Nat.{ℕ, zero, suc, ◌+◌, ◌≤◌, ◌<◌, min}
use native.Mathlib.Omega.{arith}
use Rattle.walks.specs.BoundedStep.{Move}
use Rattle.walks.specs.Walk.{times}
use Rattle.walks.specs.Moves.{charge, Possible}
use Rattle.walks.proofs.Charges.{charge-append, possible-append, charge-bound, charge-mono, possible-mono}
use Rattle.walks.proofs.ClosedWalk.{walk-law}
use Rattle.walks.proofs.Rounds.{keeps-forever}
use Rattle.nets.specs.Graph.{Graph, moves, Leads}
use Rattle.nets.proofs.Leads.{moves-append, moves-times, leads-append, leads-times}
use Rattle.closing.specs.Closed.{Spread}

module _ (b : ℕ) (ms : List Move) where
  -- a loop that gains once gains, from every charge from which it is possible, at least one unit up to its top
  gains-always : (e x : ℕ) → e ≤ b → Possible b ms e → e < charge b ms e → x ≤ b → Possible b ms x → min (suc x) (charge b ms b) ≤ charge b ms x
  gains-always e x he p g hx px =
      let l = walk-law b ms in
      omega (arith, l.value e he p, l.value x hx px, l.value b (omega arith) (possible-mono b ms e b he p))

  rises : (e : ℕ) → e ≤ b → Possible b ms e → e < charge b ms e → (r x : ℕ) → e ≤ x → x ≤ charge b ms b
      → (min (x + r) (charge b ms b) ≤ charge b (times r ms) x) × (charge b (times r ms) x ≤ charge b ms b)
  rises e he p g zero x hx ht = (omega arith, ht)
  rises e he p g (suc r) x hx ht =
      let hb = charge-bound b ms b (omega arith) in
      let u = gains-always e x he p g (omega arith) (possible-mono b ms e x hx p) in
      let i = rises e he p g r (charge b ms x) (omega arith) (charge-mono b ms x b (omega arith)) in
      rw (charge-append b ms (times r ms) x) (omega arith, i.1)

  -- b rounds are enough
  pub raised : (e : ℕ) → e ≤ b → Possible b ms e → e < charge b ms e → Possible b (times b ms) e × (charge b (times b ms) e ≡ charge b ms b)
  raised e he p g =
      let i = rises e he p g b e (omega arith) (omega (arith, charge-mono b ms e b he)) in
      (keeps-forever b ms e (p, omega arith) b, omega (arith, charge-bound b ms b (omega arith)))

module _ (g : Graph) (stay : ℕ → Type 0) (b : ℕ) (from : ℕ → ℕ) where
  -- an entry of the first table
  pub spread-here : (t x : ℕ) → from t ≡ suc x → Spread g stay b from t x
  spread-here t x q = record { source = t; charged = x; listed = q; arcs = []; leads = refl; possible = tt; reaches = refl }

  -- a walk more
  pub spread-on : (t t' x x' : ℕ) (w : List ℕ) → Spread g stay b from t x → Leads g stay t w t' → Possible b (moves g w) x
      → charge b (moves g w) x ≡ x' → Spread g stay b from t' x'
  spread-on t t' x x' w k d p q =
      let u = k.arcs in
      let m = moves-append g u w in
      record {
        source = k.source;
        charged = k.charged;
        listed = k.listed;
        arcs = u ++ w;
        leads = (leads-append g stay u w k.source t').1 (t, k.leads, d);
        possible = rw m ((possible-append b (moves g u) (moves g w) k.charged).1 (k.possible, rw k.reaches p));
        reaches = rw (m, charge-append b (moves g u) (moves g w) k.charged, k.reaches) q;
      }

  -- so the top of a loop that gains from an attained charge is attained
  pub spread-raised : (t x : ℕ) (w : List ℕ) → x ≤ b → Spread g stay b from t x → Leads g stay t w t → Possible b (moves g w) x
      → x < charge b (moves g w) x → Spread g stay b from t (charge b (moves g w) b)
  spread-raised t x w hx k d p q =
      let (pr, cr) = raised b (moves g w) x hx p q in
      spread-on t t x (charge b (moves g w) b) (times b w) k (leads-times g stay w t d b) (rw (moves-times g b w) pr) (rw (moves-times g b w) cr)
