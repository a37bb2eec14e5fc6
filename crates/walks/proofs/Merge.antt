-- The merge lemma: two walks of the same moves that begin apart and end together stood both at the bound, after the same first part; and
-- what follows of a round that falls from a charge to one that it keeps. Assumes nothing.
use mathlib.Core.Path.{◌≡◌, refl, sym, ap, ◌∙◌}
use mathlib.Core.List.{List, [], ◌∷◌, ◌++◌}
use mathlib.Core.Logic.{◌⊎◌, inl, inr}
use Prim.Native.Nat.{ℕ, ◌≤◌, ◌<◌}
use native.Mathlib.Omega.{arith}
use native.Mathlib.Decide.{dec_le}
use Rattle.walks.specs.Moves.{charge, Possible, Keeps}
use Rattle.walks.specs.BoundedStep.{Move, after}
use Rattle.walks.proofs.Charges.{charge-append, possible-append, charge-mono, possible-mono}
use Rattle.walks.proofs.ClosedWalk.{walk-law}

module _ (b : ℕ) where
  pub merge : (ms : List Move) (y z : ℕ) → y < z → Possible b ms y → charge b ms y ≡ charge b ms z
      → (v u : List Move) × (ms ≡ v ++ u) × (charge b v y ≡ b) × (charge b v z ≡ b)
  merge [] y z h p q = absurd (omega arith)
  merge (m ∷ ms) y z h p q =
      elim (dec_le b (after b m y)) [
        | yes r ↦ (m ∷ [], ms, refl, omega arith, omega arith)
        | no r ↦
            let s = merge ms (after b m y) (after b m z) (omega arith) p.1 q in
            (m ∷ s.0, s.1, ap {B = List Move} (λ l. m ∷ l) {y = s.0 ++ s.1} s.2, s.3, s.4)
      ]

  -- a round that keeps y and passes through b, begun there
  turn : (v u : List Move) (y : ℕ) → Possible b (v ++ u) y → charge b (v ++ u) y ≡ y → charge b v y ≡ b
      → Possible b v y × Possible b (u ++ v) b × (charge b (u ++ v) b ≡ b)
  turn v u y p q hv =
      let s = (possible-append b v u y).0 p in
      let c : charge b u b ≡ y = cc (charge-append b v u y) in
      (s.0, (possible-append b u v b).1 (rw hv at s.1, rw c s.0), cc (charge-append b u v b))

  -- so a round that falls from z to y and then stays at y can be turned to begin at the bound, and keeps it
  pub turned : (ms : List Move) (y z : ℕ) → y < z → Possible b ms y → charge b ms y ≡ y → charge b ms z ≡ y
      → (v u : List Move) × (ms ≡ v ++ u) × Possible b v z × (charge b v z ≡ b) × Possible b (u ++ v) b × (charge b (u ++ v) b ≡ b)
  turned ms y z h p q q' =
      let (v, u, s, hy, hz) = merge ms y z h p (q ∙ sym q') in
      let t = turn v u y (rw s at p) (rw s at q) hy in
      (v, u, s, possible-mono b v y z (omega arith) t.0, hz, t.1, t.2)

  -- a round that keeps a charge either keeps a charge above it, or falls from that to a charge that it then keeps
  pub keeps-above : (ms : List Move) (e z : ℕ) → Keeps b ms e → e ≤ z → z ≤ b
      → Keeps b ms z ⊎ ((charge b ms z < z) × Possible b ms (charge b ms z) × (charge b ms (charge b ms z) ≡ charge b ms z))
  keeps-above ms e z k h hb =
      let l = walk-law b ms in
      let p = possible-mono b ms e z h k.0 in
      let q = charge-mono b ms e z h in
      let p' = possible-mono b ms e (charge b ms z) (omega arith) k.0 in
      elim (dec_le z (charge b ms z)) [
        | yes u ↦ inl (p, u)
        | no u ↦
            inr (
              omega arith,
              p',
              omega (arith, l.value e (omega arith) k.0, l.value z hb p, l.value (charge b ms z) (omega arith) p'),
            )
      ]
