-- The charge along a list of moves: append, at most the bound, monotone. For every list. Assumes nothing.
use mathlib.Core.Path.{◌≡◌, refl}
use mathlib.Core.List.{List, [], ◌∷◌, ◌++◌}
use mathlib.Core.Logic.{◌↔◌}
use Prim.Native.Nat.{ℕ, ◌≤◌}
use native.Mathlib.Omega.{arith}
use Rattle.walks.specs.BoundedStep.{to}
use Rattle.walks.specs.BoundedStep.{Move, after, stepped}
use Rattle.walks.specs.Walk.{Ends, walked, IsPossible}
use Rattle.walks.specs.Moves.{charge, Possible}
use Rattle.walks.proofs.Walks.{walked-moves, walked_to}

-- moves that are possible stay possible from more charge, and under a larger bound
pub possible-wider : (b b' : ℕ) (ms : List Move) (e e' : ℕ) → b ≤ b' → e ≤ e' → Possible b ms e → Possible b' ms e'
possible-wider b b' [] e e' w h p = tt
possible-wider b b' (m ∷ ms) e e' w h p = (omega arith, possible-wider b b' ms (after b m e) (after b' m e') w (omega arith) p.1)

module _ (b : ℕ) where
  pub charge-append : (u v : List Move) (e : ℕ) → charge b (u ++ v) e ≡ charge b v (charge b u e)
  charge-append [] v e = refl
  charge-append (m ∷ u) v e = charge-append u v (after b m e)

  pub possible-append : (u v : List Move) (e : ℕ) → Possible b (u ++ v) e ↔ (Possible b u e × Possible b v (charge b u e))
  possible-append [] v e = (λ h. (tt, h), λ h. h.1)
  possible-append (m ∷ u) v e =
      let ih = possible-append u v (after b m e) in
      (λ h. ((h.0, (ih.0 h.1).0), (ih.0 h.1).1), λ h. (h.0.0, ih.1 (h.0.1, h.1)))

  pub charge-bound : (ms : List Move) (e : ℕ) → e ≤ b → charge b ms e ≤ b
  charge-bound [] e h = h
  charge-bound (m ∷ ms) e h = charge-bound ms (after b m e) (omega arith)

  pub charge-mono : (ms : List Move) (e e' : ℕ) → e ≤ e' → charge b ms e ≤ charge b ms e'
  charge-mono [] e e' h = h
  charge-mono (m ∷ ms) e e' h = charge-mono ms (after b m e) (after b m e') (omega arith)

  pub possible-mono : (ms : List Move) (e e' : ℕ) → e ≤ e' → Possible b ms e → Possible b ms e'
  possible-mono ms e e' h p = possible-wider b b ms e e' (omega arith) h p

-- the same of walks of steps: at most the bound ..
pub walked-bound : (b : ℕ) (ms : List Move) (e x : ℕ) → e ≤ b → walked b ms e ≡ Ends x → x ≤ b
walked-bound b ms e x h q = omega (arith, (walked_to b ms e x q).1, charge-bound b ms e h)

-- .. also of a single step ..
pub stepped-bound : (b : ℕ) (m : Move) (e x l : ℕ) → e ≤ b → stepped b m e ≡ to x l → x ≤ b
unfolding walked
stepped-bound b m e x l h q = walked-bound b (m ∷ []) e x h (rw q refl)

-- .. and monotone: a walk that is possible is possible from more, and ends no lower
pub walked-mono : (b : ℕ) (ms : List Move) (e e' x : ℕ) → e ≤ e' → walked b ms e ≡ Ends x → (x' : ℕ) × (walked b ms e' ≡ Ends x') × (x ≤ x')
walked-mono b ms e e' x h q =
    let (p, i) = walked_to b ms e x q in
    (charge b ms e', (walked-moves b ms e').leads (possible-mono b ms e e' h p), omega (arith, charge-mono b ms e e' h))

-- under a larger bound it stays possible too
pub walked-wider : (b b' : ℕ) (ms : List Move) (e e' : ℕ) → b ≤ b' → e ≤ e' → IsPossible (walked b ms e) → IsPossible (walked b' ms e')
walked-wider b b' ms e e' w h p = (walked-moves b' ms e').possible.1 (possible-wider b b' ms e e' w h ((walked-moves b ms e).possible.0 p))
