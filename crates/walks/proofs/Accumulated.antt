-- Walks are document 001's feasible runs: a walk is possible exactly where its accumulated weights are at least 0. Assumes nothing.
use mathlib.Core.Path.{◌≡◌, refl, sym, ap, ◌∙◌}
use mathlib.Core.List.{List, [], ◌∷◌}
use mathlib.Core.Logic.{◌↔◌}
use Prim.Native.Nat.{ℕ, zero-le, ◌-◌, ◌≤◌, ◌<◌, min}
use native.Mathlib.Omega.{arith}
use native.Mathlib.Decide.{dec_le}
use borrow.Author.Tests.{le-leb, lt-leb}
use lib.IntN.{ℤ, pos, negsuc, neg_ℤ, ◌+ℤ◌}
use lib.Signed.{◌≤ℤ◌, le_z_yes}
use Rattle.walks.specs.BoundedStep.{Move, after}
use Rattle.walks.specs.Walk.{End, Ends, Blocked, after_step, walked, IsPossible}
use Rattle.walks.specs.Weights.{clipped, weighed}
use Rattle.walks.specs.Accumulated.{smaller, accumulated_from, accumulated, NonNegative, FeasibleRun, run_weights}
use Rattle.walks.proofs.Sums.{difference, deficit}
use Rattle.walks.proofs.Walks.{step-on, step-off}

-- weights walked one after the other from charge e
abbrev pub walked_weights : ℕ → List ℤ → ℕ → End
walked_weights b [] e = Ends e
walked_weights b (w ∷ ws) e = after_step (weighed b w e) (walked_weights b ws)

-- min, of two naturals
smaller-pos : (b x : ℕ) → smaller (pos b) (pos x) ≡ pos (min x b)
smaller-pos b x =
    elim (dec_le b x) [
      | yes h ↦ rw (le-leb b x h) (ap {B = ℤ} pos (omega arith))
      | no h ↦ rw (lt-leb b x (omega arith)) (ap {B = ℤ} pos (omega arith))
    ]

at-least-zero : (e : ℕ) → pos 0 ≤ℤ pos e
at-least-zero e = le_z_yes (rw (le-leb 0 e zero-le) tt)

-- e₁ = min (b, c): a credit above the bound counts as the bound
pub credit-cut : (b c : ℕ) (ws : List ℤ) → accumulated b c ws ≡ accumulated b (min c b) ws
unfolding accumulated
credit-cut b c ws =
    let first : smaller (pos b) (pos c) ≡ smaller (pos b) (pos (min c b)) =
    smaller-pos b c ∙ ap {B = ℤ} pos (omega arith) ∙ sym (smaller-pos b (min c b))
    in
    ap {B = List ℤ} (accumulated_from (pos b) ws) first

-- the accumulated weights from e on begin with e
first-weight : (b : ℤ) (ws : List ℤ) (e : ℤ) → NonNegative (accumulated_from b ws e) → pos 0 ≤ℤ e
first-weight b [] e h = h.0
first-weight b (w ∷ ws) e h = h.0

-- weights can be walked exactly where the accumulated weights are at least 0
weights-accumulated : (b : ℕ) (ws : List ℤ) (e : ℕ) → IsPossible (walked_weights b ws e) ↔ NonNegative (accumulated_from (pos b) ws (pos e))
unfolding weighed
weights-accumulated b [] e = (λ h. (at-least-zero e, tt), λ h. tt)
weights-accumulated b (w ∷ ws) e = go (pos e +ℤ w) (λ x. weights-accumulated b ws x)
  where
    go : (z : ℤ) → ((x : ℕ) → IsPossible (walked_weights b ws x) ↔ NonNegative (accumulated_from (pos b) ws (pos x))) → IsPossible (after_step (clipped b z) (walked_weights b ws)) ↔ NonNegative (pos e ∷ accumulated_from (pos b) ws (smaller (pos b) z))
    go (pos x) more = rw (smaller-pos b x) (λ h. (at-least-zero e, (more (min x b)).0 h), λ h. (more (min x b)).1 h.1)
    go (negsuc x) more = (λ h. absurd h, λ h. absurd (first-weight (pos b) ws (negsuc x) h.1).le)

-- from a credit within the bound: exactly where the run with these weights is feasible
pub weights-feasible : (b : ℕ) (ws : List ℤ) (c : ℕ) → c ≤ b → IsPossible (walked_weights b ws c) ↔ FeasibleRun b c ws
unfolding accumulated
weights-feasible b ws c h =
    let within : min c b ≡ c = omega arith in
    rw (smaller-pos b c, within) (weights-accumulated b ws c)

module _ (b : ℕ) (m : Move) (ws : List ℤ) (e : ℕ) where
  -- a draw and then a gain, walked as two weights from a charge within the bound: they lead to the charge after the move ..
  two-weights-on : e ≤ b → m.draw ≤ e → walked_weights b (neg_ℤ (pos m.draw) ∷ pos m.gain ∷ ws) e ≡ walked_weights b ws (after b m e)
  unfolding weighed
  two-weights-on h k = let within : min (e - m.draw) b ≡ e - m.draw = omega arith in rw (difference e m.draw k, within) refl

  -- .. or the first is not possible
  two-weights-off : e < m.draw → walked_weights b (neg_ℤ (pos m.draw) ∷ pos m.gain ∷ ws) e ≡ Blocked
  unfolding weighed
  two-weights-off k = rw (deficit e m.draw k) refl

-- moves are walked as their weights are
moves-weights : (b : ℕ) (ms : List Move) (e : ℕ) → e ≤ b → walked b ms e ≡ walked_weights b (run_weights ms) e
unfolding walked
moves-weights b [] e h = refl
moves-weights b (m ∷ ms) e h =
    elim (dec_le m.draw e) [
      | yes k ↦ step-on b m ms e k ∙ moves-weights b ms (after b m e) (omega arith) ∙ sym (two-weights-on b m (run_weights ms) e h k)
      | no k ↦ step-off b m ms e (omega arith) ∙ sym (two-weights-off b m (run_weights ms) e (omega arith))
    ]

-- so a walk of moves is possible exactly where its run is feasible
pub possible-accumulated : (b : ℕ) (ms : List Move) (c : ℕ) → c ≤ b → IsPossible (walked b ms c) ↔ FeasibleRun b c (run_weights ms)
possible-accumulated b ms c h = rw (moves-weights b ms c h) (weights-feasible b (run_weights ms) c h)
