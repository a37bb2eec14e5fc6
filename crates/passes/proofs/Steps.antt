-- A step of a pass is a step of its net. Assumes nothing.
use mathlib.Core.Path.{◌≡◌, refl, sym, ap, ◌∙◌}
use mathlib.Core.Bool.{true, false, false≢true, and-eq-true_iff}
use mathlib.Core.Logic.{◌↔◌}
use Prim.Native.Nat.{ℕ, ◌/◌, ◌%◌, ◌≤◌, ◌<◌}
use lib.Dec.{eqb, leb}
use borrow.Author.Tests.{eqb-true, leb-true, eq-eqb, le-leb}
use Rattle.walks.specs.BoundedStep.{after}
use Rattle.nets.specs.Net.{Usable, Fits}
use Rattle.nets.specs.Table.{next}
use Rattle.passes.specs.Pass.{Pass, Along, closes_at, node}
use Rattle.passes.proofs.Nodes.{node-level, node-mode}

-- an arc closes the cycle exactly where it comes to the goal with the least charge or more
pub closes-at : (goal least u x : ℕ) → (closes_at goal least u x ≡ true) ↔ ((u ≡ goal) × (least ≤ x))
unfolding closes_at
closes-at goal least u x = (
  λ h. let q = (and-eq-true_iff (eqb u goal) (leb least x)).0 h in (eqb-true u goal q.0, leb-true least x q.1),
  λ h. rw (eq-eqb u goal h.0, le-leb least x h.1) refl,
)

-- where it does not, it is not at the goal or has less
pub closes-not : (goal least u x : ℕ) → closes_at goal least u x ≡ false → u ≡ goal → least ≤ x → ⊥
closes-not goal least u x h q k = false≢true (sym h ∙ (closes-at goal least u x).1 (q, k))

module _ (P : Pass) where
  -- arc a of the net takes node v with charge e to node u with charge x
  pub record Taken (a v e u x : ℕ) : Type 0 where
    pub known : a < P.net.count
    pub allowed : P.ok a ≡ true
    pub leaves : P.net.graph.source a ≡ v % P.net.modes
    pub possible : (P.net.graph.move a).draw ≤ e
    pub left : after P.bound (P.net.graph.move a) e ≡ x
    pub rises : next P.net P.last (v / P.net.modes) a ≡ u / P.net.modes
    pub enters : P.net.graph.target a ≡ u % P.net.modes

  module _ (fits : Fits P.net) (usable : (a : ℕ) → a < P.net.count → P.ok a ≡ true → Usable P.net a) where
    -- a step of the pass is a step of the net
    pub along-taken : {a v e u x : ℕ} → Along P a v e u x → Taken a v e u x
    along-taken {a} {v} {e} {u} {x} d =
        let n = P.net.modes in
        let l = next P.net P.last (v / n) a in
        let t = P.net.graph.target a in
        let f = fits.targets a (usable a d.known d.allowed) in
        record {
          known = d.known;
          allowed = d.allowed;
          leaves = d.leaves;
          possible = d.possible;
          left = sym d.left;
          rises = sym (ap {B = ℕ} (λ (y : ℕ). y / n) d.enters ∙ node-level n l t f);
          enters = sym (ap {B = ℕ} (λ (y : ℕ). y % n) d.enters ∙ node-mode n l t f);
        }

    -- where an arc of the net is possible, the pass has a step along it
    pub arc-along : (a l e : ℕ) → a < P.net.count → P.ok a ≡ true → (P.net.graph.move a).draw ≤ e
        → Along P a (node P.net.modes l (P.net.graph.source a)) e
        (node P.net.modes (next P.net P.last l a) (P.net.graph.target a)) (after P.bound (P.net.graph.move a) e)
    arc-along a l e h o p =
        let n = P.net.modes in
        let t = P.net.graph.source a in
        let f = fits.sources a (usable a h o) in
        record {
          known = h;
          allowed = o;
          leaves = sym (node-mode n l t f);
          possible = p;
          left = refl;
          enters = rw (node-level n l t f) refl;
        }
