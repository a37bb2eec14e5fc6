-- The law of a closed walk, document 01's "Fact to be used and proved": "a walk round any closed list of arcs, where possible, takes e to
-- the smaller of e + W and M for fixed W and M." It holds of every list, closed or not, with W what the moves gain
-- less what they draw. Assumes nothing.
use mathlib.Core.Path.{◌≡◌, refl}
use mathlib.Core.List.{List, [], ◌∷◌}
use mathlib.Core.Logic.{◌↔◌}
use Prim.Native.Nat.{ℕ, suc, ◌+◌, ◌-◌, ◌≤◌, min}
use native.Mathlib.Omega.{arith}
use native.Mathlib.Decide.{dec_le}
use lib.IntN.{pos, ◌-ℤ◌}
use Rattle.walks.specs.BoundedStep.{to}
use Rattle.walks.specs.BoundedStep.{Move, after}
use Rattle.walks.specs.Walk.{Ends, walked}
use Rattle.walks.specs.Spill.{spilled}
use Rattle.walks.specs.Weights.{weighed}
use Rattle.walks.specs.Moves.{charge, draws, gains, Possible}
use Rattle.walks.proofs.Sums.{total}
use Rattle.walks.proofs.Walks.{walked_to}
use Rattle.walks.proofs.Spill.{walk-balance}

module _ (b : ℕ) where
  -- What a list of moves does to every charge up to the bound: it is possible exactly from need on, and then takes e to the smaller of
  -- e + gains - draws and top. (With the draws on the left, so that nothing is cut off at 0.)
  pub record WalkLaw (ms : List Move) : Type 0 where
    pub need : ℕ
    pub top : ℕ
    pub top_bound : top ≤ b
    pub possible : (e : ℕ) → e ≤ b → Possible b ms e ↔ (need ≤ e)
    pub value : (e : ℕ) → e ≤ b → Possible b ms e → charge b ms e + draws ms ≡ min (e + gains ms) (top + draws ms)

  one-move : (d g e : ℕ) → d ≤ e → min (e - d + g) b + d ≡ min (e + g) (b + d)
  one-move d g e h = omega arith

  then-more : (d g e y x G D M : ℕ) → y ≤ b → y + d ≡ min (e + g) (b + d) → x + D ≡ min (y + G) (M + D)
      → x + (d + D) ≡ min (e + (g + G)) (min (b + G - D) M + (d + D))
  then-more d g e y x G D M h p q = omega arith

  law-step : (m : Move) (ms : List Move) → WalkLaw ms → WalkLaw (m ∷ ms)
  law-step m ms l =
      elim (dec_le l.need b) [
        | yes r ↦
            record {
              need = m.draw + (l.need - m.gain);
              top = min (b + gains ms - draws ms) l.top;
              top_bound = omega (arith, l.top_bound);
              possible = λ e h. (
                λ p. omega (arith, (l.possible (after b m e) (omega arith)).0 p.1),
                λ n. (omega arith, (l.possible (after b m e) (omega arith)).1 (omega arith)),
              );
              value = λ e h p.
                  then-more m.draw m.gain e (after b m e) _ (gains ms) (draws ms) l.top (omega arith)
                  (one-move m.draw m.gain e p.0)
                  (l.value (after b m e) (omega arith) p.1);
            }
        | no r ↦
            record {
              need = suc b;
              top = 0;
              top_bound = omega arith;
              possible = λ e h.
                  (λ p. absurd (omega (arith, (l.possible (after b m e) (omega arith)).0 p.1)), λ n. absurd (omega arith));
              value = λ e h p. absurd (omega (arith, (l.possible (after b m e) (omega arith)).0 p.1));
            }
      ]

  pub walk-law : (ms : List Move) → WalkLaw ms
  walk-law [] =
      record {
        need = 0;
        top = b;
        top_bound = omega arith;
        possible = λ e h. (λ p. omega arith, λ n. tt);
        value = λ e h p. omega arith;
      }
  walk-law (m ∷ ms) = law-step m ms (walk-law ms)

-- a step with the weight W = G − D, where e + W is not below 0: where it leads, and what it loses
step-total : (M e x D G s : ℕ) → x + D ≡ min (e + G) (M + D) → e + G ≡ x + D + s → weighed M (pos G -ℤ pos D) e ≡ to x s
unfolding weighed
step-total M e x D G s h k =
    let leads : min (e + G - D) M ≡ x = omega arith in
    let loses : e + G - D - M ≡ s = omega arith in
    rw (total e G D (omega arith), leads, loses) refl

-- The law as the paper words it: a walk of these moves, where possible, is one step with the weight W, under some bound M, in the charge that
-- it leads to and in what is lost; W is what the moves gain less what they draw.
pub closed-walk : (b : ℕ) (ms : List Move) →
    (M : ℕ) × (M ≤ b) × ((e x : ℕ) → e ≤ b → walked b ms e ≡ Ends x → weighed M (pos (gains ms) -ℤ pos (draws ms)) e ≡ to x (spilled b ms e))
closed-walk b ms =
    let l = walk-law b ms in (
      l.top,
      l.top_bound,
      λ e x h q.
          let (p, i) = walked_to b ms e x q in
          step-total l.top e x (draws ms) (gains ms) (spilled b ms e) (rw i at (l.value e h p)) (walk-balance b ms e x q),
    )
