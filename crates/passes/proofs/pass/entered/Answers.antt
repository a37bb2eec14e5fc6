-- `pass::entered` meets its contract: the node of the level after the arc and of its target. Assumes nothing.
use mathlib.Core.Path.{◌≡◌, ap}
use Prim.Native.Nat.{ℕ, ◌+◌, ◌*◌, ◌≤◌}
use native.Mathlib.Nat.{mul-le-mul}
use native.Mathlib.Omega.{arith}
use Rattle.limits.specs.Ceilings.{modes_most, colours_most}
use Rattle.passes.specs.Pass.{node}
use Rattle.passes.specs.Tasks.{level_after}
use Rattle.passes.proofs.Trying.{level-after-low}
use Rattle.passes.proofs.pass.entered.Goals as goal

-- the first node of the level after an arc is small
after_small : (n last x l : ℕ) → l ≤ last → last ≤ colours_most → n ≤ modes_most → (r : ℕ) → r ≡ level_after last x l
    → r * n ≤ colours_most * modes_most
after_small n last x l h k q r e =
    let low : r ≤ colours_most = omega (arith, level-after-low last x l h) in
    mul-le-mul low q

pub overflow_mul-result : goal.overflow_mul-result
overflow_mul-result c =
    let a = c.args in
    let h = c.requires in
    omega (arith, after_small a.modes a.last a.colours a.level h.0 h.1 h.2 _ c.next_level-level.ensures)

pub overflow_add-result : goal.overflow_add-result
overflow_add-result c =
    let a = c.args in
    let h = c.requires in
    omega (arith, after_small a.modes a.last a.colours a.level h.0 h.1 h.2 _ c.next_level-level.ensures)

pub returns : goal.returns
unfolding node
returns c = let a = c.args in ap (λ l. l * a.modes + a.target) c.next_level-level.ensures
