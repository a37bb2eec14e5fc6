-- The sizes of the buffers of a search: what the passes and the plan take of them. Assumes nothing.
use mathlib.Core.Path.{◌≡◌}
use mathlib.Core.List.{List}
use Prim.Native.Nat.{ℕ, suc, ◌+◌, ◌-◌, ◌*◌, ◌≤◌}
use native.Mathlib.Nat.{add-zero, suc-mul, add-mul, mul_assoc, mul-le-mul}
use native.Mathlib.Numerals.{add-one}
use native.Mathlib.Omega.{arith}
use lib.ListN.{length, take, drop, length-drop}
use Rattle.limits.specs.Ceilings.{colours_most, product_most, plan_most, plan_levels, plan_buffer}
use Rattle.judge.proofs.Arcs.{rest_part}
use Rattle.passes.specs.Pass.{node, nodes, room}

module _ (k n b : ℕ) where
  -- the plan buffer holds as many bytes as the two passes have pairs of a node and a charge
  plan-parts : room n b + room (nodes n k) b ≡ plan_buffer k n b
  unfolding room node
  plan-parts =
      let x = n * (b + 1) in
      rw (add-zero (suc k * n))
      (omega (arith, mul_assoc (suc k) n (b + 1), suc-mul k x, mul_assoc (k + plan_levels) n (b + 1), add-mul k plan_levels x))

  -- a plan that the buffer holds is not too long to be judged
  pub buffer-short : k ≤ colours_most → n * (b + 1) ≤ product_most → plan_buffer k n b ≤ plan_most
  buffer-short few product =
      let levels : k + plan_levels ≤ colours_most + plan_levels = omega arith in
      omega (arith, mul_assoc (k + plan_levels) n (b + 1), mul-le-mul levels product)

  -- a plan whose parts are as short as the passes has room in the buffer
  pub plan-held : (p q : ℕ) → p ≤ room n b → q ≤ room (nodes n k) b → p + q ≤ plan_buffer k n b
  plan-held p q prefix cycle = omega (arith, plan-parts)

  -- so has its prefix
  pub prefix-held : (size : ℕ) → plan_buffer k n b ≤ size → room n b ≤ size
  prefix-held size buffer = omega (arith, plan-parts)

  -- and, behind the prefix, its cycle
  pub cycle-held : (p : ℕ) (plan : List ℕ) → p ≤ room n b → plan_buffer k n b ≤ length plan
      → room (nodes n k) b ≤ length (take (length plan - p) (drop p plan))
  cycle-held p plan prefix buffer = rw (rest_part p plan) (omega (arith, plan-parts, length-drop p plan))

-- the pairs of a mode and a charge, as document 01 counts them
pub prefix-few : (n b p : ℕ) → p ≤ room n b → p ≤ n * (b + 1)
unfolding room
prefix-few n b p few = few

-- and those with a level
pub cycle-few : (k n b q : ℕ) → q ≤ room (nodes n k) b → q ≤ (k + 1) * n * (b + 1)
unfolding room node
cycle-few k n b q few = rw (add-one k) (rw (add-zero (suc k * n)) at few)
