-- What the sizes of the lent buffers come to; this pins their formulas. Assumes nothing.
use mathlib.Core.Path.{◌≡◌}
use Prim.Native.Nat.{ℕ, ◌+◌, ◌*◌}
use native.Mathlib.Nat.{mul_assoc, add-mul}
use native.Mathlib.Omega.{arith}
use Rattle.limits.specs.Ceilings.{work_words, work_levels, work_space, plan_levels, plan_buffer, decide_words, decide_space}

module _ (k n b : ℕ) where
  -- the working space: 4 words for each level from 0 to k, mode and charge from 0 to b
  pub work-entries : work_space k n b ≡ 4 * ((k + 1) * (n * (b + 1)))
  work-entries = omega (arith, mul_assoc (work_words * (k + work_levels)) n (b + 1), mul_assoc work_words (k + work_levels) (n * (b + 1)))

  -- the plan buffer: "a run-in of at most n(b+1) and a round of at most (k+1)n(b+1) arcs"
  pub plan-bytes : plan_buffer k n b ≡ n * (b + 1) + (k + 1) * n * (b + 1)
  plan-bytes =
      let x = n * (b + 1) in
      omega (arith, mul_assoc (k + plan_levels) n (b + 1), add-mul k plan_levels x, mul_assoc (k + 1) n (b + 1), add-mul k 1 x)

-- the working space of a decision: 16 words for each level from 0 to k and mode
pub decide-entries : (k n : ℕ) → decide_space k n ≡ 16 * ((k + 1) * n)
decide-entries k n = omega (arith, mul_assoc decide_words (k + work_levels) n)
