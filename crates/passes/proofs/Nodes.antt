-- The nodes of a pass: their level and their mode are what they were made of. Assumes nothing.
use mathlib.Core.Path.{◌≡◌, ◌∙◌}
use Prim.Native.Nat.{ℕ, ◌/◌, ◌%◌, ◌<◌}
use native.Mathlib.Nat.{add-zero, zero-mul, zero-add, one-mul, div-eq_of_lt, mod-eq_of_lt, mul-add-div_right, mul-add-mod_self_right}
use native.Mathlib.Omega.{arith}
use Rattle.passes.specs.Pass.{node, nodes}

module _ (n : ℕ) where
  -- the level of a node
  pub node-level : (l t : ℕ) → t < n → node n l t / n ≡ l
  unfolding node
  node-level l t h = rw (mul-add-div_right {m = n} (omega arith) l t, div-eq_of_lt h) (add-zero l)

  -- the mode of a node
  pub node-mode : (l t : ℕ) → t < n → node n l t % n ≡ t
  unfolding node
  node-mode l t h = mul-add-mod_self_right l n t ∙ mod-eq_of_lt h

  -- the nodes of level 0 are the modes
  pub node-first : (t : ℕ) → node n 0 t ≡ t
  unfolding node
  node-first t = rw (zero-mul n) (zero-add t)

  -- and there are as many
  pub nodes-first : nodes n 0 ≡ n
  unfolding node
  nodes-first = rw (one-mul n) (add-zero n)
