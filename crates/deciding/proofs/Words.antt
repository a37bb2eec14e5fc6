-- Words that are lent: a part of a table on the stack, a word that is not 0, a word that is set. Assumes nothing.
use mathlib.Core.Path.{◌≡◌, sym}
use mathlib.Core.List.{List, ◌++◌}
use Prim.Native.Nat.{ℕ, ◌≤◌, ◌<◌}
use native.Mathlib.Omega.{arith}
use native.Mathlib.Decide.{dec_lt}
use lib.ListN.{length, get_or, set, take, drop, replicate, get_or-eq_default}
use lib.Seq.{length-take-le, length_front}
use Rattle.limits.specs.Ceilings.{modes_most}
use Rattle.passes.specs.Queue.{sum}
use Rattle.passes.proofs.Queue.{sum-set}
use Rattle.deciding.specs.Deciding.{word}

-- a table as it is made on the stack
abbrev pub blank : List ℕ
blank = replicate modes_most 0

-- a word for each of n modes is lent of it
pub lent-words : (n : ℕ) → n ≤ modes_most → n ≡ length (take n blank)
lent-words n h = sym (length-take-le n blank (omega arith))

-- and lent again, once the part that was lent is back
module _ (part : List ℕ) (n : ℕ) (few : n ≤ modes_most) (size : length part ≡ length (take n blank)) where
  pub back_fits : n ≤ length (part ++ drop n blank)
  back_fits = omega (arith, length_front blank part n size)

  pub lent_back : n ≡ length (take n (part ++ drop n blank))
  lent_back = sym (length-take-le n (part ++ drop n blank) back_fits)

-- a word that is not 0 stands in the list
pub word-inside : (w : List ℕ) (v : ℕ) → 0 < word w v → v < length w
word-inside w v h =
    elim (dec_lt v (length w)) [
      | yes q ↦ q
      | no q ↦ absurd (omega (arith, get_or-eq_default w 0 {n = v} (omega arith)))
    ]

-- storing no more than was there does not raise the sum
pub set_sum : (l : List ℕ) (i v : ℕ) → i < length l → v ≤ get_or l i 0
    → (sum (set l i v) ≤ sum l) × (v < get_or l i 0 → sum (set l i v) < sum l)
set_sum l i v hi h = (omega (arith, sum-set l i v hi), λ k. omega (arith, sum-set l i v hi))
