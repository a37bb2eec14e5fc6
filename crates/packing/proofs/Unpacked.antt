-- The parts that a caller takes out of a word are those that were packed. Assumes nothing.
use mathlib.Core.Path.{◌≡◌}
use Prim.Native.Nat.{ℕ}
use native.Mathlib.Omega.{arith}
use Rattle.refusals.specs.declared.Answer.{Answer}
use Rattle.packing.specs.Packing.{packed, Fields, number_in, detail_in, first_in, second_in, value_in}

-- the parts of the word r are those of the answer a, x and y
pub record Parts (r : ℕ) (a : Answer) (x y : ℕ) : Type 0 where
  pub number : number_in r ≡ a.number
  pub detail : detail_in r ≡ a.detail
  pub first : first_in r ≡ x
  pub second : second_in r ≡ y

pub unpacked : (a : Answer) (x y : ℕ) → Fields a x y → Parts (packed a x y) a x y
unpacked a x y f = omega arith

-- a value alone, in bits 32 to 63
pub unpacked-value : (a : Answer) (x : ℕ) → Fields a x 0 → value_in (packed a x 0) ≡ x
unpacked-value a x f = omega arith
