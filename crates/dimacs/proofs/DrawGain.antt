-- The draw and the gain on a line: one of them is 0, and each has nine digits at most. Document 02, Ask 4. Assumes nothing.
use mathlib.Core.Path.{◌≡◌, refl}
use mathlib.Core.Bool.{Bool, true, false, cond}
use mathlib.Core.List.{List, [], ◌∷◌}
use mathlib.Core.Logic.{◌⊎◌, inl, inr}
use Prim.Native.Nat.{ℕ, zero, suc, ◌+◌, ◌-◌, ◌*◌, ◌^◌, ◌≤◌, ◌<◌}
use native.Mathlib.Nat.{add-zero, pow-le-pow_right}
use native.Mathlib.Omega.{arith}
use lib.IntN.{ℤ, pos, negsuc}
use lib.ListN.{length, take}
use lib.Seq.{length-take-le}
use Rattle.limits.specs.Ceilings.{digits_most}
use Rattle.fields.specs.Fields.{digit_count, value, is_plain, number_of}
use Rattle.fields.proofs.Numbers.{plain-bounds, digits_le, below_power}
use Rattle.fields.proofs.Forms.{leading}
use Rattle.fields.proofs.Printed.{Digits}
use Rattle.dimacs.specs.Lines.{weight_field, is_negative, unsigned, signed, weight_on, parts_of, parts_on}

value-below : (k v : ℕ) (l : List ℕ) → v < 10 ^ k → Digits l → value v l < 10 ^ (k + length l)
unfolding value
value-below k v [] h f = rw (add-zero k) h
value-below k v (x ∷ l) h f =
    let sum : k + suc (length l) ≡ (k + 1) + length l = omega arith in
    rw sum (value-below (k + 1) (v * 10 + (x - 48)) l (below_power k v (x - 48) h (omega (arith, f.1))) f.2)

-- a plain number is below ten to the ninth
pub number-below : (l : List ℕ) → number_of l < 10 ^ digits_most
unfolding number_of
number-below l = go (is_plain (digit_count l)) refl
  where
    go : (t : Bool) → is_plain (digit_count l) ≡ t → cond t (value 0 (take (digit_count l) l)) 0 < 10 ^ digits_most
    go true e =
        let size = length-take-le (digit_count l) l (digits_le l) in
        let few : 0 + length (take (digit_count l) l) ≤ digits_most = omega (arith, size, (plain-bounds (digit_count l) e).1) in
        omega (arith, value-below 0 0 (take (digit_count l) l) (omega arith) (leading l), pow-le-pow_right {n = 10} (omega arith) few)
    go false e = omega arith

parts-of-one : (w : ℤ) → ((parts_of w).draw ≡ 0) ⊎ ((parts_of w).gain ≡ 0)
parts-of-one (pos x) = inl refl
parts-of-one (negsuc x) = inr refl

-- a weight with both parts cannot be written
pub parts-one : (l : List ℕ) → ((parts_on l).draw ≡ 0) ⊎ ((parts_on l).gain ≡ 0)
parts-one l = parts-of-one (weight_on l)

signed-most : (t : Bool) (x m : ℕ) → x ≤ m → ((parts_of (signed t x)).draw ≤ m) × ((parts_of (signed t x)).gain ≤ m)
signed-most false x m h = (omega arith, h)
signed-most true zero m h = (omega arith, omega arith)
signed-most true (suc x) m h = (h, omega arith)

pub parts-most : (l : List ℕ) → ((parts_on l).draw ≤ 999999999) × ((parts_on l).gain ≤ 999999999)
parts-most l =
    let f = weight_field l in
    signed-most (is_negative f) (number_of (unsigned f)) 999999999 (omega (arith, number-below (unsigned f)))
