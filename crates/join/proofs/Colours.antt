-- One colour byte above the k bits of another. "the habit's colour j becomes the knee's k plus j". Assumes nothing.
use mathlib.Core.Path.{◌≡◌, sym, ap, ◌∙◌}
use mathlib.Core.Bool.{Bool}
use Prim.Native.Nat.{ℕ, suc, ◌+◌, ◌*◌, ◌-◌, ◌/◌, ◌%◌, ◌^◌, ◌<◌}
use native.Mathlib.Nat.{mul_assoc, mul_comm, mul-suc, mul-le-mul_left, pow-suc, div-eq_of_lt, mod-eq_of_lt, add-mul-div_left, add-mul-mod_self_left}
use native.Mathlib.Omega.{arith}
use lib.Dec.{eqb}
use lib.Bits.{bit_or, or_shifted_r}
use lib.Pow.{pow_pos, pow-add}
use Rattle.model.specs.Automaton.{bit}
use Rattle.model.proofs.Bits.{shifted-bit}
use Rattle.join.specs.Within.{ColoursFit}

-- bit j below k is that of the lower byte
pub low_bit : (x y k j : ℕ) → j < k → bit (x + 2 ^ k * y) j ≡ bit x j
low_bit x y k j h =
    let d = k - suc j in
    let q : k ≡ j + suc d = omega arith in
    let e : 2 ^ k * y ≡ 2 ^ j * (2 * (2 ^ d * y)) =
    ap (λ (z : ℕ). 2 ^ z * y) q
    ∙ ap (λ (z : ℕ). z * y) (pow-add 2 j (suc d) ∙ ap (λ (z : ℕ). 2 ^ j * z) (pow-suc 2 d ∙ mul_comm (2 ^ d) 2))
    ∙ mul_assoc (2 ^ j) (2 * 2 ^ d) y
    ∙ ap (λ (z : ℕ). 2 ^ j * z) (mul_assoc 2 (2 ^ d) y)
    in
    let s : (x + 2 ^ k * y) / 2 ^ j % 2 ≡ x / 2 ^ j % 2 =
    ap (λ (z : ℕ). (x + z) / 2 ^ j % 2) e
    ∙ ap (λ (z : ℕ). z % 2) (add-mul-div_left x (2 * (2 ^ d * y)) (pow_pos j))
    ∙ add-mul-mod_self_left (x / 2 ^ j) 2 (2 ^ d * y)
    in
    ap (λ (z : ℕ). eqb z 1) s

-- the upper byte, without the k bits below it. So x + 2 ^ k * y bars in the joined model the knee's colours x and the habit's colours y.
pub upper-byte : (x y k : ℕ) → x < 2 ^ k → (x + 2 ^ k * y) / 2 ^ k ≡ y
upper-byte x y k h = add-mul-div_left x y (pow_pos k) ∙ (omega (arith, div-eq_of_lt h))

-- bit k + j is bit j of the upper byte
pub high_bit : (x y k j : ℕ) → x < 2 ^ k → bit (x + 2 ^ k * y) (k + j) ≡ bit y j
high_bit x y k j h = sym (shifted-bit (x + 2 ^ k * y) k j) ∙ ap {B = Bool} (λ (z : ℕ). bit z j) (upper-byte x y k h)

-- k bits and k' bits above them are k + k' bits
pub colours-within : (x y k k' : ℕ) → x < 2 ^ k → y < 2 ^ k' → x + 2 ^ k * y < 2 ^ (k + k')
colours-within x y k k' h h' = rw (pow-add 2 k k') (omega (arith, mul-suc (2 ^ k) y, mul-le-mul_left (2 ^ k) h'))

-- as the code makes it
pub colours-or : (x y k : ℕ) → ColoursFit x y k → bit_or x (y * 2 ^ k % 256) ≡ x + 2 ^ k * y
colours-or x y k f =
    let exact : y * 2 ^ k % 256 ≡ y * 2 ^ k = mod-eq_of_lt (omega (arith, f.fits, mul_comm y (2 ^ k))) in
    ap (bit_or x) exact ∙ or_shifted_r y k x f.below ∙ (omega (arith, mul_comm y (2 ^ k)))
