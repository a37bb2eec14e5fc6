-- Colour bytes: powers of two as the code makes them, and what it means that a byte has no bit at or above k. Assumes nothing.
use mathlib.Core.Path.{◌≡◌, refl, sym, ap, ◌∙◌}
use mathlib.Core.Bool.{Bool, false, ◌&&◌, ◌||◌}
use mathlib.Core.Logic.{◌↔◌}
use Prim.Native.Nat.{ℕ, zero, suc, ◌+◌, ◌*◌, ◌/◌, ◌%◌, ◌^◌, ◌≤◌, ◌<◌, min, max}
use native.Mathlib.Nat.{one-mul, add-zero, add-suc, two-pow-succ, pow-suc, div-one, div-eq_of_lt, mul-mod_left, div-div-eq-div-mul, div-lt_iff_lt-mul}
use native.Mathlib.Omega.{arith}
use lib.Bits.{bit_and, bit_or, and_step, and_shr, or_step, or_shr}
use lib.Dec.{eqb, eqb-zero-suc, eqb-suc-zero, eqb-suc-suc, lit<}
use lib.Pow.{pow_pos, pow_mono, pow-add, shl_exact}
use borrow.Author.Tests.{eqb-false}
use Rattle.model.specs.Automaton.{Automaton, arc_at, bit, meets}

-- 1 shifted within a word of 32 bits
pub one_shl : (k : ℕ) → k ≤ 31 → 1 * 2 ^ k % 4294967296 ≡ 2 ^ k
one_shl k h = shl_exact 1 k 32 (lit< tt) (omega arith) ∙ one-mul (2 ^ k)

below-pow : (x : ℕ) → x < 2 ^ x
below-pow zero = pow_pos 0
below-pow (suc x) = omega (arith, below-pow x, two-pow-succ x)

-- a number below 2 ^ (j + 1) without bit j is below 2 ^ j
top_bit : (x j : ℕ) → x < 2 ^ suc j → bit x j ≡ false → x < 2 ^ j
top_bit x j h q =
    let two : x / 2 ^ j < 2 = (div-lt_iff_lt-mul (pow_pos j)).1 (omega (arith, two-pow-succ j)) in
    let none : x / 2 ^ j < 1 = omega (arith, eqb-false (x / 2 ^ j % 2) 1 q) in
    omega (arith, (div-lt_iff_lt-mul {x = x} (pow_pos j)).0 none)

cleared : (x k d : ℕ) → x < 2 ^ (k + d) → ((j : ℕ) → k ≤ j → bit x j ≡ false) → x < 2 ^ k
cleared x k zero h f = rw (add-zero k) at h
cleared x k (suc d) h f = cleared x k d (top_bit x (k + d) (rw (add-suc k d) at h) (f (k + d) (omega arith))) f

-- no bit at or above k: below 2 ^ k
pub colours-below : (x k : ℕ) → (x < 2 ^ k) ↔ ((j : ℕ) → k ≤ j → bit x j ≡ false)
colours-below x k = (to, from)
  where
    to : x < 2 ^ k → (j : ℕ) → k ≤ j → bit x j ≡ false
    to h j q =
        let z : x / 2 ^ j ≡ 0 = div-eq_of_lt (omega (arith, h, pow_mono q)) in
        rw z refl

    from : ((j : ℕ) → k ≤ j → bit x j ≡ false) → x < 2 ^ k
    from f = cleared x k x (omega (arith, below-pow x, pow_mono {i = x} {j = k + x} (omega arith))) f

-- a word of 64 bits has none above them
pub word_bits : (w i : ℕ) → w < 2 ^ 64 → 64 ≤ i → bit w i ≡ false
word_bits w i h = (colours-below w 64).0 h i

-- the byte 0 has no bit
pub bit-zero : (j : ℕ) → bit 0 j ≡ false
bit-zero j = (colours-below 0 0).0 (omega arith) j (omega arith)

-- bit j of a number without its k lowest bits is its bit k + j
pub shifted-bit : (y k j : ℕ) → bit (y / 2 ^ k) j ≡ bit y (k + j)
shifted-bit y k j =
    ap {B = Bool} (λ (x : ℕ). eqb (x % 2) 1) (div-div-eq-div-mul y (2 ^ k) (2 ^ j) ∙ ap {B = ℕ} (λ (x : ℕ). y / x) (sym (pow-add 2 k j)))

-- bit j of the half of a number is its bit j + 1
pub half-bit : (y j : ℕ) → bit (y / 2) j ≡ bit y (suc j)
half-bit y j = shifted-bit y 1 j ∙ ap {B = Bool} (bit y) (omega arith)

-- of a power of two, 2 ^ i, bit i alone is set: the bits of a colour byte are counted from the lowest
pub power-bit : (i j : ℕ) → bit (2 ^ i) j ≡ eqb i j
power-bit zero zero = refl
power-bit zero (suc j) =
    let none : 1 / 2 ^ suc j ≡ 0 = div-eq_of_lt (omega (arith, pow_pos j, two-pow-succ j)) in
    rw (none, eqb-zero-suc j) refl
power-bit (suc i) zero = rw (div-one (2 ^ suc i), pow-suc 2 i, mul-mod_left (2 ^ i) 2, eqb-suc-zero i) refl
power-bit (suc i) (suc j) =
    let half : 2 ^ suc i / 2 ≡ 2 ^ i = omega (arith, pow-suc 2 i) in
    sym (half-bit (2 ^ suc i) j) ∙ rw (half, eqb-suc-suc i j) (power-bit i j)

-- the greater of two digits is 1 where one of them is
max-digit : (x y : ℕ) → x < 2 → y < 2 → eqb (max x y) 1 ≡ (eqb x 1 || eqb y 1)
max-digit zero zero hx hy = refl
max-digit zero (suc zero) hx hy = refl
max-digit (suc zero) zero hx hy = refl
max-digit (suc zero) (suc zero) hx hy = refl
max-digit (suc (suc x)) y hx hy = absurd (omega arith)
max-digit zero (suc (suc y)) hx hy = absurd (omega arith)
max-digit (suc zero) (suc (suc y)) hx hy = absurd (omega arith)

-- a bit of `or` is a bit of one of the two
pub or-bit : (a b j : ℕ) → bit (bit_or a b) j ≡ (bit a j || bit b j)
or-bit a b j =
    let digit : bit_or (a / 2 ^ j) (b / 2 ^ j) % 2 ≡ max (a / 2 ^ j % 2) (b / 2 ^ j % 2) = omega (arith, or_step (a / 2 ^ j) (b / 2 ^ j)) in
    ap {B = Bool} (λ (x : ℕ). eqb (x % 2) 1) (or_shr a b j) ∙ ap {B = Bool} (λ (x : ℕ). eqb x 1) digit
    ∙ max-digit (a / 2 ^ j % 2) (b / 2 ^ j % 2) (omega arith) (omega arith)

-- the lesser of two digits is 1 where both are
min-digit : (x y : ℕ) → x < 2 → y < 2 → eqb (min x y) 1 ≡ (eqb x 1 && eqb y 1)
min-digit zero zero hx hy = refl
min-digit zero (suc zero) hx hy = refl
min-digit (suc zero) zero hx hy = refl
min-digit (suc zero) (suc zero) hx hy = refl
min-digit (suc (suc x)) y hx hy = absurd (omega arith)
min-digit zero (suc (suc y)) hx hy = absurd (omega arith)
min-digit (suc zero) (suc (suc y)) hx hy = absurd (omega arith)

-- a bit of `and` is a bit of both
pub and-bit : (a b j : ℕ) → bit (bit_and a b) j ≡ (bit a j && bit b j)
and-bit a b j =
    let digit : bit_and (a / 2 ^ j) (b / 2 ^ j) % 2 ≡ min (a / 2 ^ j % 2) (b / 2 ^ j % 2) = omega (arith, and_step (a / 2 ^ j) (b / 2 ^ j)) in
    ap {B = Bool} (λ (x : ℕ). eqb (x % 2) 1) (and_shr a b j) ∙ ap {B = Bool} (λ (x : ℕ). eqb x 1) digit
    ∙ min-digit (a / 2 ^ j % 2) (b / 2 ^ j % 2) (omega arith) (omega arith)

-- the bits of a number are its binary digits, from the lowest on: so any set of colours has a byte
pub bit-digits : (x d : ℕ) → d < 2 → (bit (x * 2 + d) 0 ≡ eqb d 1) × ((j : ℕ) → bit (x * 2 + d) (suc j) ≡ bit x j)
bit-digits x d h =
    let digit : (x * 2 + d) % 2 ≡ d = omega arith in
    let rest : (x * 2 + d) / 2 ≡ x = omega arith in (
      rw (div-one (x * 2 + d), digit) refl,
      λ j. sym (half-bit (x * 2 + d) j) ∙ ap {B = Bool} (λ (y : ℕ). bit y j) rest,
    )

-- digits that are both 1 or both not are the same
same-digit : (x y : ℕ) → x < 2 → y < 2 → eqb x 1 ≡ eqb y 1 → x ≡ y
same-digit zero zero hx hy e = refl
same-digit zero (suc zero) hx hy e = absurd (let z : ◌≡◌ {A = ℕ} 0 1 = cc in omega arith)
same-digit (suc zero) zero hx hy e = absurd (let z : ◌≡◌ {A = ℕ} 0 1 = cc in omega arith)
same-digit (suc zero) (suc zero) hx hy e = refl
same-digit (suc (suc x)) y hx hy e = absurd (omega arith)
same-digit zero (suc (suc y)) hx hy e = absurd (omega arith)
same-digit (suc zero) (suc (suc y)) hx hy e = absurd (omega arith)

low_bit : (x : ℕ) → bit x 0 ≡ eqb (x % 2) 1
low_bit x = rw (div-one x) refl

same-below : (n x y : ℕ) → x ≤ n → y ≤ n → ((j : ℕ) → bit x j ≡ bit y j) → x ≡ y
same-below zero x y hx hy f = omega arith
same-below (suc n) x y hx hy f =
    let low : eqb (x % 2) 1 ≡ eqb (y % 2) 1 = sym (low_bit x) ∙ f 0 ∙ low_bit y in
    let digit : x % 2 ≡ y % 2 = same-digit (x % 2) (y % 2) (omega arith) (omega arith) low in
    let rest : x / 2 ≡ y / 2 =
    same-below n (x / 2) (y / 2) (omega arith) (omega arith) (λ j. half-bit x j ∙ f (suc j) ∙ sym (half-bit y j)) in
    omega (arith, digit, rest)

-- numbers with the same bits are the same
pub bits-same : (x y : ℕ) → ((j : ℕ) → bit x j ≡ bit y j) → x ≡ y
bits-same x y f = same-below (x + y) x y (omega arith) (omega arith) f

-- an arc whose colour byte is 2 ^ i meets colour i alone
pub meets-one : (g : Automaton) (a i j : ℕ) → (arc_at g a).colours ≡ 2 ^ i → meets g j a ≡ eqb i j
meets-one g a i j e = rw e (power-bit i j)
