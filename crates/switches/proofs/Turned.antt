-- One bit of a word set or cleared: by `or` and `and` with a mask, as the code does it, and what the bits then are. Assumes nothing.
use mathlib.Core.Path.{◌≡◌, refl, sym, ap, ◌∙◌}
use mathlib.Core.Bool.{Bool, true, false, not, or-false}
use mathlib.Core.Logic.{◌≢◌}
use Prim.Native.Nat.{ℕ, zero, suc, ◌+◌, ◌-◌, ◌*◌, ◌/◌, ◌%◌, ◌^◌, ◌≤◌, ◌<◌, min}
use native.Mathlib.Nat.{zero-mul, one-mul, pow-suc, div-eq_of_lt, add-div_right}
use native.Mathlib.Omega.{arith}
use native.Mathlib.Decide.{dec_le}
use lib.Bits.{bit_and, bit_or, and_step, and_mask, and_high, or_add_and, or_lt}
use lib.Dec.{eqb, lit<}
use lib.Pow.{pow_pos, pow-lt, shl_exact}
use borrow.Author.Tests.{eqb-true, eqb-false, eq-eqb, ne_eqb}
use Rattle.model.specs.Automaton.{bit}
use Rattle.model.proofs.Bits.{or-bit, power-bit}
use Rattle.switches.specs.Switches.{turned, turned_from}

-- 1 shifted within a word of 64 bits
one_shl : (i : ℕ) → i < 64 → 1 * 2 ^ i % 2 ^ 64 ≡ 2 ^ i
one_shl i h = shl_exact 1 i 64 (lit< tt) (omega arith) ∙ one-mul (2 ^ i)

-- the test of bit i, as the code does it
pub shifted_test : (x i : ℕ) → eqb (bit_and (x / 2 ^ i) 1) 1 ≡ bit x i
shifted_test x i = ap {B = Bool} (λ (d : ℕ). eqb d 1) (and_mask (x / 2 ^ i) 1)

-- a bit as a digit
digit-on : (x i : ℕ) → bit x i ≡ true → x / 2 ^ i % 2 ≡ 1
digit-on x i e = eqb-true (x / 2 ^ i % 2) 1 e

digit-off : (x i : ℕ) → bit x i ≡ false → x / 2 ^ i % 2 ≡ 0
digit-off x i e = omega (arith, eqb-false (x / 2 ^ i % 2) 1 e)

-- what a number has in common with 2 ^ i: its bit i
and-power : (x i : ℕ) → bit_and x (2 ^ i) ≡ (x / 2 ^ i % 2) * 2 ^ i
and-power x i =
    let e : 1 + i ≡ suc i = omega arith in
    let two : 2 ^ (1 + i) - 2 ^ i ≡ 2 ^ i = rw e (omega (arith, pow-suc 2 i)) in
    rw two at (and_high x 1 i)

and-power-on : (x i : ℕ) → bit x i ≡ true → bit_and x (2 ^ i) ≡ 2 ^ i
and-power-on x i e = and-power x i ∙ ap {B = ℕ} (λ (d : ℕ). d * 2 ^ i) (digit-on x i e) ∙ one-mul (2 ^ i)

and-power-off : (x i : ℕ) → bit x i ≡ false → bit_and x (2 ^ i) ≡ 0
and-power-off x i e = and-power x i ∙ ap {B = ℕ} (λ (d : ℕ). d * 2 ^ i) (digit-off x i e) ∙ zero-mul (2 ^ i)

-- bit i set, by `or`
or_turned : (x i : ℕ) → bit_or x (2 ^ i) ≡ turned true x i
unfolding turned
or_turned x i = go (bit x i) refl
  where
    go : (was : Bool) → bit x i ≡ was → bit_or x (2 ^ i) ≡ turned_from was true x i
    go true e = omega (arith, or_add_and x (2 ^ i), and-power-on x i e)
    go false e = omega (arith, or_add_and x (2 ^ i), and-power-off x i e)

-- the two parts of a digit, by a mask and by its complement
digit-parts : (x y : ℕ) → x < 2 → y < 2 → min x (1 - y) + min x y ≡ x
digit-parts x y h q = omega arith

-- the two parts of a number of k digits, by a mask y and by its complement
and_parts : (k x y : ℕ) → x < 2 ^ k → y < 2 ^ k → bit_and x (2 ^ k - 1 - y) + bit_and x y ≡ x
and_parts zero x y h q = let z : x ≡ 0 = omega arith in rw z refl
and_parts (suc k) x y h q =
    let p = pow-suc 2 k in
    let half : (2 ^ suc k - 1 - y) / 2 ≡ 2 ^ k - 1 - y / 2 = omega arith in
    let odd : (2 ^ suc k - 1 - y) % 2 ≡ 1 - y % 2 = omega arith in
    let ih = and_parts k (x / 2) (y / 2) (omega arith) (omega arith) in
    let kept = rw (half, odd) at (and_step x (2 ^ suc k - 1 - y)) in
    omega (arith, kept, and_step x y, ih, digit-parts (x % 2) (y % 2) (omega arith) (omega arith))

-- bit i cleared, by `and` with the complement
and-turned : (k x i : ℕ) → x < 2 ^ k → i < k → bit_and x (2 ^ k - 1 - 2 ^ i) ≡ turned false x i
unfolding turned
and-turned k x i h q = go (bit x i) refl
  where
    go : (was : Bool) → bit x i ≡ was → bit_and x (2 ^ k - 1 - 2 ^ i) ≡ turned_from was false x i
    go true e = omega (arith, and_parts k x (2 ^ i) h (pow-lt q), and-power-on x i e)
    go false e = omega (arith, and_parts k x (2 ^ i) h (pow-lt q), and-power-off x i e)

-- bit i of a word of 64 bits set and cleared, as the code does it
pub shifted-set : (x i : ℕ) → i < 64 → bit_or x (1 * 2 ^ i % 2 ^ 64) ≡ turned true x i
shifted-set x i q = ap {B = ℕ} (bit_or x) (one_shl i q) ∙ or_turned x i

pub shifted-clear : (x i : ℕ) → x < 2 ^ 64 → i < 64 → bit_and x (2 ^ 64 - 1 - 1 * 2 ^ i % 2 ^ 64) ≡ turned false x i
shifted-clear x i h q = ap {B = ℕ} (λ (y : ℕ). bit_and x (2 ^ 64 - 1 - y)) (one_shl i q) ∙ and-turned 64 x i h q

-- a number with bit i is at least 2 ^ i, and less by that it has not the bit ..
power_le : (x i : ℕ) → bit x i ≡ true → 2 ^ i ≤ x
power_le x i e =
    let d = digit-on x i e in
    elim (dec_le (2 ^ i) x) [ yes h ↦ h | no h ↦ absurd (let z : x / 2 ^ i ≡ 0 = div-eq_of_lt (omega arith) in omega arith) ]

taken-bit : (x i : ℕ) → bit x i ≡ true → bit (x - 2 ^ i) i ≡ false
taken-bit x i e =
    let le = power_le x i e in
    let d = digit-on x i e in
    let back : x - 2 ^ i + 2 ^ i ≡ x = omega arith in
    let up : x / 2 ^ i ≡ (x - 2 ^ i) / 2 ^ i + 1 = rw back at (add-div_right (x - 2 ^ i) (pow_pos i)) in
    ne_eqb ((x - 2 ^ i) / 2 ^ i % 2) 1 (λ q. omega arith)

-- .. and one without the bit has it when it is more by that
given-bit : (x i : ℕ) → bit x i ≡ false → bit (x + 2 ^ i) i ≡ true
given-bit x i e =
    let d = digit-off x i e in
    let up : (x + 2 ^ i) / 2 ^ i ≡ x / 2 ^ i + 1 = add-div_right x (pow_pos i) in
    eq-eqb ((x + 2 ^ i) / 2 ^ i % 2) 1 (omega arith)

-- a bit that is told already
pub turned-already : (told : Bool) (x i : ℕ) → bit x i ≡ told → turned told x i ≡ x
unfolding turned
turned-already true x i e = rw e refl
turned-already false x i e = rw e refl

-- the bit is as told ..
pub turned_same : (told : Bool) (x i : ℕ) → bit (turned told x i) i ≡ told
unfolding turned
turned_same told x i = go told (bit x i) refl
  where
    go : (told was : Bool) → bit x i ≡ was → bit (turned_from was told x i) i ≡ told
    go true true e = e
    go true false e = given-bit x i e
    go false true e = taken-bit x i e
    go false false e = e

-- .. and turned back, the word is as it was
pub turned-back : (told : Bool) (x i : ℕ) → bit x i ≡ told → turned told (turned (not told) x i) i ≡ x
unfolding turned
turned-back true x i e = rw (e, taken-bit x i e) (let h = power_le x i e in omega arith)
turned-back false x i e = rw (e, given-bit x i e) (omega arith)

-- the other bits stay
set_other : (x i j : ℕ) → j ≢ i → bit (turned true x i) j ≡ bit x j
set_other x i j ne =
    ap {B = Bool} (λ (y : ℕ). bit y j) (sym (or_turned x i)) ∙ or-bit x (2 ^ i) j
    ∙ rw (power-bit i j, ne_eqb i j (λ e. ne (sym e))) (or-false (bit x j))

pub turned-other : (told : Bool) (x i j : ℕ) → j ≢ i → bit (turned told x i) j ≡ bit x j
turned-other true x i j ne = set_other x i j ne
turned-other false x i j ne = go (bit x i) refl
  where
    go : (was : Bool) → bit x i ≡ was → bit (turned false x i) j ≡ bit x j
    go true e = sym (set_other (turned false x i) i j ne) ∙ ap {B = Bool} (λ (y : ℕ). bit y j) (turned-back true x i e)
    go false e = ap {B = Bool} (λ (y : ℕ). bit y j) (turned-already false x i e)

-- a word of k bits stays one
pub turned-below : (told : Bool) (k x i : ℕ) → x < 2 ^ k → i < k → turned told x i < 2 ^ k
unfolding turned
turned-below true k x i h q = rw (or_turned x i) at (or_lt k x (2 ^ i) h (pow-lt q))
turned-below false k x i h q = go (bit x i)
  where
    go : (was : Bool) → turned_from was false x i < 2 ^ k
    go true = omega arith
    go false = h
