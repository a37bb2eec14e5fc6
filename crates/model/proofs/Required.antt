-- Laws of the required colours: which bit of a compressed colour byte is which colour. Assumes nothing.
use mathlib.Core.Path.{◌≡◌, refl, sym, ap, ◌∙◌}
use mathlib.Core.Bool.{Bool, true, false, not}
use Prim.Native.Nat.{ℕ, zero, suc, ◌+◌, ◌-◌, ◌*◌, ◌/◌, ◌%◌, ◌^◌, ◌≤◌, ◌<◌}
use native.Mathlib.Nat.{div-one, add-zero, zero-add, mul-le-mul_right}
use native.Mathlib.Omega.{arith}
use native.Mathlib.Decide.{ℕ_discrete, dec_lt}
use lib.Dec.{eqb}
use borrow.Author.Tests.{eq-eqb, ne_eqb}
use Rattle.limits.specs.Ceilings.{colours_most}
use Rattle.model.specs.Automaton.{bit}
use Rattle.model.specs.Required.{digit, required, pushed, compressed_on, compressed}
use Rattle.model.proofs.Bits.{bit-zero, half-bit}

-- the lowest bit of a word, and the others
digit-here : (w : ℕ) (t : Bool) → bit (2 * w + digit t) 0 ≡ t
digit-here w true = let e : (2 * w + 1) % 2 ≡ 1 = omega arith in rw (div-one (2 * w + 1), e) refl
digit-here w false = let e : (2 * w + 0) % 2 ≡ 0 = omega arith in rw (div-one (2 * w + 0), e) refl

digit_low : (t : Bool) → digit t < 2
digit_low true = omega arith
digit_low false = omega arith

pub digit-half : (w : ℕ) (t : Bool) → (2 * w + digit t) / 2 ≡ w
digit-half w t = omega (arith, digit_low t)

-- the last bit of a word, as it is read
pub digit-odd : (w : ℕ) (t : Bool) → eqb ((2 * w + digit t) % 2) 1 ≡ t
digit-odd w true = let e : (2 * w + 1) % 2 ≡ 1 = omega arith in rw e refl
digit-odd w false = let e : (2 * w + 0) % 2 ≡ 0 = omega arith in rw e refl

digit-above : (w i : ℕ) (t : Bool) → bit (2 * w + digit t) (suc i) ≡ bit w i
digit-above w i t = sym (half-bit (2 * w + digit t) i) ∙ ap {B = Bool} (λ (z : ℕ). bit z i) (digit-half w t)

module _ (x y : ℕ) where
  -- the bits of the word w stand above those of the required colours
  compressed-above : (n w i : ℕ) → bit (compressed_on x y n w) (required x n + i) ≡ bit w i
  unfolding compressed_on required
  compressed-above zero w i = rw (zero-add i) refl
  compressed-above (suc n) w i = go (bit x n) (compressed-above n)
    where
      go : (t : Bool) → ((v j : ℕ) → bit (compressed_on x y n v) (required x n + j) ≡ bit v j)
          → bit (compressed_on x y n (pushed t (bit y n) w)) (required x n + digit (not t) + i) ≡ bit w i
      go true ih = rw (add-zero (required x n)) (ih w i)
      go false ih =
          let e : required x n + 1 + i ≡ required x n + suc i = omega arith in
          ap {B = Bool} (λ (j : ℕ). bit (compressed_on x y n (2 * w + digit (bit y n))) j) e ∙ ih (2 * w + digit (bit y n)) (suc i) ∙ digit-above w i (bit y n)

  -- a required colour stands at its place
  pub compressed-bit : (n w j : ℕ) → j < n → bit x j ≡ false → bit (compressed_on x y n w) (required x j) ≡ bit y j
  unfolding compressed_on
  compressed-bit zero w j h q = absurd (omega arith)
  compressed-bit (suc n) w j h q = go (ℕ_discrete j n) (compressed-bit n (pushed (bit x n) (bit y n) w) j)
    where
      here : bit x n ≡ false → bit (compressed_on x y n (pushed (bit x n) (bit y n) w)) (required x n) ≡ bit y n
      here p =
          let e : required x n + 0 ≡ required x n = omega arith in
          let v : ℕ = 2 * w + digit (bit y n) in
          ap {B = Bool} (λ (t : Bool). bit (compressed_on x y n (pushed t (bit y n) w)) (required x n)) p
          ∙ ap {B = Bool} (λ (j : ℕ). bit (compressed_on x y n (2 * w + digit (bit y n))) j) (sym e)
          ∙ compressed-above n (2 * w + digit (bit y n)) 0 ∙ digit-here w (bit y n)

      go : Dec (j ≡ n) → (j < n → bit x j ≡ false → bit (compressed_on x y n (pushed (bit x n) (bit y n) w)) (required x j) ≡ bit y j)
          → bit (compressed_on x y n (pushed (bit x n) (bit y n) w)) (required x j) ≡ bit y j
      go (yes e) less = rw e (here (rw e at q))
      go (no e) less = less (omega arith) q

-- a compressed byte has every required colour of the byte y at its place, and no other bit; this pins `compressed`
module _ (x y : ℕ) where
  pub compressed-colour : (j : ℕ) → j < colours_most → bit x j ≡ false → bit (compressed x y) (required x j) ≡ bit y j
  compressed-colour j h q = compressed-bit x y colours_most 0 j h q

  pub compressed-end : (i : ℕ) → bit (compressed x y) (required x colours_most + i) ≡ false
  compressed-end i = compressed-above x y colours_most 0 i ∙ bit-zero i

module _ (x : ℕ) where
  -- one of them at most for each colour
  pub required-le : (k : ℕ) → required x k ≤ k
  unfolding required
  required-le zero = omega arith
  required-le (suc k) = omega (arith, required-le k, digit_low (not (bit x k)))

  -- so that levels for them alone, d more, over n modes and c charges, are no more than levels for all
  pub required-room : (k d n c : ℕ) → (required x k + d) * n * c ≤ (k + d) * n * c
  required-room k d n c = mul-le-mul_right c (mul-le-mul_right n (omega (arith, required-le k)))

  -- a required colour's place is below their number ..
  pub required-below : (k j : ℕ) → j < k → bit x j ≡ false → required x j < required x k
  unfolding required
  required-below zero j h q = absurd (omega arith)
  required-below (suc k) j h q = go (ℕ_discrete j k) (required-below k j)
    where
      go : Dec (j ≡ k) → (j < k → bit x j ≡ false → required x j < required x k) → required x j < required x k + digit (not (bit x k))
      go (yes e) less = let t : bit x k ≡ false = rw e at q in rw (e, t) (omega arith)
      go (no e) less = omega (arith, less (omega arith) q)

  -- .. and every place below it is one's
  pub required-at : (k l : ℕ) → l < required x k → (j : ℕ) × (j < k) × (bit x j ≡ false) × (required x j ≡ l)
  unfolding required
  required-at zero l h = absurd (omega arith)
  required-at (suc k) l h = go (bit x k) refl h (dec_lt l (required x k)) (required-at k l)
    where
      go : (t : Bool) → bit x k ≡ t → l < required x k + digit (not t) → Dec (l < required x k)
          → (l < required x k → (j : ℕ) × (j < k) × (bit x j ≡ false) × (required x j ≡ l))
          → (j : ℕ) × (j < suc k) × (bit x j ≡ false) × (required x j ≡ l)
      go t e h (yes u) less = let (j, a, b, c) = less u in (j, omega arith, b, c)
      go true e h (no u) less = absurd (omega arith)
      go false e h (no u) less = (k, omega arith, e, omega arith)

-- no colour, no bit
pub compressed-zero : (x n : ℕ) → compressed_on x 0 n 0 ≡ 0
unfolding compressed_on
compressed-zero x zero = refl
compressed-zero x (suc n) = rw (bit-zero n) (go (bit x n) (compressed-zero x n))
  where
    go : (t : Bool) → compressed_on x 0 n 0 ≡ 0 → compressed_on x 0 n (pushed t false 0) ≡ 0
    go true e = e
    go false e = e

-- as the code goes: one colour less, counted from above
module _ (x y j w : ℕ) (h : 0 < j) where
  pub compressed-on : compressed_on x y j w ≡ compressed_on x y (j - 1) (pushed (bit x (j - 1)) (bit y (j - 1)) w)
  unfolding compressed_on
  compressed-on = go j h
    where
      go : (j : ℕ) → 0 < j → compressed_on x y j w ≡ compressed_on x y (j - 1) (pushed (bit x (j - 1)) (bit y (j - 1)) w)
      go zero h = absurd (omega arith)
      go (suc i) h = let e : suc i - 1 ≡ i = omega arith in rw e refl

  -- a barred one is passed over
  pub compressed-skip : x / 2 ^ (j - 1) % 2 ≡ 1 → compressed_on x y j w ≡ compressed_on x y (j - 1) w
  compressed-skip e =
      compressed-on ∙ ap {B = ℕ} (λ (t : Bool). compressed_on x y (j - 1) (pushed t (bit y (j - 1)) w)) (eq-eqb (x / 2 ^ (j - 1) % 2) 1 e)

  -- a required one is a digit
  pub compressed-take : x / 2 ^ (j - 1) % 2 ≡ 0 → compressed_on x y j w ≡ compressed_on x y (j - 1) (2 * w + y / 2 ^ (j - 1) % 2)
  compressed-take e =
      compressed-on
      ∙ ap {B = ℕ} (λ (t : Bool). compressed_on x y (j - 1) (pushed t (bit y (j - 1)) w)) (ne_eqb (x / 2 ^ (j - 1) % 2) 1 (omega arith))
      ∙ ap {B = ℕ} (λ (d : ℕ). compressed_on x y (j - 1) (2 * w + d)) (digit-of (y / 2 ^ (j - 1) % 2) (omega arith))
    where
      digit-of : (d : ℕ) → d < 2 → digit (eqb d 1) ≡ d
      digit-of zero q = refl
      digit-of (suc zero) q = refl
      digit-of (suc (suc d)) q = absurd (omega arith)

-- the digit of a required colour, as the code counts it
pub required-on : (x j : ℕ) → required x (j + 1) ≡ required x j + (1 - x / 2 ^ j % 2)
unfolding required
required-on x j = let e : j + 1 ≡ suc j = omega arith in rw e (go (x / 2 ^ j % 2) (omega arith))
  where
    go : (d : ℕ) → d < 2 → required x j + digit (not (eqb d 1)) ≡ required x j + (1 - d)
    go zero q = refl
    go (suc zero) q = refl
    go (suc (suc d)) q = absurd (omega arith)
