-- Which bit of which word is an arc's, and what the words say of all arcs together. Assumes nothing.
use mathlib.Core.Path.{◌≡◌, refl, sym, ap, ◌∙◌}
use mathlib.Core.Bool.{Bool, true}
use mathlib.Core.List.{List}
use Prim.Native.Nat.{ℕ, zero, suc, ◌+◌, ◌-◌, ◌*◌, ◌/◌, ◌%◌, ◌^◌, ◌<◌}
use native.Mathlib.Nat.{pow-suc, div-one}
use native.Mathlib.Omega.{arith}
use native.Mathlib.Decide.{ℕ_discrete, dec_le}
use lib.Dec.{eqb}
use lib.ListN.{length, get_or, set, replicate, get_or-replicate}
use lib.Pow.{pow_pos}
use lib.Seq.{get_or-set_same, get_or-set_other, ext_get_or}
use borrow.Author.Tests.{eq-eqb, ne_eqb}
use Rattle.model.specs.Automaton.{bit}
use Rattle.model.proofs.Bits.{half-bit, power-bit, bit-zero, colours-below, bits-same}
use Rattle.switches.specs.Switches.{switch_words, word_bits, is_on, SameBelow, AllBelow}

-- words without a bit
zeros : (n w : ℕ) → ◌≡◌ {A = ℕ} (get_or (replicate n 0) w 0) 0
zeros zero w = refl
zeros (suc n) zero = refl
zeros (suc n) (suc w) = zeros n w

same_place : (w i j : ℕ) → j < 64 → eqb i j ≡ eqb (64 * w + j) (64 * w + i)
same_place w i j h =
    elim (ℕ_discrete i j) [
      | yes e ↦ eq-eqb i j e ∙ sym (eq-eqb (64 * w + j) (64 * w + i) (omega arith))
      | no e ↦ ne_eqb i j e ∙ sym (ne_eqb (64 * w + j) (64 * w + i) (λ q. e (omega arith)))
    ]

-- "arc a at bit a mod 64 of word a / 64 rounded down": the words that have nothing but bit i of word w have arc 64 w + i on, and no other
pub one_bit : (w i : ℕ) → w < 4 → i < 64 → (a : ℕ) → is_on (set (replicate 4 0) w (2 ^ i)) a ≡ eqb a (64 * w + i)
unfolding is_on
one_bit w i hw hi a =
    elim (ℕ_discrete (a / 64) w) [
      | yes q ↦
          let here : 64 * w + a % 64 ≡ a = omega arith in
          rw (q, get_or-set_same (replicate 4 0) w (2 ^ i) 0 hw)
          (power-bit i (a % 64) ∙ rw here at (same_place w i (a % 64) (omega arith)))
      | no q ↦
          rw (get_or-set_other (replicate 4 0) w (a / 64) (2 ^ i) 0 q, zeros 4 (a / 64))
          (bit-zero (a % 64) ∙ sym (ne_eqb a (64 * w + i) (λ e. q (omega arith))))
    ]

-- every bit below k is set in 2 ^ k - 1
ones_bit : (k i : ℕ) → i < k → bit (2 ^ k - 1) i ≡ true
ones_bit zero i h = absurd (omega arith)
ones_bit (suc k) zero h =
    let odd : (2 ^ suc k - 1) % 2 ≡ 1 = omega (arith, pow-suc 2 k, pow_pos k) in
    rw (div-one (2 ^ suc k - 1), odd) refl
ones_bit (suc k) (suc i) h =
    let half : (2 ^ suc k - 1) / 2 ≡ 2 ^ k - 1 = omega (arith, pow-suc 2 k) in
    sym (half-bit (2 ^ suc k - 1) i) ∙ ap {B = Bool} (λ (x : ℕ). bit x i) half ∙ ones_bit k i (omega arith)

-- of the code's ALL every arc is on
pub all_on : AllBelow 256 (replicate switch_words 18446744073709551615)
unfolding is_on
all_on a h = rw (get_or-replicate {A = ℕ} switch_words (a / word_bits) 18446744073709551615 0 (omega arith)) (ones_bit word_bits (a % word_bits) (omega arith))

-- words of 64 bits with the same arcs on are the same
pub on-bits : (on on' : List ℕ) → length on ≡ switch_words → length on' ≡ switch_words
    → ((w : ℕ) → get_or on w 0 < 2 ^ word_bits) → ((w : ℕ) → get_or on' w 0 < 2 ^ word_bits) → SameBelow 256 on on' → on ≡ on'
unfolding is_on
on-bits on on' long long' fits fits' same = ext_get_or 0 on on' (long ∙ sym long') (λ w h. bits-same (get_or on w 0) (get_or on' w 0) (λ j. at w h j))
  where
    at : (w : ℕ) → w < length on → (j : ℕ) → bit (get_or on w 0) j ≡ bit (get_or on' w 0) j
    at w h j =
        elim (dec_le word_bits j) [
          | yes high ↦ (colours-below (get_or on w 0) word_bits).0 (fits w) j high ∙ sym ((colours-below (get_or on' w 0) word_bits).0 (fits' w) j high)
          | no low ↦
              let word : (64 * w + j) / 64 ≡ w = omega arith in
              let place : (64 * w + j) % 64 ≡ j = omega arith in
              rw (word, place) at (same (64 * w + j) (omega arith))
        ]
