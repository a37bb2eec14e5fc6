-- Sums and differences of naturals as integers, and as signed words of 32 bits, in which the code of the step counts. Assumes nothing.
use mathlib.Core.Path.{◌≡◌, refl, sym, ap, ◌∙◌, subst}
use Prim.Native.Nat.{ℕ, zero, suc, ◌+◌, ◌-◌, ◌≤◌, ◌<◌}
use native.Mathlib.Decide.{dec_le}
use native.Mathlib.Omega.{arith}
use borrow.Author.Tests.{lt-ltb, le-ltb}
use lib.IntN.{ℤ, pos, negsuc, neg_ℤ, ◌+ℤ◌, ◌-ℤ◌, +ℤ_assoc, +ℤ_comm, neg_ℤ-+ℤ, neg_ℤ-neg_ℤ, pos-+ℤ-pos}
use lib.Dec.{ltb}
use lib.Signed.{lt_z}
use mir.Facts.{to_z_pos, to_z-of_z}
use mir.Syntax.{w16, w32}
use mir.Val.{Fits, SFits, to_z, of_z}

-- a difference that is not below 0 ..
pub difference : (a d : ℕ) → d ≤ a → pos a -ℤ pos d ≡ pos (a - d)
difference a zero h = ap {B = ℤ} pos (omega arith)
difference a (suc d) h = rw (le-ltb a (suc d) h)

-- .. and one that is
pub deficit : (a d : ℕ) → a < d → pos a -ℤ pos d ≡ negsuc (d - suc a)
deficit a zero h = absurd (omega arith)
deficit a (suc d) h = rw (lt-ltb a (suc d) h)

-- either fits a signed word of 32 bits
difference-sfits : (a d : ℕ) → a < 131072 → d < 131072 → SFits w32 (pos a -ℤ pos d)
difference-sfits a d h k =
    elim (dec_le d a) [
      | yes l ↦ rw (difference a d l) (record { sfits = omega arith })
      | no l ↦ rw (deficit a d (omega arith)) (record { sfits = omega arith })
    ]

-- e + (g - d), not below 0
pub total : (e g d : ℕ) → d ≤ e + g → pos e +ℤ (pos g -ℤ pos d) ≡ pos (e + g - d)
total e g d h =
    sym (+ℤ_assoc (pos e) (pos g) (neg_ℤ (pos d))) ∙ ap (λ (z : ℤ). z -ℤ pos d) (pos-+ℤ-pos e g) ∙ difference (e + g) d h

-- the same where d is taken first
pub drawn : (e g d : ℕ) → d ≤ e → pos e +ℤ (pos g -ℤ pos d) ≡ pos (e - d + g)
drawn e g d h = total e g d (omega arith) ∙ ap {B = ℤ} pos (omega arith)

-- b - (g - d)
pub room : (b g d : ℕ) → pos b -ℤ (pos g -ℤ pos d) ≡ pos (b + d) -ℤ pos g
room b g d =
    rw (neg_ℤ-+ℤ (pos g) (neg_ℤ (pos d)), neg_ℤ-neg_ℤ (pos d), +ℤ_comm (neg_ℤ (pos g)) (pos d))
    (sym (+ℤ_assoc (pos b) (pos d) (neg_ℤ (pos g))) ∙ ap (λ (z : ℤ). z -ℤ pos g) (pos-+ℤ-pos b d))

-- the charge e set against b - (g - d) is e + g set against b + d
pub tested : (b e g d : ℕ) → lt_z (pos e) (pos b -ℤ (pos g -ℤ pos d)) ≡ ltb (e + g) (b + d)
tested b e g d =
    elim (dec_le g (b + d)) [
      | yes l ↦
          rw (room b g d, difference (b + d) g l)
          (elim (dec_le (b + d) (e + g)) [
            | yes h ↦ rw (le-ltb e (b + d - g) (omega arith), le-ltb (e + g) (b + d) h) refl
            | no h ↦ rw (lt-ltb e (b + d - g) (omega arith), lt-ltb (e + g) (b + d) (omega arith)) refl
          ])
      | no l ↦ rw (room b g d, deficit (b + d) g (omega arith), le-ltb (e + g) (b + d) (omega arith)) refl
    ]

-- a word of 16 bits stands for the same number as a signed word of 32 bits
pub widened : {n : ℕ} → Fits w16 n → to_z w32 n ≡ pos n
widened f = to_z_pos w32 (omega (arith, f.fits))

-- g - d, as the code makes it of two words ..
module _ {g d : ℕ} (gain : Fits w16 g) (draw : Fits w16 d) where
  pub change-made : to_z w32 g -ℤ to_z w32 d ≡ pos g -ℤ pos d
  change-made = rw (widened gain, widened draw) refl

  pub change-fits : SFits w32 (to_z w32 g -ℤ to_z w32 d)
  change-fits = subst (SFits w32) (sym change-made) (difference-sfits g d (omega (arith, gain.fits)) (omega (arith, draw.fits)))

-- .. and z, which a function handed back for it
pub record Change (g d : ℕ) (z : ℤ) : Type 0 where
  pub gain : Fits w16 g
  pub draw : Fits w16 d
  pub result : SFits w32 z
  pub made : z ≡ pos g -ℤ pos d

module _ {g d : ℕ} {z : ℤ} (change : Change g d z) where
  pub change-word : to_z w32 (of_z w32 z) ≡ pos g -ℤ pos d
  change-word = to_z-of_z change.result ∙ change.made

  -- e + (g - d)
  pub whole-made : {e : ℕ} → Fits w16 e → d ≤ e → to_z w32 e +ℤ to_z w32 (of_z w32 z) ≡ pos (e - d + g)
  whole-made {e} f h = rw (widened f, change-word) (drawn e g d h)

  -- b - (g - d)
  module _ {b : ℕ} (bound : Fits w16 b) where
    room-made : to_z w32 b -ℤ to_z w32 (of_z w32 z) ≡ pos b -ℤ (pos g -ℤ pos d)
    room-made = rw (widened bound, change-word) refl

    pub room_fits : SFits w32 (to_z w32 b -ℤ to_z w32 (of_z w32 z))
    room_fits =
        subst (SFits w32) (sym (room-made ∙ room b g d))
        (difference-sfits (b + d) g (omega (arith, bound.fits, change.draw.fits)) (omega (arith, change.gain.fits)))

    pub room_word : to_z w32 (of_z w32 (to_z w32 b -ℤ to_z w32 (of_z w32 z))) ≡ pos b -ℤ (pos g -ℤ pos d)
    room_word = to_z-of_z room_fits ∙ room-made
