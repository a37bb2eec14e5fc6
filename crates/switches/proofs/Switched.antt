-- Arcs switched on and off: which arc is on then, and when the words are as they were. Assumes nothing.
use mathlib.Core.Path.{◌≡◌, refl, ◌∙◌}
use mathlib.Core.Bool.{Bool, not}
use mathlib.Core.List.{List}
use mathlib.Core.Logic.{◌≢◌}
use Prim.Native.Nat.{ℕ, ◌/◌, ◌%◌, ◌^◌, ◌≤◌, ◌<◌}
use native.Mathlib.Omega.{arith}
use native.Mathlib.Decide.{ℕ_discrete, dec_le}
use lib.ListN.{length, get_or, length-set}
use lib.Seq.{get_or-set_same, get_or-set_other, set-get_or, set-set, set_out}
use Rattle.switches.specs.Switches.{word_bits, is_on, turned, switched, SameBelow}
use Rattle.switches.proofs.Turned.{turned-already, turned_same, turned-back, turned-other, turned-below}

-- there are as many words as before
pub switched-length : (told : Bool) (on : List ℕ) (a : ℕ) → length (switched told on a) ≡ length on
unfolding switched
switched-length told on a = simp length-set

-- each of 64 bits, as before
pub switched-below : (told : Bool) (on : List ℕ) (a w : ℕ) → get_or on w 0 < 2 ^ word_bits → get_or (switched told on a) w 0 < 2 ^ word_bits
unfolding switched
switched-below told on a w h =
    let x = turned told (get_or on (a / word_bits) 0) (a % word_bits) in
    elim (dec_le (length on) (a / word_bits)) [
      | yes out ↦ rw (set_out on (a / word_bits) x out) h
      | no within ↦
          elim (ℕ_discrete w (a / word_bits)) [
            | no q ↦ rw (get_or-set_other on (a / word_bits) w x 0 q) h
            | yes q ↦
                rw (q, get_or-set_same on (a / word_bits) x 0 (omega arith))
                (turned-below told word_bits (get_or on (a / word_bits) 0) (a % word_bits) (rw q at h) (omega arith))
          ]
    ]

-- the arc is as told ..
pub switched-same : (told : Bool) (on : List ℕ) (a : ℕ) → a / word_bits < length on → is_on (switched told on a) a ≡ told
unfolding is_on switched
switched-same told on a h =
    rw (get_or-set_same on (a / word_bits) (turned told (get_or on (a / word_bits) 0) (a % word_bits)) 0 h)
    (turned_same told (get_or on (a / word_bits) 0) (a % word_bits))

-- .. and every other as it was
pub switched_other : (told : Bool) (on : List ℕ) (a a' : ℕ) → a' ≢ a → is_on (switched told on a) a' ≡ is_on on a'
unfolding is_on switched
switched_other told on a a' ne =
    let x = turned told (get_or on (a / word_bits) 0) (a % word_bits) in
    elim (dec_le (length on) (a / word_bits)) [
      | yes out ↦ rw (set_out on (a / word_bits) x out) refl
      | no within ↦
          elim (ℕ_discrete (a' / word_bits) (a / word_bits)) [
            | no q ↦ rw (get_or-set_other on (a / word_bits) (a' / word_bits) x 0 q) refl
            | yes q ↦
                rw (q, get_or-set_same on (a / word_bits) x 0 (omega arith))
                (turned-other told (get_or on (a / word_bits) 0) (a % word_bits) (a' % word_bits) (λ e. ne (omega arith)))
          ]
    ]

-- "Switching an arc to what it is already changes nothing."
pub switched-already : (told : Bool) (on : List ℕ) (a : ℕ) → is_on on a ≡ told → switched told on a ≡ on
unfolding is_on switched
switched-already told on a e = rw (turned-already told (get_or on (a / word_bits) 0) (a % word_bits) e) (set-get_or on (a / word_bits) 0)

-- switched to the other state and back, the words are as they were
pub switched-back : (told : Bool) (on : List ℕ) (a : ℕ) → is_on on a ≡ told → switched told (switched (not told) on a) a ≡ on
unfolding is_on switched
switched-back told on a e =
    let w = a / word_bits in
    let x = get_or on w 0 in
    let y = turned (not told) x (a % word_bits) in
    elim (dec_le (length on) w) [
      | yes out ↦ rw (set_out on w y out) (set_out on w (turned told x (a % word_bits)) out)
      | no within ↦
          rw (get_or-set_same on w y 0 (omega arith), turned-back told x (a % word_bits) e) (set-set on w y x ∙ set-get_or on w 0)
    ]

-- "Bits at or above m are ignored": an arc that is not below m may be switched
pub switched-ignored : (told : Bool) (on : List ℕ) (a m : ℕ) → m ≤ a → SameBelow m (switched told on a) on
switched-ignored told on a m h a' q = switched_other told on a a' (λ e. omega arith)
