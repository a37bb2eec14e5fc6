-- Numbers printed with five digits, and lines of a word and a number, read back. Assumes nothing.
use mathlib.Core.Path.{◌≡◌, refl}
use mathlib.Core.Bool.{Bool, true, false, not, ◌&&◌}
use mathlib.Core.List.{List, [], ◌∷◌, ◌++◌, append_assoc}
use Prim.Native.Nat.{ℕ, ◌<◌}
use native.Mathlib.Omega.{arith}
use lib.Dec.{eqb}
use lib.ListN.{length}
use Rattle.fields.specs.Fields.{is_only, digit_count, is_digit, number_of, after_number, is_numbered, number_after, tail_after}
use Rattle.fields.proofs.Pieces.{Free, ended}
use Rattle.fields.proofs.Printed.{printed, printed-digits, printed-length, number-printed, after-printed, after-word, digits-free, free-append}

abbrev pub num : ℕ → List ℕ
num x = printed 5 x

-- what five digits can say
abbrev pub Small : ℕ → Type 0
Small x = x < 100000

module _ (x : ℕ) (r : List ℕ) (low : Small x) (ends : digit_count r ≡ 0) where
  pub number-num : number_of (num x ++ r) ≡ x
  number-num = number-printed 5 x r (omega arith) (omega arith) low ends

  pub after-num : after_number (num x ++ r) ≡ r
  after-num = after-printed 5 x r (omega arith) (omega arith) low ends

-- a word, a number and what follows
pub number-back : (w : List ℕ) (x : ℕ) (r : List ℕ) → Small x → digit_count r ≡ 0 → number_after w (w ++ (num x ++ r)) ≡ x
number-back w x r low ends = rw (after-word w (num x ++ r)) (number-num x r low ends)

pub tail-back : (w : List ℕ) (x : ℕ) (r : List ℕ) → Small x → digit_count r ≡ 0 → tail_after w (w ++ (num x ++ r)) ≡ r
tail-back w x r low ends = rw (after-word w (num x ++ r)) (after-num x r low ends)

pub feed-ends : digit_count (10 ∷ []) ≡ 0
unfolding digit_count is_digit
feed-ends = refl

-- a word and a number, without a line feed
abbrev pub numbered_word : List ℕ → ℕ → List ℕ
numbered_word w x = w ++ num x

module _ (w : List ℕ) (x : ℕ) (low : Small x) where
  pub numbered_is : is_numbered w (ended (numbered_word w x)) ≡ true
  unfolding is_only
  numbered_is = rw (append_assoc w (num x) (10 ∷ []), tail-back w x (10 ∷ []) low feed-ends)

  pub numbered-says : number_after w (ended (numbered_word w x)) ≡ x
  numbered-says = rw (append_assoc w (num x) (10 ∷ [])) (number-back w x (10 ∷ []) low feed-ends)

pub blank-ends : (l : List ℕ) → digit_count (32 ∷ l) ≡ 0
unfolding digit_count is_digit
blank-ends l = refl

pub num-free : (b x : ℕ) → b < 48 → Free b (num x)
num-free b x h = digits-free b (num x) h (printed-digits 5 x)

pub num-long : (x : ℕ) → 0 < length (num x)
num-long x = rw (printed-length 5 x) (omega arith)

-- a word without a byte, by test
unfoldable pub freeb : ℕ → List ℕ → Bool
freeb b [] = true
freeb b (x ∷ l) = not (eqb x b) && freeb b l

pub free-word : (b : ℕ) (l : List ℕ) → freeb b l ≡ true → Free b l
unfolding freeb
free-word b [] e = tt
free-word b (x ∷ l) e = go (eqb x b) refl e (free-word b l)
  where
    go : (t : Bool) → eqb x b ≡ t → (not t && freeb b l) ≡ true → (freeb b l ≡ true → Free b l) → (eqb x b ≡ false) × Free b l
    go true z f ih = absurd (let y : ◌≡◌ {A = ℕ} 0 1 = cc in omega arith)
    go false z f ih = (z, ih f)

-- no line holds a line feed before its end
pub num-line : (x : ℕ) → Free 10 (num x)
num-line x = digits-free 10 (num x) (omega arith) (printed-digits 5 x)

pub numbered-line : (w : List ℕ) (x : ℕ) → freeb 10 w ≡ true → Free 10 (numbered_word w x)
numbered-line w x e = free-append 10 w (num x) (free-word 10 w e) (num-line x)
