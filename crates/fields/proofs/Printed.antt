-- A number printed reads back. Assumes nothing.
use mathlib.Core.Path.{◌≡◌, refl, ap, ◌∙◌}
use mathlib.Core.Bool.{true}
use mathlib.Core.List.{List, [], ◌∷◌, ◌++◌}
use Prim.Native.Nat.{ℕ, zero, suc, ◌+◌, ◌-◌, ◌*◌, ◌/◌, ◌%◌, ◌^◌, ◌≤◌, ◌<◌}
use native.Mathlib.Nat.{pow-suc, div-add-mod', div-lt_iff_lt-mul, mod-lt}
use native.Mathlib.Omega.{arith}
use lib.ListN.{length, length-append}
use lib.Seq.{take_at, drop_at}
use borrow.Author.Tests.{le-leb, eq-eqb, ne_eqb}
use Rattle.limits.specs.Ceilings.{digits_most}
use Rattle.fields.specs.Fields.{after_word, is_digit, digit_count, value, is_plain, number_of, after_number}
use Rattle.fields.proofs.Pieces.{Free}

-- x in w digits
unfoldable pub printed : ℕ → ℕ → List ℕ
printed zero x = []
printed (suc w) x = printed w (x / 10) ++ (48 + x % 10) ∷ []

-- every byte of the list is a digit
abbrev pub Digits : List ℕ → Type 0
Digits [] = Unit
Digits (x ∷ l) = (48 ≤ x) × (x ≤ 57) × Digits l

pub digits_append : (a b : List ℕ) → Digits a → Digits b → Digits (a ++ b)
digits_append [] b f g = g
digits_append (x ∷ a) b f g = (f.0, f.1, digits_append a b f.2 g)

pub printed-digits : (w x : ℕ) → Digits (printed w x)
unfolding printed
printed-digits zero x = tt
printed-digits (suc w) x =
    let h : x % 10 < 10 = mod-lt x (omega arith) in
    digits_append (printed w (x / 10)) ((48 + x % 10) ∷ []) (printed-digits w (x / 10)) (omega arith, omega arith, tt)

pub printed-length : (w x : ℕ) → length (printed w x) ≡ w
unfolding printed
printed-length zero x = refl
printed-length (suc w) x = simp (length-append, printed-length w) (omega arith)

value-append : (a x : ℕ) (l : List ℕ) → value a (l ++ x ∷ []) ≡ value a l * 10 + (x - 48)
unfolding value
value-append a x [] = refl
value-append a x (y ∷ l) = value-append (a * 10 + (y - 48)) x l

pub printed-value : (w x : ℕ) → x < 10 ^ w → value 0 (printed w x) ≡ x
unfolding printed value
printed-value zero x h = omega (arith, h)
printed-value (suc w) x h =
    let low : x / 10 < 10 ^ w = (div-lt_iff_lt-mul {k = 10} {x = x} {y = 10 ^ w} (omega arith)).1 (rw (pow-suc 10 w) at h) in
    value-append 0 (48 + x % 10) (printed w (x / 10)) ∙ rw (printed-value w (x / 10) low) (omega (arith, div-add-mod' x 10))

-- digits, and a list that does not begin with one
pub digits-run : (l r : List ℕ) → Digits l → digit_count r ≡ 0 → digit_count (l ++ r) ≡ length l
unfolding digit_count is_digit
digits-run [] r f e = e
digits-run (x ∷ l) r f e = simp (le-leb 48 x f.0, le-leb x 57 f.1) (ap suc (digits-run l r f.2 e))

module _ (w x : ℕ) (r : List ℕ) (some : 1 ≤ w) (few : w ≤ digits_most) (low : x < 10 ^ w) (ends : digit_count r ≡ 0) where
  run : digit_count (printed w x ++ r) ≡ w
  run = digits-run (printed w x) r (printed-digits w x) ends ∙ printed-length w x

  whole : is_plain w ≡ true
  unfolding is_plain
  whole = simp (le-leb 1 w some, le-leb w digits_most few)

  pub number-printed : number_of (printed w x ++ r) ≡ x
  unfolding number_of
  number-printed = simp (run, whole, take_at (printed w x) r w (printed-length w x)) (printed-value w x low)

  pub after-printed : after_number (printed w x ++ r) ≡ r
  unfolding after_number
  after-printed = simp (run, whole, drop_at (printed w x) r w (printed-length w x))

-- a word reads back
pub after-word : (w l : List ℕ) → after_word w (w ++ l) ≡ l
unfolding after_word
after-word [] l = refl
after-word (x ∷ w) l = rw (eq-eqb x x refl) (after-word w l)

-- no digit is a byte below 48
pub digits-free : (b : ℕ) (l : List ℕ) → b < 48 → Digits l → Free b l
digits-free b [] h f = tt
digits-free b (x ∷ l) h f = (ne_eqb x b (λ e. absurd (omega (arith, e, f.0))), digits-free b l h f.2)

pub free-append : (b : ℕ) (p q : List ℕ) → Free b p → Free b q → Free b (p ++ q)
free-append b [] q f g = g
free-append b (x ∷ p) q f g = (f.0, free-append b p q f.1 g)
