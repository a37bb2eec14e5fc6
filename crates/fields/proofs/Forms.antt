-- What a line in a form is, byte by byte: its word, the digits of its number, its line feed. Document 02, Ask 1: "plain numbers have one to nine
-- digits", "a line feed after each" line. Assumes nothing.
use mathlib.Core.Path.{◌≡◌, refl, sym, ap, subst, ◌∙◌}
use mathlib.Core.Bool.{Bool, true, false, cond}
use mathlib.Core.List.{List, [], ◌∷◌, ◌++◌}
use Prim.Native.Nat.{ℕ, suc, ◌≤◌, ◌<◌}
use native.Mathlib.Omega.{arith}
use lib.Dec.{eqb}
use lib.ListN.{length, take, drop, length-append, take-append-drop}
use lib.Seq.{length-take-le}
use borrow.Author.Tests.{eqb-true}
use Rattle.limits.specs.Ceilings.{digits_most}
use Rattle.fields.specs.Bytes.{feed}
use Rattle.fields.specs.Fields.{
  after_word,
  is_only,
  is_digit,
  digit_count,
  value,
  is_plain,
  number_of,
  after_number,
  is_word,
  number_after,
  tail_after,
  is_numbered,
}
use Rattle.fields.proofs.Numbers.{digit-bounds, plain-bounds, digits_le}
use Rattle.fields.proofs.Printed.{Digits}

clash : {A : Type 0} → false ≡ true → A
clash e = absurd (let z : ◌≡◌ {A = ℕ} 0 1 = cc in omega arith)

-- the list is one byte
pub only-form : (b : ℕ) (l : List ℕ) → is_only b l ≡ true → l ≡ b ∷ []
unfolding is_only
only-form b [] e = clash e
only-form b (x ∷ []) e = rw (eqb-true x b e) refl
only-form b (x ∷ y ∷ l) e = clash e

-- the list is the word and what follows it
pub word-form : (w l : List ℕ) → 0 < length (after_word w l) → l ≡ w ++ after_word w l
unfolding after_word
word-form [] l h = refl
word-form (y ∷ w) [] h = absurd (omega arith)
word-form (y ∷ w) (x ∷ l) h = go (eqb x y) refl h (word-form w l)
  where
    go : (t : Bool) → eqb x y ≡ t → 0 < length (cond t (after_word w l) []) → (0 < length (after_word w l) → l ≡ w ++ after_word w l)
        → x ∷ l ≡ y ∷ (w ++ cond t (after_word w l) [])
    go true e h f = cc (eqb-true x y e, f h)
    go false e h f = absurd (omega arith)

-- the digits that lead a list
pub leading : (l : List ℕ) → Digits (take (digit_count l) l)
unfolding digit_count
leading [] = tt
leading (x ∷ l) = go (is_digit x) refl (leading l)
  where
    go : (t : Bool) → is_digit x ≡ t → Digits (take (digit_count l) l) → Digits (take (cond t (suc (digit_count l)) 0) (x ∷ l))
    go true e f = let (a, b) = digit-bounds x e in (a, b, f)
    go false e f = tt

-- the list l is one to nine digits of value x, and then r
pub record Plain (l : List ℕ) (x : ℕ) (r : List ℕ) : Type 0 where
  pub digits : List ℕ
  pub whole : l ≡ digits ++ r
  pub all : Digits digits
  pub some : 1 ≤ length digits
  pub few : length digits ≤ digits_most
  pub says : value 0 digits ≡ x

pub plain_form : (l : List ℕ) → 0 < length (after_number l) → Plain l (number_of l) (after_number l)
unfolding after_number number_of
plain_form l h = go (is_plain (digit_count l)) refl h
  where
    go : (t : Bool) → is_plain (digit_count l) ≡ t → 0 < length (cond t (drop (digit_count l) l) [])
        → Plain l (cond t (value 0 (take (digit_count l) l)) 0) (cond t (drop (digit_count l) l) [])
    go true e h =
        let size = length-take-le (digit_count l) l (digits_le l) in
        let (some, few) = plain-bounds (digit_count l) e in
        record {
          digits = take (digit_count l) l;
          whole = sym (take-append-drop (digit_count l) l);
          all = leading l;
          some = omega (arith, size);
          few = omega (arith, size);
          says = refl;
        }
    go false e h = absurd (omega arith)

-- what ends with something is not empty
pub plain-some : (l : List ℕ) → 0 < length (after_number l) → 0 < length l
plain-some l h =
    let p = plain_form l h in
    rw (p.whole, length-append p.digits (after_number l)) (omega arith)

-- a word, a plain number and what follows it
pub tail-form : (w l : List ℕ) → 0 < length (tail_after w l)
    → (l ≡ w ++ after_word w l) × Plain (after_word w l) (number_after w l) (tail_after w l)
tail-form w l h = (word-form w l (plain-some (after_word w l) h), plain_form (after_word w l) h)

-- a line that is a word
pub word_line : (w l : List ℕ) → is_word w l ≡ true → l ≡ w ++ feed ∷ []
word_line w l e =
    let end = only-form feed (after_word w l) e in
    word-form w l (rw end (omega arith)) ∙ ap {B = List ℕ} (λ (r : List ℕ). w ++ r) end

-- a plain number and its line feed
pub plain-last : (l : List ℕ) → is_only feed (after_number l) ≡ true → Plain l (number_of l) (feed ∷ [])
plain-last l e =
    let end = only-form feed (after_number l) e in
    subst (Plain l (number_of l)) end (plain_form l (rw end (omega arith)))

-- a line that is a word and a plain number
pub numbered-line : (w l : List ℕ) → is_numbered w l ≡ true → (l ≡ w ++ after_word w l) × Plain (after_word w l) (number_after w l) (feed ∷ [])
numbered-line w l e =
    let end = only-form feed (tail_after w l) e in
    ((tail-form w l (rw end (omega arith))).0, plain-last (after_word w l) e)
