-- What a comment, a `p` line and an `a` line are, byte by byte. Document 02, Ask 1: "one blank between fields, a line feed after each" line.
-- Assumes nothing.
use mathlib.Core.Path.{◌≡◌, refl, sym, ap, subst}
use mathlib.Core.Bool.{Bool, true, false, ◌&&◌, cond}
use mathlib.Core.List.{List, [], ◌∷◌, ◌++◌}
use Prim.Native.Nat.{ℕ, suc, ◌-◌, ◌<◌}
use native.Mathlib.Omega.{arith}
use lib.Dec.{eqb}
use lib.ListN.{length, get_or}
use borrow.Author.Tests.{eqb-true}
use Rattle.fields.specs.Bytes.{feed, blank, minus}
use Rattle.fields.specs.Fields.{after_word, number_of, after_number}
use Rattle.fields.proofs.Numbers.{both}
use Rattle.fields.proofs.Forms.{Plain, only-form, word-form, plain_form, plain-some, plain-last}
use Rattle.dimacs.specs.Words.{comment_letter, problem_word, arc_word, blank_word}
use Rattle.dimacs.specs.Lines.{
  is_comment,
  modes_on,
  count_field,
  count_on,
  is_problem,
  from_on,
  to_field,
  to_on,
  weight_field,
  is_negative,
  unsigned,
  is_mode,
  weight_ends,
  is_arc,
}

-- a number, and a blank before something more
blank-some : (f : List ℕ) → 0 < length (after_word blank_word (after_number f)) → 0 < length (after_number f)
blank-some f h = subst (λ (r : List ℕ). 0 < length r) (sym (word-form blank_word (after_number f) h)) (omega arith)

blank-form : (f : List ℕ) → 0 < length (after_word blank_word (after_number f)) → Plain f (number_of f) (blank ∷ after_word blank_word (after_number f))
blank-form f h = subst (Plain f (number_of f)) (word-form blank_word (after_number f) h) (plain_form f (blank-some f h))

-- "one `p sp n m`"
pub problem-form : (l : List ℕ) → is_problem l ≡ true → let f = after_word problem_word l in
    (l ≡ problem_word ++ f) × Plain f (modes_on l) (blank ∷ count_field l) × Plain (count_field l) (count_on l) (feed ∷ [])
problem-form l e =
    let f = after_word problem_word l in
    let count = plain-some (count_field l) (rw (only-form feed (after_number (count_field l)) e) (omega arith)) in
    (word-form problem_word l (plain-some f (blank-some f count)), blank-form f count, plain-last (count_field l) e)

-- "a minus before w is allowed"
sign-form : (w : List ℕ) → w ≡ cond (is_negative w) (minus ∷ unsigned w) (unsigned w)
unfolding is_negative unsigned
sign-form [] = refl
sign-form (x ∷ w) = go (eqb x minus) refl
  where
    go : (t : Bool) → eqb x minus ≡ t → x ∷ w ≡ cond t (minus ∷ cond t w (x ∷ w)) (cond t w (x ∷ w))
    go true e = rw (eqb-true x minus e) refl
    go false e = refl

unsigned-some : (w : List ℕ) → 0 < length (unsigned w) → 0 < length w
unfolding unsigned
unsigned-some [] h = h
unsigned-some (x ∷ w) h = omega arith

-- "lines `a u v w`"
pub arc-form : (n : ℕ) (l : List ℕ) → is_arc n l ≡ true → let f = after_word arc_word l in let w = weight_field l in
    (l ≡ arc_word ++ f) × Plain f (from_on l) (blank ∷ to_field l) × Plain (to_field l) (to_on l) (blank ∷ w)
    × (w ≡ cond (is_negative w) (minus ∷ unsigned w) (unsigned w)) × Plain (unsigned w) (number_of (unsigned w)) (feed ∷ [])
unfolding is_arc
arc-form n l e =
    let f = after_word arc_word l in
    let w = weight_field l in
    let (_, ends) = both (is_mode n (from_on l) && is_mode n (to_on l)) (weight_ends w) e in
    let size = plain-some (unsigned w) (rw (only-form feed (after_number (unsigned w)) ends) (omega arith)) in
    let weight = unsigned-some w size in
    let to = plain-some (to_field l) (blank-some (to_field l) weight) in (
      word-form arc_word l (plain-some f (blank-some f to)),
      blank-form f to,
      blank-form (to_field l) weight,
      sign-form w,
      plain-last (unsigned w) ends,
    )

-- the last byte of a list that is not empty
last-back : (x y : ℕ) (p : List ℕ) → get_or (x ∷ (p ++ y ∷ [])) (length (p ++ y ∷ [])) 0 ≡ y
last-back x y [] = refl
last-back x y (z ∷ p) = last-back z y p

last-form : (x y : ℕ) (l : List ℕ) → get_or (x ∷ l) (length l) 0 ≡ y → (p : List ℕ) × (x ∷ l ≡ p ++ y ∷ [])
last-form x y [] e = ([], rw e refl)
last-form x y (z ∷ l) e = let (p, q) = last-form z y l e in (x ∷ p, ap {B = List ℕ} (λ (r : List ℕ). x ∷ r) q)

-- "any lines that begin with `c`": that letter, any bytes and the line feed
pub comment-back : (p : List ℕ) → is_comment (comment_letter ∷ (p ++ feed ∷ [])) ≡ true
unfolding is_comment
comment-back p =
    let place : suc (length (p ++ feed ∷ [])) - 1 ≡ length (p ++ feed ∷ []) = omega arith in
    rw (place, last-back comment_letter feed p) refl

pub comment-form : (l : List ℕ) → is_comment l ≡ true → (p : List ℕ) × (l ≡ comment_letter ∷ (p ++ feed ∷ []))
unfolding is_comment
comment-form [] e = absurd (let z : ◌≡◌ {A = ℕ} 0 1 = cc in omega arith)
comment-form (x ∷ []) e =
    let (a, b) = both (eqb x comment_letter) (eqb x feed) e in
    absurd (omega (arith, eqb-true x comment_letter a, eqb-true x feed b))
comment-form (x ∷ y ∷ l) e =
    let place : suc (suc (length l)) - 1 ≡ suc (length l) = omega arith in
    let (a, b) = both (eqb x comment_letter) (eqb (get_or (y ∷ l) (length l) 0) feed) (rw place at e) in
    let (p, q) = last-form y feed l (eqb-true (get_or (y ∷ l) (length l) 0) feed b) in
    (p, cc (eqb-true x comment_letter a, q))
