-- A list of which the first i elements have been put through f. Assumes nothing.
use mathlib.Core.Path.{◌≡◌, refl, ap}
use mathlib.Core.List.{List, [], ◌∷◌, map}
use Prim.Native.Nat.{ℕ, zero, suc, ◌<◌, ◌≤◌}
use native.Mathlib.Nat.{not-suc-le-zero, le_of_suc-le-suc}
use lib.ListN.{length, get_or, set}

module _ {A : Type 0} (f : A → A) where
  abbrev pub upto : ℕ → List A → List A
  upto zero ys = ys
  upto (suc i) [] = []
  upto (suc i) (y ∷ ys) = f y ∷ upto i ys

  pub length-upto : (i : ℕ) (ys : List A) → length (upto i ys) ≡ length ys
  length-upto zero ys = refl
  length-upto (suc i) [] = refl
  length-upto (suc i) (y ∷ ys) = ap suc (length-upto i ys)

  -- the element at i is as it was
  pub get_or-upto : (i : ℕ) (ys : List A) (d : A) → get_or (upto i ys) i d ≡ get_or ys i d
  get_or-upto zero ys d = refl
  get_or-upto (suc i) [] d = refl
  get_or-upto (suc i) (y ∷ ys) d = get_or-upto i ys d

  -- put through f it makes one more
  pub set-upto : (i : ℕ) (ys : List A) (d : A) → i < length ys → set (upto i ys) i (f (get_or (upto i ys) i d)) ≡ upto (suc i) ys
  set-upto zero [] d l = absurd (not-suc-le-zero l)
  set-upto zero (y ∷ ys) d l = refl
  set-upto (suc i) [] d l = absurd (not-suc-le-zero l)
  set-upto (suc i) (y ∷ ys) d l = ap (λ (zs : List A). f y ∷ zs) (set-upto i ys d (le_of_suc-le-suc l))

  pub upto_all : (i : ℕ) (ys : List A) → length ys ≤ i → upto i ys ≡ map f ys
  upto_all zero [] l = refl
  upto_all zero (y ∷ ys) l = absurd (not-suc-le-zero l)
  upto_all (suc i) [] l = refl
  upto_all (suc i) (y ∷ ys) l = ap (λ (zs : List A). f y ∷ zs) (upto_all i ys (le_of_suc-le-suc l))
