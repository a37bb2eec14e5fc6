-- Pieces: the first piece at a place, and lists made of whole pieces. Assumes nothing.
use mathlib.Core.Path.{◌≡◌, refl, ap}
use mathlib.Core.Bool.{Bool, true, false, cond}
use mathlib.Core.List.{List, [], ◌∷◌, ◌++◌, map}
use Prim.Native.Nat.{ℕ, suc, ◌+◌, ◌-◌, ◌≤◌, ◌<◌}
use native.Mathlib.Omega.{arith}
use lib.Dec.{eqb}
use lib.ListN.{length, take, drop, length-drop}
use lib.Seq.{drop-drop}
use borrow.Author.Tests.{eq-eqb}
use Rattle.fields.specs.Fields.{with_byte, split, piece_length}

-- the first piece takes some byte, and no more than there are
pub piece-some : (b : ℕ) (l : List ℕ) → 0 < length l → 0 < piece_length b l
unfolding piece_length
piece-some b [] h = absurd (omega arith)
piece-some b (x ∷ l) h = go (eqb x b)
  where
    go : (t : Bool) → 0 < cond t 1 (suc (piece_length b l))
    go true = omega arith
    go false = omega arith

pub piece-most : (b : ℕ) (l : List ℕ) → piece_length b l ≤ length l
unfolding piece_length
piece-most b [] = omega arith
piece-most b (x ∷ l) = go (eqb x b) (piece-most b l)
  where
    go : (t : Bool) → piece_length b l ≤ length l → cond t 1 (suc (piece_length b l)) ≤ suc (length l)
    go true h = omega arith
    go false h = omega arith

-- the first piece and the pieces after it
pub split-first : (b : ℕ) (l : List ℕ) → 0 < length l → split b l ≡ take (piece_length b l) l ∷ split b (drop (piece_length b l) l)
unfolding split piece_length with_byte
split-first b [] h = absurd (omega arith)
split-first b (x ∷ []) h = go (eqb x b)
  where
    go : (t : Bool) → cond t ((x ∷ []) ∷ []) ((x ∷ []) ∷ []) ≡ take (cond t 1 1) (x ∷ []) ∷ split b (drop (cond t 1 1) (x ∷ []))
    go true = refl
    go false = refl
split-first b (x ∷ y ∷ l) h = go (eqb x b) (split-first b (y ∷ l) (omega arith))
  where
    go : (t : Bool) → split b (y ∷ l) ≡ take (piece_length b (y ∷ l)) (y ∷ l) ∷ split b (drop (piece_length b (y ∷ l)) (y ∷ l))
        → cond t ((x ∷ []) ∷ split b (y ∷ l)) (with_byte x (split b (y ∷ l)))
        ≡ take (cond t 1 (suc (piece_length b (y ∷ l)))) (x ∷ y ∷ l) ∷ split b (drop (cond t 1 (suc (piece_length b (y ∷ l)))) (x ∷ y ∷ l))
    go true e = refl
    go false e = ap (with_byte x) e

-- the first piece, cut off
pub split-next : (b : ℕ) (l : List ℕ) (n : ℕ) (p r : List ℕ) → 0 < length l → n ≡ piece_length b l → p ≡ take n l → r ≡ drop n l
    → split b l ≡ p ∷ split b r
split-next b l n p r h e f g = rw (f, g, e) (split-first b l h)

-- no more pieces than bytes
pub split_few : (b : ℕ) (l : List ℕ) → length (split b l) ≤ length l
unfolding split with_byte
split_few b [] = omega arith
split_few b (x ∷ l) = go (eqb x b) (split b l) (split_few b l)
  where
    put : (ps : List (List ℕ)) → length (with_byte x ps) ≤ suc (length ps)
    put [] = omega arith
    put (p ∷ ps) = omega arith

    go : (t : Bool) (ps : List (List ℕ)) → length ps ≤ length l → length (cond t ((x ∷ []) ∷ ps) (with_byte x ps)) ≤ suc (length l)
    go true ps h = omega arith
    go false ps h = omega (arith, put ps)

-- the pieces from a place on: the piece up to e, and those from e on
pub split_at : (b : ℕ) (s : List ℕ) (at e : ℕ) → at < length s → e ≡ at + piece_length b (drop at s)
    → split b (drop at s) ≡ take (e - at) (drop at s) ∷ split b (drop e s)
split_at b s at e h q =
    let some : 0 < length (drop at s) = rw (length-drop at s) (omega arith) in
    let size : e - at ≡ piece_length b (drop at s) = omega arith in
    rw (size, q, ← (drop-drop (piece_length b (drop at s)) at s)) (split-first b (drop at s) some)

-- where the piece ends
pub end-bounds : (b : ℕ) (s : List ℕ) (at e : ℕ) → at < length s → e ≡ at + piece_length b (drop at s) → (at < e) × (e ≤ length s)
end-bounds b s at e h q =
    let some : 0 < length (drop at s) = rw (length-drop at s) (omega arith) in
    let size : length (drop at s) ≡ length s - at = length-drop at s in
    (omega (arith, piece-some b (drop at s) some), omega (arith, piece-most b (drop at s)))

pub end-most : (b : ℕ) (s : List ℕ) (at e : ℕ) → at ≤ length s → e ≡ at + piece_length b (drop at s) → (at ≤ e) × (e ≤ length s)
end-most b s at e h q =
    let size : length (drop at s) ≡ length s - at = length-drop at s in
    (omega arith, omega (arith, piece-most b (drop at s)))

-- no byte b stands in the list
abbrev pub Free : ℕ → List ℕ → Type 0
Free b [] = Unit
Free b (x ∷ l) = (eqb x b ≡ false) × Free b l

-- a piece that ends with its only b, and what follows
pub split-piece : (b : ℕ) (p l : List ℕ) → Free b p → split b (p ++ b ∷ l) ≡ (p ++ b ∷ []) ∷ split b l
unfolding split with_byte
split-piece b [] l f = rw (eq-eqb b b refl)
split-piece b (x ∷ p) l f = rw (f.0, split-piece b p l f.1)

-- a last piece without b
pub split-last : (b x : ℕ) (p : List ℕ) → Free b (x ∷ p) → split b (x ∷ p) ≡ (x ∷ p) ∷ []
unfolding split with_byte
split-last b x [] f = rw f.0
split-last b x (y ∷ p) f = rw (f.0, split-last b y p f.1)

-- lines, each without its line feed, as a text
unfoldable pub text_of : List (List ℕ) → List ℕ
text_of [] = []
text_of (p ∷ ps) = p ++ 10 ∷ text_of ps

abbrev pub ended : List ℕ → List ℕ
ended p = p ++ 10 ∷ []

abbrev pub FreeAll : List (List ℕ) → Type 0
FreeAll [] = Unit
FreeAll (p ∷ ps) = Free 10 p × FreeAll ps

-- the lines of such a text
pub lines-of : (ps : List (List ℕ)) → FreeAll ps → split 10 (text_of ps) ≡ map ended ps
unfolding text_of split
lines-of [] f = refl
lines-of (p ∷ ps) f = rw (split-piece 10 p (text_of ps) f.0, lines-of ps f.1)

pub split_one : (b : ℕ) (p : List ℕ) → Free b p → 0 < length p → split b p ≡ p ∷ []
split_one b [] f h = absurd (omega arith)
split_one b (x ∷ p) f h = split-last b x p f
