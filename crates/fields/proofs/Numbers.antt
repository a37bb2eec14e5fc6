-- Plain numbers: what their digits are, and their value digit by digit. Assumes nothing.
use mathlib.Core.Path.{◌≡◌, refl, sym}
use mathlib.Core.Bool.{Bool, true, false, ◌&&◌, cond}
use mathlib.Core.List.{List, [], ◌∷◌}
use Prim.Native.Nat.{ℕ, zero, suc, ◌+◌, ◌-◌, ◌*◌, ◌^◌, ◌≤◌, ◌<◌}
use native.Mathlib.Nat.{pow-suc, pow-le-pow_right}
use native.Mathlib.Numerals.{add-one}
use native.Mathlib.Omega.{arith}
use lib.Dec.{leb}
use lib.ListN.{length, get_or, take, drop, drop_of_length-le}
use lib.Seq.{drop-cons, get_or-take, length-take-le}
use borrow.Author.Tests.{leb-true}
use Rattle.limits.specs.Ceilings.{digits_most}
use Rattle.fields.specs.Fields.{is_digit, digit_count, value, is_plain, number_of}

-- both of two tests
pub both : (s t : Bool) → (s && t) ≡ true → (s ≡ true) × (t ≡ true)
both true t e = (refl, e)
both false t e = (e, absurd (let z : ◌≡◌ {A = ℕ} 0 1 = cc in omega arith))

pub digit-bounds : (x : ℕ) → is_digit x ≡ true → (48 ≤ x) × (x ≤ 57)
unfolding is_digit
digit-bounds x e = let (a, b) = both (leb 48 x) (leb x 57) e in (leb-true 48 x a, leb-true x 57 b)

pub plain-bounds : (n : ℕ) → is_plain n ≡ true → (1 ≤ n) × (n ≤ digits_most)
unfolding is_plain
plain-bounds n e = let (a, b) = both (leb 1 n) (leb n digits_most) e in (leb-true 1 n a, leb-true n digits_most b)

pub digits_le : (s : List ℕ) → digit_count s ≤ length s
unfolding digit_count
digits_le [] = omega arith
digits_le (x ∷ l) = go (is_digit x) (digits_le l)
  where
    go : (t : Bool) → digit_count l ≤ length l → cond t (suc (digit_count l)) 0 ≤ suc (length l)
    go true h = omega arith
    go false h = omega arith

pub digits_are : (s : List ℕ) (i : ℕ) → i < digit_count s → is_digit (get_or s i 0) ≡ true
unfolding digit_count
digits_are [] i h = absurd (omega arith)
digits_are (x ∷ l) i h = go (is_digit x) refl i h (digits_are l)
  where
    go : (t : Bool) → is_digit x ≡ t → (i : ℕ) → i < cond t (suc (digit_count l)) 0 → ((i : ℕ) → i < digit_count l → is_digit (get_or l i 0) ≡ true)
        → is_digit (get_or (x ∷ l) i 0) ≡ true
    go true e zero h f = e
    go true e (suc i) h f = f i (omega arith)
    go false e i h f = absurd (omega arith)

-- one of the digits that lead a list
pub taken-digit : (s : List ℕ) (n i : ℕ) → n ≡ digit_count s → i < length (take n s)
    → (i < n) × (48 ≤ get_or (take n s) i 0) × (get_or (take n s) i 0 ≤ 57)
taken-digit s n i e h =
    let few = length-take-le n s (omega (arith, digits_le s)) in
    let (low, high) = digit-bounds (get_or s i 0) (digits_are s i (omega arith)) in
    rw (get_or-take n s i 0 (omega arith)) (omega arith, low, high)

pub value-turn : (l : List ℕ) (i v : ℕ) → i < length l → value v (drop i l) ≡ value (v * 10 + (get_or l i 0 - 48)) (drop (i + 1) l)
unfolding value
value-turn l i v h = rw (add-one i, drop-cons l i 0 h)

pub value-done : (l : List ℕ) (i v : ℕ) → length l ≤ i → value v (drop i l) ≡ v
unfolding value
value-done l i v h = rw (drop_of_length-le l {i = i} h)

-- a value of i digits is below 10 to the i
pub below_power : (i v d : ℕ) → v < 10 ^ i → d ≤ 9 → v * 10 + d < 10 ^ (i + 1)
below_power i v d h k = rw (add-one i, pow-suc 10 i) (omega arith)

pub below-most : (i v : ℕ) → i ≤ 8 → v < 10 ^ i → v < 100000000
below-most i v h k = omega (arith, pow-le-pow_right {n = 10} (omega arith) {i = i} {j = 8} h)

pub number-some : (s : List ℕ) (n v : ℕ) → is_plain (digit_count s) ≡ true → n ≡ digit_count s → value 0 (take n s) ≡ v → v ≡ number_of s
unfolding number_of
number-some s n v e h k = rw (e, ← h) (sym k)
