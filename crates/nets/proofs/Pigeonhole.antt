-- Of N + 1 numbers below N two are the same; and a pair of numbers as one number. Assumes nothing.
use mathlib.Core.Path.{◌≡◌, ap}
use mathlib.Core.Logic.{◌⊎◌, inl, inr, ⊎_elim, ◌≢◌}
use Prim.Native.Nat.{ℕ, zero, suc, ◌+◌, ◌*◌, ◌-◌, ◌/◌, ◌%◌, ◌≤◌, ◌<◌, min}
use native.Mathlib.Omega.{arith}
use native.Mathlib.Nat.{suc-mul, mul-le-mul_right, add-zero, div-eq_of_lt, mod-eq_of_lt, mul-add-div_right, mul-add-mod_self_right}
use native.Mathlib.Decide.{dec_le, ℕ_discrete}

-- one of the first k numbers is v, or none is
found : (f : ℕ → ℕ) (v k : ℕ) → ((i : ℕ) × (i < k) × (f i ≡ v)) ⊎ ((i : ℕ) → i < k → f i ≢ v)
found f v zero = inr (λ i h. absurd (omega arith))
found f v (suc k) =
    elim (ℕ_discrete (f k) v) [
      | yes q ↦ inl (k, omega arith, q)
      | no q ↦ ⊎_elim (λ h. inl (h.0, omega arith, h.2)) (λ h. inr (none q h)) (found f v k)
    ]
  where
    none : f k ≢ v → ((i : ℕ) → i < k → f i ≢ v) → (i : ℕ) → i < suc k → f i ≢ v
    none q h i u =
        elim (dec_le k i) [
          | yes w ↦ let e : i ≡ k = omega arith in rw e q
          | no w ↦ h i (omega arith)
        ]

-- the numbers other than v, closed up: those above v go down by one
abbrev without : ℕ → ℕ → ℕ
without v x = min x v + (x - suc v)

-- there is one fewer of them
without-bound : (N v x : ℕ) → v ≤ N → x ≤ N → x ≢ v → without v x < N
without-bound N v x h k q = omega arith

-- and no two fall together
without-same : (v x y : ℕ) → x ≢ v → y ≢ v → without v x ≡ without v y → x ≡ y
without-same v x y p q e = omega arith

-- of N + 1 numbers below N two are the same
pub pigeonhole : (N : ℕ) (f : ℕ → ℕ) → ((i : ℕ) → i ≤ N → f i < N) → (i j : ℕ) × (i < j) × (j ≤ N) × (f i ≡ f j)
pigeonhole zero f h = absurd (omega (arith, h 0 (omega arith)))
pigeonhole (suc N) f h =
    let v = f (suc N) in
    ⊎_elim
    (λ q. (q.0, suc N, q.1, omega arith, q.2))
    (λ q.
    let (i, j, u, k, e) =
    pigeonhole N (λ i. without v (f i))
    (λ i k. without-bound N v (f i) (omega (arith, h (suc N) (omega arith))) (omega (arith, h i (omega arith))) (q i (omega arith)))
    in
    (i, j, u, omega arith, without-same v (f i) (f j) (q i (omega arith)) (q j (omega arith)) e))
    (found f v (suc N))

-- x below n and y below k, as one number below n k
pub paired-bound : (n k x y : ℕ) → x < n → y < k → x * k + y < n * k
paired-bound n k x y h h' = omega (arith, suc-mul x k, mul-le-mul_right k h)

-- the number gives the pair back
pub paired_same : (k x y x' y' : ℕ) → y < k → y' < k → x * k + y ≡ x' * k + y' → (x ≡ x') × (y ≡ y')
paired_same k x y x' y' h h' e = (
  simp (mul-add-div_right {m = k} (omega arith), div-eq_of_lt h, div-eq_of_lt h', add-zero) at (ap {B = ℕ} (λ (z : ℕ). z / k) e),
  simp (mul-add-mod_self_right, mod-eq_of_lt h, mod-eq_of_lt h') at (ap {B = ℕ} (λ (z : ℕ). z % k) e),
)
