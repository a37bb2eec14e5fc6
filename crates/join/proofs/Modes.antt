-- Joined modes. "The joined mode of i and j is i × n2 + j". Assumes nothing.
use mathlib.Core.Path.{◌≡◌, sym, ap, ◌∙◌}
use Prim.Native.Nat.{ℕ, zero, suc, ◌+◌, ◌*◌, ◌/◌, ◌%◌, ◌<◌}
use native.Mathlib.Nat.{suc-mul, mul-zero, mul_comm, mul-le-mul_right, div-eq_of_lt, div-lt_iff_lt-mul, div-add-mod', mod-lt, mod-eq_of_lt, add-mul-div_left, add-mul-mod_self_left}
use native.Mathlib.Omega.{arith}
use Rattle.model.specs.Automaton.{Automaton}
use Rattle.join.specs.Joined.{join_mode, joined}

-- it is below the product of the numbers of modes
pub mode-below : (n₁ n₂ i j : ℕ) → i < n₁ → j < n₂ → join_mode n₂ i j < n₁ * n₂
mode-below n₁ n₂ i j h k = omega (arith, suc-mul i n₂, mul-le-mul_right n₂ h)

-- it tells its two modes: they are its quotient and its rest by n₂
pub mode-parts : (n i j : ℕ) → j < n → (join_mode n i j / n ≡ i) × (join_mode n i j % n ≡ j)
mode-parts n i j h =
    let e : join_mode n i j ≡ j + n * i = omega (arith, mul_comm i n) in
    rw e (add-mul-div_left j i (omega arith) ∙ (omega (arith, div-eq_of_lt h)), add-mul-mod_self_left j n i ∙ mod-eq_of_lt h)

pub mode-one : (n i j i' j' : ℕ) → j < n → j' < n → join_mode n i j ≡ join_mode n i' j' → (i ≡ i') × (j ≡ j')
mode-one n i j i' j' h h' e =
    let one = mode-parts n i j h in
    let other = mode-parts n i' j' h' in
    (sym one.0 ∙ ap (λ (z : ℕ). z / n) e ∙ other.0, sym one.1 ∙ ap (λ (z : ℕ). z % n) e ∙ other.1)

-- and the joined model has no other modes
pub mode-joined : (g h : Automaton) (s : ℕ) → s < (joined g h).modes
    → (s / h.modes < g.modes) × (s % h.modes < h.modes) × (join_mode h.modes (s / h.modes) (s % h.modes) ≡ s)
mode-joined g h s k =
    let some : 0 < h.modes = positive h.modes k in
    ((div-lt_iff_lt-mul some).1 k, mod-lt s some, div-add-mod' s h.modes)
  where
    positive : (n : ℕ) → s < g.modes * n → 0 < n
    positive zero k = absurd (omega (arith, mul-zero g.modes))
    positive (suc n) k = omega arith
