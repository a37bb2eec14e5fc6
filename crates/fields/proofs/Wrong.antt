-- The first line that is outside the forms, or none. Assumes nothing.
use mathlib.Core.Path.{◌≡◌, refl}
use mathlib.Core.Bool.{Bool, true, false, cond}
use lib.Dec.{eqb}
use Prim.Native.Nat.{ℕ, ◌<◌}
use native.Mathlib.Omega.{arith}
use borrow.Author.Tests.{eq-eqb, ne_eqb, eqb-true}
use Rattle.std.specs.Prelude.{Option, Some, None}
use Rattle.fields.specs.Fields.{line_or_none}

pub wrong_at : (x y : ℕ) → 0 < y → x ≡ y → Some y ≡ line_or_none x
wrong_at x y h e = rw (e, ne_eqb y 0 (λ z. absurd (omega arith)))

pub wrong_none : (x : ℕ) → x ≡ 0 → None ≡ line_or_none x
wrong_none x e = rw (eq-eqb x 0 e)

-- what the answer says
pub told_line : (x y : ℕ) → Some y ≡ line_or_none x → (y ≡ x) × (x ≡ 0 → ⊥)
told_line x y e = go (eqb x 0) refl e
  where
    go : (t : Bool) → eqb x 0 ≡ t → Some y ≡ cond t None (Some x) → (y ≡ x) × (x ≡ 0 → ⊥)
    go true z f = absurd (cc)
    go false z f = (cc, λ h. let o = eq-eqb x 0 h in cc)

pub told_none : (x : ℕ) → None ≡ line_or_none x → x ≡ 0
told_none x e = go (eqb x 0) refl e
  where
    go : (t : Bool) → eqb x 0 ≡ t → ◌≡◌ {A = Option ℕ} None (cond t None (Some x)) → x ≡ 0
    go true z f = eqb-true x 0 z
    go false z f = absurd (cc)
