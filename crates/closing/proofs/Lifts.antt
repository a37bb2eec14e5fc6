-- A word that rises where it is lower: no word falls, and each word is as it was or the one that rose. Assumes nothing.
use mathlib.Core.Path.{◌≡◌, refl, ap, ◌∙◌}
use mathlib.Core.List.{List}
use mathlib.Core.Logic.{◌⊎◌, inl, inr, ⊎_elim}
use Prim.Native.Nat.{ℕ, zero, suc, ◌≤◌, ◌<◌, max}
use native.Mathlib.Omega.{arith}
use native.Mathlib.Decide.{dec_lt, ℕ_discrete}
use lib.ListN.{length, get_or, set, replicate, length-set}
use lib.Seq.{get_or-set_same, get_or-set_other, set-get_or}
use Rattle.closing.specs.Tables.{Lifted, rises, stays}

module _ (words : List ℕ) (i y : ℕ) (words' : List ℕ) (hi : i < length words) where
  -- each word is as it was, or is the one that rose
  pub lifted-at : Lifted words i y words' → (v : ℕ) → (get_or words' v 0 ≡ get_or words v 0) ⊎ ((v ≡ i) × (get_or words' v 0 ≡ y) × (get_or words v 0 < y))
  lifted-at (rises h q) v =
      elim (ℕ_discrete v i) [
        | yes e ↦ inr (e, rw (q, e) (get_or-set_same words i y 0 hi), rw e h)
        | no e ↦ inl (rw q (get_or-set_other words i v y 0 e))
      ]
  lifted-at (stays h q) v = inl (ap (λ w. get_or w v 0) q)

  pub lifted-up : Lifted words i y words' → (v : ℕ) → get_or words v 0 ≤ get_or words' v 0
  lifted-up k v = ⊎_elim (λ p. omega arith) (λ p. omega (arith, p.1, p.2)) (lifted-at k v)

  -- the word at i is at least y
  pub lifted-there : Lifted words i y words' → y ≤ get_or words' i 0
  lifted-there (rises h q) = rw q (omega (arith, get_or-set_same words i y 0 hi))
  lifted-there (stays h q) = rw q h

  pub lifted-size : Lifted words i y words' → length words' ≡ length words
  lifted-size (rises h q) = ap length q ∙ simp length-set
  lifted-size (stays h q) = ap length q

-- the greater of the word and y stands there
pub lifted-max : (words : List ℕ) (i y z : ℕ) → z ≡ max (get_or words i 0) y → Lifted words i y (set words i z)
lifted-max words i y z e =
    elim (dec_lt (get_or words i 0) y) [
      | yes h ↦ let q : z ≡ y = omega (arith, e) in rises h (rw q refl)
      | no h ↦ let q : z ≡ get_or words i 0 = omega (arith, e) in stays (omega arith) (rw (q, set-get_or words i 0) refl)
    ]

-- words of 0
pub zeros : (n t : ℕ) → ◌≡◌ {A = ℕ} (get_or (replicate n 0) t 0) 0
zeros zero t = refl
zeros (suc n) zero = refl
zeros (suc n) (suc t) = zeros n t
