-- Some arc of a list passes a test: at which place, of two lists joined, of a list repeated, and by another test. Assumes nothing.
use mathlib.Core.Path.{◌≡◌, sym, ◌∙◌}
use mathlib.Core.Bool.{Bool, true}
use mathlib.Core.List.{List, [], ◌∷◌, ◌++◌}
use mathlib.Core.Logic.{◌⊎◌, inl, inr, ⊎_elim, ◌↔◌}
use Prim.Native.Nat.{ℕ, zero, suc, ◌<◌}
use native.Mathlib.Omega.{arith}
use lib.ListN.{length, get_or}
use Rattle.walks.specs.Walk.{times}
use Rattle.model.specs.Plans.{SomeArc}

module _ (test : ℕ → Bool) where
  -- exactly where it does at some place
  pub some_at : (w : List ℕ) → SomeArc test w ↔ ((i : ℕ) × (i < length w) × (test (get_or w i 0) ≡ true))
  some_at [] = (λ h. absurd h, λ (i, below, h). absurd (omega arith))
  some_at (a ∷ w) =
      let ih = some_at w in
      (⊎_elim (λ h. (0, omega arith, h)) (λ h. let (i, below, q) = ih.0 h in (suc i, omega arith, q)), λ (i, below, h). here i below h ih.1)
    where
      here : (i : ℕ) → i < suc (length w) → test (get_or (a ∷ w) i 0) ≡ true → (((j : ℕ) × (j < length w) × (test (get_or w j 0) ≡ true)) → SomeArc test w)
          → SomeArc test (a ∷ w)
      here zero below h more = inl h
      here (suc i) below h more = inr (more (i, omega arith, h))

  pub some_left : (u v : List ℕ) → SomeArc test u → SomeArc test (u ++ v)
  some_left [] v h = elim h [ ]
  some_left (a ∷ u) v (inl h) = inl h
  some_left (a ∷ u) v (inr h) = inr (some_left u v h)

  pub some_right : (u v : List ℕ) → SomeArc test v → SomeArc test (u ++ v)
  some_right [] v h = h
  some_right (a ∷ u) v h = inr (some_right u v h)

  pub some-append : (u v : List ℕ) → SomeArc test (u ++ v) → SomeArc test u ⊎ SomeArc test v
  some-append [] v h = inr h
  some-append (a ∷ u) v (inl h) = inl (inl h)
  some-append (a ∷ u) v (inr h) = ⊎_elim (λ p. inl (inr p)) (λ p. inr p) (some-append u v h)

  -- a list repeated has no other arcs
  pub some-times : (r : ℕ) (w : List ℕ) → SomeArc test (times r w) → SomeArc test w
  some-times zero w h = elim h [ ]
  some-times (suc r) w h = ⊎_elim (λ p. p) (some-times r w) (some-append w (times r w) h)

-- what passes a test passes another that says the same
pub some_same : (f h : ℕ → Bool) → ((a : ℕ) → f a ≡ h a) → (w : List ℕ) → SomeArc f w → SomeArc h w
some_same f h e [] p = elim p [ ]
some_same f h e (a ∷ w) (inl p) = inl (sym (e a) ∙ p)
some_same f h e (a ∷ w) (inr p) = inr (some_same f h e w p)
