-- Levels: a walk never lowers the level, the duties of the levels passed are met, and so many repetitions of a list that meets every duty,
-- in whatever order, pass all levels. Document 001, Lemma 2.5; here the levels are 0 to K, and the last stays. Assumes nothing.
use mathlib.Core.Path.{◌≡◌, refl}
use mathlib.Core.Bool.{Bool, true, false, false≢true, ◌&&◌}
use mathlib.Core.List.{List, [], ◌∷◌, ◌++◌}
use mathlib.Core.Logic.{◌⊎◌, inl, inr, ⊎_elim}
use Prim.Native.Nat.{ℕ, zero, suc, ◌+◌, ◌≤◌, ◌<◌, min}
use native.Mathlib.Omega.{arith}
use native.Mathlib.Decide.{dec_le}
use lib.Dec.{ltb}
use borrow.Author.Tests.{ltb-true, ltb-false}
use Rattle.walks.specs.Walk.{times}
use Rattle.nets.specs.Net.{Net, Meets, MeetsAll}
use Rattle.nets.specs.Table.{raised_if, next, level}

-- the arc meets the duty of level l, and the level rises
pub record Rises (g : Net) (K l a : ℕ) : Type 0 where
  pub below_last : l < K
  pub meets : g.meets l a ≡ true
  pub rises : next g K l a ≡ suc l

-- it does not, or the level is the last, and the level stays
pub record Stays (g : Net) (K l a : ℕ) : Type 0 where
  pub stays : next g K l a ≡ l
  pub misses : l < K → g.meets l a ≡ true → ⊥

module _ (g : Net) (K : ℕ) where
  -- an arc raises the level by one or leaves it
  pub next-cases : (l a : ℕ) → Rises g K l a ⊎ Stays g K l a
  next-cases l a =
      ⊎_elim
      (λ p. inl (record { below_last = p.0; meets = p.1; rises = p.2 }))
      (λ p. inr (record { stays = p.0; misses = p.1 }))
      (go (ltb l K) (g.meets l a) refl)
    where
      go : (s t : Bool) → ltb l K ≡ s
          → ((l < K) × (t ≡ true) × (raised_if (s && t) l ≡ suc l)) ⊎ ((raised_if (s && t) l ≡ l) × (l < K → t ≡ true → ⊥))
      go true true p = inl (ltb-true l K p, refl, refl)
      go true false p = inr (refl, λ h r. false≢true r)
      go false t p = inr (refl, λ h r. omega (arith, ltb-false l K p))

  -- no level is above the last
  pub next-bound : (l a : ℕ) → l ≤ K → next g K l a ≤ K
  next-bound l a h = ⊎_elim (λ p. omega arith) (λ p. omega arith) (next-cases l a)

  -- the level after two lists joined
  pub level-append : (u v : List ℕ) (l : ℕ) → level g K l (u ++ v) ≡ level g K (level g K l u) v
  level-append [] v l = refl
  level-append (a ∷ u) v l = level-append u v (next g K l a)

  -- no list leads above the last level
  pub level-bound : (w : List ℕ) (l : ℕ) → l ≤ K → level g K l w ≤ K
  level-bound [] l h = h
  level-bound (a ∷ w) l h = level-bound w (next g K l a) (next-bound l a h)

  -- no list lowers the level
  pub level-grows : (w : List ℕ) (l : ℕ) → l ≤ level g K l w
  level-grows [] l = omega arith
  level-grows (a ∷ w) l =
      let h = level-grows w (next g K l a) in
      ⊎_elim (λ p. omega arith) (λ p. omega arith) (next-cases l a)

  -- the duties of the levels that a list passes are met by it
  pub passed-met : (w : List ℕ) (l j : ℕ) → l ≤ j → j < level g K l w → Meets g j w
  passed-met [] l j h k = absurd (omega arith)
  passed-met (a ∷ w) l j h k =
      elim (dec_le (next g K l a) j) [
        | yes q ↦ inr (passed-met w (next g K l a) j q k)
        | no q ↦
            ⊎_elim
            (λ p. let e : j ≡ l = omega arith in inl (rw e p.meets))
            (λ p. absurd (omega arith))
            (next-cases l a)
      ]

  -- a list that meets the duty of the level raises the level
  pub met-rises : (w : List ℕ) (l : ℕ) → l < K → Meets g l w → l < level g K l w
  met-rises [] l h m = elim m [ ]
  met-rises (a ∷ w) l h m = go (level-grows w (next g K l a)) (met-rises w l h) m (next-cases l a)
    where
      go : next g K l a ≤ level g K (next g K l a) w → (Meets g l w → l < level g K l w) → Meets g l (a ∷ w) → Rises g K l a ⊎ Stays g K l a
          → l < level g K (next g K l a) w
      go i ih m (inl p) = omega arith
      go i ih (inl q) (inr p) = absurd (p.misses h q)
      go i ih (inr q) (inr p) = rw p.stays (ih q)

-- so r repetitions of a list that meets every duty raise the level by r, up to the last
pub times-level : (g : Net) (w : List ℕ) → MeetsAll g w → (r l : ℕ) → l ≤ g.duties
    → min (l + r) g.duties ≤ level g g.duties l (times r w)
times-level g w m zero l h = omega arith
times-level g w m (suc r) l h =
    let i = times-level g w m r (level g g.duties l w) (level-bound g g.duties w l h) in
    rw (level-append g g.duties w (times r w) l)
    (elim (dec_le g.duties l) [
      | yes q ↦ omega (arith, level-grows g g.duties w l)
      | no q ↦ omega (arith, met-rises g g.duties w l (omega arith) (m l (omega arith)))
    ])
