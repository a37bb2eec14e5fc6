-- The least level, of any predicate that stays true as the level grows: the same in other words, and halving a range, what is known of the levels that are left and
-- how a decision narrows them. Assumes nothing.
use mathlib.Core.Logic.{◌↔◌}
use Prim.Native.Nat.{ℕ, suc, ◌≤◌, ◌<◌}
use native.Mathlib.Omega.{arith}
use Rattle.least.specs.Least.{Least, NoneServes}

-- what serves at a level serves at every higher one
abbrev pub Monotone : (ℕ → Type 0) → Type 0
Monotone Serves = (y z : ℕ) → y ≤ z → Serves y → Serves z

-- the same in other words for the levels that are looked at and for what serves
module _ {Allow Allow' Serves Serves' : ℕ → Type 0} (levels : (y : ℕ) → Allow y ↔ Allow' y) (same : (y : ℕ) → Allow y → Serves y ↔ Serves' y) where
  pub least-alike : {m : ℕ} → Least Allow Serves m → Least Allow' Serves' m
  least-alike {m} k =
      record {
        allowed = (levels m).0 k.allowed;
        serves = (same m k.allowed).0 k.serves;
        smaller = λ y a h p. let b = (levels y).1 a in k.smaller y b h ((same y b).1 p);
        larger = λ y a h. let b = (levels y).1 a in (same y b).0 (k.larger y b h);
      }

  pub none_alike : NoneServes Allow Serves → NoneServes Allow' Serves'
  none_alike f y a p = let b = (levels y).1 a in f y b ((same y b).1 p)

-- the levels from low to high are left: those below low fail, and high serves
pub record Narrowed (Serves : ℕ → Type 0) (lowest highest low high : ℕ) : Type 0 where
  pub above : lowest ≤ low
  pub order : low ≤ high
  pub below : high ≤ highest
  pub serves : Serves high
  pub fails : (y : ℕ) → lowest ≤ y → y < low → Serves y → ⊥

module _ {Serves : ℕ → Type 0} {lowest highest : ℕ} where
  pub narrowed-first : lowest ≤ highest → Serves highest → Narrowed Serves lowest highest lowest highest
  narrowed-first h p = record { above = omega arith; order = h; below = omega arith; serves = p; fails = λ y u v q. absurd (omega arith) }

  -- the middle serves
  pub narrowed-below : {low high : ℕ} (middle : ℕ) → Narrowed Serves lowest highest low high → low ≤ middle → middle ≤ high → Serves middle
      → Narrowed Serves lowest highest low middle
  narrowed-below middle n u v p = record { above = n.above; order = u; below = omega (arith, n.below); serves = p; fails = n.fails }

  -- the middle fails
  pub narrowed-above : {low high : ℕ} (middle : ℕ) → Monotone Serves → Narrowed Serves lowest highest low high → low ≤ middle → middle < high
      → (Serves middle → ⊥) → Narrowed Serves lowest highest (suc middle) high
  narrowed-above middle mono n u v f =
      record {
        above = omega (arith, n.above);
        order = v;
        below = n.below;
        serves = n.serves;
        fails = λ y a c q. f (mono y middle (omega arith) q);
      }

  -- one level is left
  pub narrowed-last : {low high : ℕ} → Monotone Serves → Narrowed Serves lowest highest low high → high ≤ low
      → Least (λ y. (lowest ≤ y) × (y ≤ highest)) Serves low
  narrowed-last {low} {high} mono n q =
      record {
        allowed = (n.above, omega (arith, n.order, n.below));
        serves = mono high low q n.serves;
        smaller = λ y a c. n.fails y a.0 c;
        larger = λ y a c. mono high y (omega arith) n.serves;
      }

  -- where the highest fails, all do
  pub none-serves : Monotone Serves → (Serves highest → ⊥) → NoneServes (λ y. (lowest ≤ y) × (y ≤ highest)) Serves
  none-serves mono f y a p = f (mono y highest a.1 p)
