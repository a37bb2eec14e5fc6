-- Every element of a list has a property. Assumes nothing.
use mathlib.Core.List.{List, [], ◌∷◌, ◌++◌}
use Prim.Native.Nat.{ℕ, zero, suc, ◌<◌}
use native.Mathlib.Omega.{arith}
use lib.ListN.{length, get_or}

module _ {A : Type 0} where
  abbrev pub Every : (A → Type 0) → List A → Type 0
  Every P [] = Unit {0}
  Every P (a ∷ l) = P a × Every P l

  module _ (P : A → Type 0) where
    pub every_append : (u v : List A) → Every P u → Every P v → Every P (u ++ v)
    every_append [] v h k = k
    every_append (a ∷ u) v h k = (h.0, every_append u v h.1 k)

    pub every-at : (l : List A) (d : A) (z : ℕ) → Every P l → z < length l → P (get_or l z d)
    every-at [] d z h k = absurd (omega arith)
    every-at (a ∷ l) d zero h k = h.0
    every-at (a ∷ l) d (suc z) h k = every-at l d z h.1 (omega arith)

    -- a property that follows from it
    pub every_map : (Q : A → Type 0) → ((a : A) → P a → Q a) → (l : List A) → Every P l → Every Q l
    every_map Q f [] h = tt
    every_map Q f (a ∷ l) h = (f a h.0, every_map Q f l h.1)
