-- The first places of a list. Assumes nothing.
use mathlib.Core.Path.{◌≡◌}
use mathlib.Core.List.{List, map}
use Prim.Native.Nat.{ℕ, ◌≤◌, ◌<◌}
use native.Mathlib.Omega.{arith}
use borrow.Author.Rules.{length_unmapped}
use lib.ListN.{length, take, length-take}

-- as many as a byte says, of a list of 255; e is as the relation of a struct's field has it
pub within : (m : ℕ) (l : List ℕ) → m < 256 → length (map (λ (x : ℕ). x) l) ≡ 255 → m ≤ length l
within m l h e = omega (arith, length_unmapped ℕ l 255 e)

pub counted : (m : ℕ) (l : List ℕ) → m ≤ length l → m ≡ length (take m l)
counted m l h = omega (arith, length-take m l)
