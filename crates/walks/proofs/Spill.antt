-- Nothing is lost but what is counted. Document 02, Ask 4: "spill counts the gain lost; c plus gains equals charge plus draws plus spill."
-- Assumes nothing.
use Rattle.std.specs.Prelude.{None}
use mathlib.Core.Path.{◌≡◌, refl}
use mathlib.Core.List.{List, [], ◌∷◌}
use Prim.Native.Nat.{ℕ, ◌+◌, ◌≤◌}
use native.Mathlib.Omega.{arith}
use Rattle.walks.specs.BoundedStep.{to}
use Rattle.walks.specs.BoundedStep.{Move, stepped}
use Rattle.walks.specs.Walk.{Ends, walked}
use Rattle.walks.specs.Moves.{draws, gains}
use Rattle.walks.specs.Spill.{lost_in, spilled}
use Rattle.walks.proofs.Walks.{stepped-to, walked-cons}

-- one step: the charge and the gain are the charge that it leads to, the draw and what it lost
pub step-balance : (b : ℕ) (m : Move) (e x l : ℕ) → stepped b m e ≡ to x l → e + m.gain ≡ x + m.draw + l
step-balance b m e x l q = let (h, i, j) = (stepped-to b m e x l).0 q in omega arith

-- at most the gain is lost
pub step-loss : (b : ℕ) (m : Move) (e x l : ℕ) → e ≤ b → stepped b m e ≡ to x l → l ≤ m.gain
step-loss b m e x l h q = let (_, _, j) = (stepped-to b m e x l).0 q in omega arith

-- the sum of what the steps lost: the first step's, and that of the others
pub spilled-cons : (b : ℕ) (m : Move) (ms : List Move) (e x l : ℕ) → stepped b m e ≡ to x l → spilled b (m ∷ ms) e ≡ l + spilled b ms x
unfolding spilled
spilled-cons b m ms e x l q = rw q refl

-- of one step, what it lost
pub spilled-one : (b : ℕ) (m : Move) (e : ℕ) → spilled b (m ∷ []) e ≡ lost_in (stepped b m e)
unfolding spilled
spilled-one b m e = refl

-- where the first step is not possible, nothing is lost
pub spilled-off : (b : ℕ) (m : Move) (ms : List Move) (e : ℕ) → stepped b m e ≡ None → spilled b (m ∷ ms) e ≡ 0
unfolding spilled
spilled-off b m ms e q = rw q refl

-- a walk: the charge that it begins with and its gains are the charge at its end, its draws and all that its steps lost
pub walk-balance : (b : ℕ) (ms : List Move) (e x : ℕ) → walked b ms e ≡ Ends x → e + gains ms ≡ x + draws ms + spilled b ms e
unfolding walked spilled
walk-balance b [] e x q = let i : e ≡ x = cc in omega arith
walk-balance b (m ∷ ms) e x q =
    let (y, l, f, r) = (walked-cons b m ms e x).0 q in
    omega (arith, spilled-cons b m ms e y l f, step-balance b m e y l f, walk-balance b ms y x r)
