-- The arcs that lead to an entry of the queue, read back by the parents.
use Rattle.std.specs.Prelude.{◌≡◌, List, [], ◌∷◌, ℕ, suc, ◌+◌, ◌*◌, ◌≤◌, ◌<◌, length, take, drop}
use Rattle.limits.specs.Ceilings.{work_words}
use Rattle.passes.specs.Queue.{byte_count, parent_at, number_at}

-- the entries up to i can be followed by their parents, and their arcs are bytes
pub record Linked (w : List ℕ) (i : ℕ) : Type 0 where
  pub space : work_words * i + work_words ≤ length w
  pub back : (j : ℕ) → 0 < j → j ≤ i → parent_at w j < j
  pub byte : (j : ℕ) → 0 < j → j ≤ i → number_at w j < byte_count

-- from entry i, d parents lead to the first entry
pub data Chain (w : List ℕ) : ℕ → ℕ → Type 0 where
  root : Chain w 0 0
  link : {i p d : ℕ} → 0 < i → p ≡ parent_at w i → Chain w p d → Chain w i (suc d)

-- the arcs of the entries that lead from entry j to entry i
pub data Traced (w : List ℕ) (i : ℕ) : ℕ → List ℕ → Type 0 where
  here : {j : ℕ} → j ≡ i → Traced w i j []
  there : {j p a : ℕ} {s : List ℕ} → 0 < j → p ≡ parent_at w j → a ≡ number_at w j → Traced w i j s → Traced w i p (a ∷ s)

-- the first r bytes of plan' are the arcs that lead to entry i; the others are plan's
pub record Wrote (w : List ℕ) (i : ℕ) (plan plan' : List ℕ) (r : ℕ) : Type 0 where
  pub few : r ≤ i
  pub arcs : Traced w i 0 (take r plan')
  pub later : drop r plan' ≡ drop r plan
