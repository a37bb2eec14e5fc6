-- A level closed: the greatest charges from the entries of a table, over arcs that stay in the level, and what the arcs that leave it make of them.
-- A table has a number for each mode: 0 for none, x + 1 for the charge x. Document 001, section 4, FindMaxE, one level at a time.
use Rattle.std.specs.Prelude.{ℕ, suc, ◌≤◌, ◌<◌, ◌≡◌, Bool, true, false, List, eqb}
use Rattle.walks.specs.BoundedStep.{after}
use Rattle.walks.specs.Moves.{charge, Possible}
use Rattle.nets.specs.Graph.{Graph, moves, Leads}

-- the number where the test holds, and none else
abbrev pub word_if : Bool → ℕ → ℕ
word_if true y = y
word_if false y = 0

-- the table with one entry, y for mode s
abbrev pub only_at : ℕ → ℕ → ℕ → ℕ
only_at s y t = word_if (eqb t s) y

-- a walk of possible steps over arcs that stay, from some entry of the table from, comes to mode t with charge x
pub record Spread (g : Graph) (stay : ℕ → Type 0) (b : ℕ) (from : ℕ → ℕ) (t x : ℕ) : Type 0 where
  pub source : ℕ
  pub charged : ℕ
  pub listed : from source ≡ suc charged
  pub arcs : List ℕ
  pub leads : Leads g stay source arcs t
  pub possible : Possible b (moves g arcs) charged
  pub reaches : charge b (moves g arcs) charged ≡ x

-- such a walk, and then a possible arc that leaves
pub record Left (g : Graph) (stay leave : ℕ → Type 0) (b : ℕ) (from : ℕ → ℕ) (t x : ℕ) : Type 0 where
  pub arc : ℕ
  pub before : ℕ
  pub leaves : leave arc
  pub spread : Spread g stay b from (g.source arc) before
  pub possible : (g.move arc).draw ≤ before
  pub reaches : after b (g.move arc) before ≡ x
  pub enters : g.target arc ≡ t

-- best is the table of the greatest charges from the entries of from over arcs that stay, and later what the arcs that leave make of it: both are
-- no lower than the arcs lead to, and attained
pub record ClosedLevel (g : Graph) (stay leave : ℕ → Type 0) (b : ℕ) (from best later : ℕ → ℕ) : Type 0 where
  pub begins : (s : ℕ) → from s ≤ best s
  pub stays : (a x : ℕ) → stay a → best (g.source a) ≡ suc x → (g.move a).draw ≤ x → after b (g.move a) x < best (g.target a)
  pub leaves : (a x : ℕ) → leave a → best (g.source a) ≡ suc x → (g.move a).draw ≤ x → after b (g.move a) x < later (g.target a)
  pub attained : (t x : ℕ) → best t ≡ suc x → Spread g stay b from t x
  pub attained_later : (t x : ℕ) → later t ≡ suc x → Left g stay leave b from t x
