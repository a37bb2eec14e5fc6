-- Greatest charges from many modes at once, each with a charge of its own, and one level at a time: the arcs that stay in a level and those that
-- leave it. Document 001, section 4: "FindMaxE", from one mode; Lemma 2.5: levels. A table has a number for each mode: 0 for none, x + 1 for the
-- charge x.
use Rattle.std.specs.Prelude.{ℕ, zero, suc, ◌≤◌, ◌<◌, ◌≡◌}
use Rattle.walks.specs.BoundedStep.{after}
use Rattle.nets.specs.Net.{Net}
use Rattle.nets.specs.Table.{next, Reached}

-- a walk of possible steps from some entry of the table from, in level 0, comes to mode t, level l and charge x
pub record ReachedFrom (g : Net) (ok : ℕ → Type 0) (K b : ℕ) (from : ℕ → ℕ) (l t x : ℕ) : Type 0 where
  pub source : ℕ
  pub charged : ℕ
  pub bounded : source < g.modes
  pub listed : from source ≡ suc charged
  pub reached : Reached g ok K b source charged l t x

-- best has the greatest charges with which the modes are reached in level l from the entries of from
pub record LevelTable (g : Net) (ok : ℕ → Type 0) (K b : ℕ) (from : ℕ → ℕ) (l : ℕ) (best : ℕ → ℕ) : Type 0 where
  pub above : (t x : ℕ) → ReachedFrom g ok K b from l t x → x < best t
  pub attained : (t x : ℕ) → t < g.modes → best t ≡ suc x → ReachedFrom g ok K b from l t x

-- the arcs that stay in level l, and those that leave it for the next
abbrev pub StaysIn : Net → (ℕ → Type 0) → ℕ → ℕ → ℕ → Type 0
StaysIn g ok K l a = ok a × (next g K l a ≡ l)

abbrev pub LeavesFor : Net → (ℕ → Type 0) → ℕ → ℕ → ℕ → Type 0
LeavesFor g ok K l a = ok a × (next g K l a ≡ suc l)

-- a walk that comes into level l + 1 with its last arc, to mode t with charge x
pub record Crossed (g : Net) (ok : ℕ → Type 0) (K b : ℕ) (from : ℕ → ℕ) (l t x : ℕ) : Type 0 where
  pub arc : ℕ
  pub before : ℕ
  pub leaves : LeavesFor g ok K l arc
  pub reached : ReachedFrom g ok K b from l (g.graph.source arc) before
  pub possible : (g.graph.move arc).draw ≤ before
  pub reaches : after b (g.graph.move arc) before ≡ x
  pub enters : g.graph.target arc ≡ t

-- level l is entered at mode t with charge x: level 0 at an entry of from, any other over an arc that leaves the level before
abbrev pub Entering : (g : Net) → (ℕ → Type 0) → ℕ → ℕ → (ℕ → ℕ) → ℕ → ℕ → ℕ → Type 0
Entering g ok K b from zero t x = (t < g.modes) × (from t ≡ suc x)
Entering g ok K b from (suc l) t x = Crossed g ok K b from l t x

-- begun has the greatest charges with which level l is entered
pub record Entered (g : Net) (ok : ℕ → Type 0) (K b : ℕ) (from : ℕ → ℕ) (l : ℕ) (begun : ℕ → ℕ) : Type 0 where
  pub above : (t x : ℕ) → Entering g ok K b from l t x → x < begun t
  pub attained : (t x : ℕ) → begun t ≡ suc x → ReachedFrom g ok K b from l t x
