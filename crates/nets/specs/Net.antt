-- A net: a graph with which arcs a prefix may use, which a cycle may, and which arcs meet each duty; and its lassos. Document 001, Lemma
-- 2.6 and section 4: "a lasso .. consists of two parts, the lasso prefix .. and the lasso cycle"; document 01: plan, feasible, accepted.
use Rattle.std.specs.Prelude.{ℕ, ◌<◌, ◌≡◌, Bool, true, List, ◌++◌, length}
use Rattle.walks.specs.Walk.{times}
use Rattle.walks.specs.Moves.{Possible}
use Rattle.model.specs.Plans.{SomeArc}
use Rattle.nets.specs.Graph.{Graph, moves, Leads}

-- modes and arcs are numbered from 0 and count as many as modes and count say; duties: the colours that a cycle has to meet
pub record Net : Type 0 where
  pub graph : Graph
  pub modes : ℕ
  pub start : ℕ
  pub count : ℕ
  pub on : ℕ → Bool
  pub lasting : ℕ → Bool
  pub duties : ℕ
  pub meets : ℕ → ℕ → Bool

-- an arc that a prefix may use: it is there and on
abbrev pub Usable : Net → ℕ → Type 0
Usable g a = (a < g.count) × (g.on a ≡ true)

-- an arc that a cycle may use: it is also lasting
abbrev pub Lasts : Net → ℕ → Type 0
Lasts g a = Usable g a × (g.lasting a ≡ true)

-- the start mode and both ends of every usable arc are modes of the net
pub record Fits (g : Net) : Type 0 where
  pub starts : g.start < g.modes
  pub sources : (a : ℕ) → Usable g a → g.graph.source a < g.modes
  pub targets : (a : ℕ) → Usable g a → g.graph.target a < g.modes

-- duty j is met by some arc of the list
abbrev pub Meets : Net → ℕ → List ℕ → Type 0
Meets g j w = SomeArc (g.meets j) w

-- every duty is met by some arc of the list
abbrev pub MeetsAll : Net → List ℕ → Type 0
MeetsAll g w = (j : ℕ) → j < g.duties → Meets g j w

-- a closed walk from mode s, of at least one arc, over arcs that last
pub record Cycle (g : Net) (s : ℕ) (w : List ℕ) : Type 0 where
  pub has_arc : 0 < length w
  pub leads : Leads g.graph (Lasts g) s w s

-- a Büchi accepted (c, b)-feasible lasso (document 001, Lemma 2.6), the net's form of a plan that is feasible and accepted: "with the round
-- repeated any number of times, every step is possible", and the cycle meets every duty
pub record AcceptedLasso (g : Net) (b c : ℕ) : Type 0 where
  pub prefix : List ℕ
  pub cycle : List ℕ
  pub mode : ℕ
  pub leads_in : Leads g.graph (Usable g) g.start prefix mode
  pub closed : Cycle g mode cycle
  pub possible : (r : ℕ) → Possible b (moves g.graph (prefix ++ times r cycle)) c
  pub meets : MeetsAll g cycle
