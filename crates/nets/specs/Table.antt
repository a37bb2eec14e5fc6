-- Tables of greatest charges, by level and mode, and what they decide. Document 001, section 2, degeneralisation: "we split the states of A
-- into levels" (Lemma 2.5); section 4, Algorithm 1: the energies that FindMaxE finds from the start, and from a mode with its prefix energy.
use Rattle.std.specs.Prelude.{ℕ, suc, ◌≤◌, ◌<◌, ◌≡◌, Bool, true, false, ◌&&◌, List, [], ◌∷◌, ltb}
use Rattle.walks.specs.BoundedStep.{after}
use Rattle.walks.specs.Moves.{charge, Possible, Keeps}
use Rattle.nets.specs.Graph.{moves, Leads}
use Rattle.nets.specs.Net.{Net, Usable, Lasts, MeetsAll, Cycle}

-- one level more where the test holds
abbrev pub raised_if : Bool → ℕ → ℕ
raised_if true l = suc l
raised_if false l = l

-- The level after an arc, of the levels 0 to K: at level l the duties below l are met; an arc that meets duty l raises the level, and level
-- K stays.
abbrev pub next : Net → ℕ → ℕ → ℕ → ℕ
next g K l a = raised_if (ltb l K && g.meets l a) l

-- the level after a list of arcs
abbrev pub level : Net → ℕ → ℕ → List ℕ → ℕ
level g K l [] = l
level g K l (a ∷ w) = level g K (next g K l a) w

-- A table holds a number for each level and mode: 0 for none, x + 1 for the charge x. It is closed, from mode s with charge e over the
-- arcs that are ok, where it is no lower than e there, and no lower after a possible arc than the arc leads to.
pub record Closed (g : Net) (ok : ℕ → Type 0) (K b s e : ℕ) (high : ℕ → ℕ → ℕ) : Type 0 where
  pub begins : e < high 0 s
  pub steps : (l a x : ℕ) → l ≤ K → ok a → high l (g.graph.source a) ≡ suc x → (g.graph.move a).draw ≤ x
      → after b (g.graph.move a) x < high (next g K l a) (g.graph.target a)

-- a walk of possible steps from mode s, level 0 and charge e comes to mode t, level l and charge x
pub record Reached (g : Net) (ok : ℕ → Type 0) (K b s e l t x : ℕ) : Type 0 where
  pub arcs : List ℕ
  pub leads : Leads g.graph ok s arcs t
  pub levels : level g K 0 arcs ≡ l
  pub possible : Possible b (moves g.graph arcs) e
  pub reaches : charge b (moves g.graph arcs) e ≡ x

-- The table of the greatest charges: closed, and every entry is attained. (Of a net that fits, it says nothing of levels above K nor of modes
-- that are none of the net's, so that a list of words at level * modes + mode can be a table.)
pub record Table (g : Net) (ok : ℕ → Type 0) (K b s e : ℕ) (high : ℕ → ℕ → ℕ) : Type 0 where
  pub closed : Closed g ok K b s e high
  pub attained : (l t x : ℕ) → l ≤ K → t < g.modes → high l t ≡ suc x → Reached g ok K b s e l t x

-- the peaks: the greatest charge with which each mode is reached from the start mode with credit c; level 0 alone
abbrev pub Peaks : Net → ℕ → ℕ → (ℕ → ℕ → ℕ) → Type 0
Peaks g b c high = Table g (Usable g) 0 b g.start c high

-- a tour: the greatest charges from mode s with charge e over arcs that last, with a level for each duty
abbrev pub Tour : Net → ℕ → ℕ → ℕ → (ℕ → ℕ → ℕ) → Type 0
Tour g b s e high = Table g (Lasts g) g.duties b s e high

-- from each mode with a peak, the tour with that peak
abbrev pub Tours : Net → ℕ → (ℕ → ℕ → ℕ) → (ℕ → ℕ → ℕ → ℕ) → Type 0
Tours g b high tour = (s e : ℕ) → s < g.modes → high 0 s ≡ suc e → Tour g b s e (tour s)

-- a cycle from mode s that meets every duty and, from charge e, ends with e or more
pub record KeptCycle (g : Net) (b s e : ℕ) : Type 0 where
  pub arcs : List ℕ
  pub closed : Cycle g s arcs
  pub meets : MeetsAll g arcs
  pub keeps : Keeps b (moves g.graph arcs) e

-- some mode has a peak that a cycle from it keeps
pub record PeakCycle (g : Net) (b : ℕ) (high : ℕ → ℕ → ℕ) : Type 0 where
  pub mode : ℕ
  pub peak : ℕ
  pub bounded : mode < g.modes
  pub listed : high 0 mode ≡ suc peak
  pub cycle : KeptCycle g b mode peak

-- an arc from an entry of the tour from mode s with charge e that closes a cycle: it comes to the last level, back to s, no lower than e
pub record ClosingArc (g : Net) (b s e : ℕ) (high : ℕ → ℕ → ℕ) : Type 0 where
  pub from : ℕ
  pub arc : ℕ
  pub charged : ℕ
  pub bounded : from ≤ g.duties
  pub lasts : Lasts g arc
  pub listed : high from (g.graph.source arc) ≡ suc charged
  pub possible : (g.graph.move arc).draw ≤ charged
  pub last : next g g.duties from arc ≡ g.duties
  pub back : g.graph.target arc ≡ s
  pub kept : e ≤ after b (g.graph.move arc) charged

-- some mode has a peak from which the tour has a closing arc
pub record PeakClosed (g : Net) (b : ℕ) (high : ℕ → ℕ → ℕ) (tour : ℕ → ℕ → ℕ → ℕ) : Type 0 where
  pub mode : ℕ
  pub peak : ℕ
  pub bounded : mode < g.modes
  pub listed : high 0 mode ≡ suc peak
  pub closes : ClosingArc g b mode peak (tour mode)
