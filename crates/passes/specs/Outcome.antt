-- What the passes of a search come to, in the words of nets: the peaks, a cycle that keeps a charge, and the arcs of both.
use Rattle.std.specs.Prelude.{◌≡◌, Option, Some, None, List, [], ◌∷◌, ◌++◌, ℕ, suc, ◌≤◌, ◌<◌, get_or, take, drop}
use Rattle.std.specs.Option.{IfSome}
use Rattle.nets.specs.Net.{Net, Usable}
use Rattle.nets.specs.Table.{Reached, Peaks, KeptCycle}
use Rattle.passes.specs.declared.pass.Closing.{Closing}
use Rattle.passes.specs.Pass.{nodes, room}
use Rattle.passes.specs.Queue.{byte_count}
use Rattle.passes.specs.Trace.{Linked, Traced}

-- the arcs are a walk of possible steps from the start mode with credit c to mode t with charge x
pub record Arrival (g : Net) (b c t x : ℕ) (arcs : List ℕ) : Type 0 where
  pub reached : Reached g (Usable g) 0 b g.start c 0 t x
  pub same : reached.arcs ≡ arcs

-- the arcs are a cycle from mode s that meets every duty and keeps the charge e
pub record Kept (g : Net) (b s e : ℕ) (arcs : List ℕ) : Type 0 where
  pub cycle : KeptCycle g b s e
  pub same : cycle.arcs ≡ arcs

-- e is the peak of mode s
pub record Peak (g : Net) (b c s e : ℕ) : Type 0 where
  pub high : ℕ → ℕ → ℕ
  pub peaks : Peaks g b c high
  pub mode : s < g.modes
  pub listed : high 0 s ≡ suc e

-- a word of the table of peaks, for mode s, is that of a peak which a cycle keeps
pub record KeptPeak (g : Net) (b s y : ℕ) : Type 0 where
  pub peak : ℕ
  pub listed : y ≡ suc peak
  pub cycle : KeptCycle g b s peak

-- the arcs to entry head and arc a are a cycle from mode s that keeps the charge e
pub record CycleClosed (g : Net) (b s e : ℕ) (w : List ℕ) (head a : ℕ) : Type 0 where
  pub few : head < room (nodes g.modes g.duties) b
  pub linked : Linked w head
  pub byte : a < byte_count
  pub arcs : (l : List ℕ) → Traced w head 0 l → Kept g b s e (l ++ (a ∷ []))

-- what the pass from mode s with charge e leaves: no cycle keeps e, or one that does
pub record CyclePassed (g : Net) (b s e : ℕ) (w : List ℕ) (found : Option Closing) : Type 0 where
  pub none : found ≡ None → KeptCycle g b s e → ⊥
  pub some : IfSome found (λ k. CycleClosed g b s e w k.head k.arc)

-- mode m is the first whose peak a cycle keeps
pub record FirstKeptMode (g : Net) (b : ℕ) (peaks : List ℕ) (m : ℕ) : Type 0 where
  pub mode : m < g.modes
  pub kept : KeptPeak g b m (get_or peaks m 0)
  pub none : (s : ℕ) → s < m → KeptPeak g b s (get_or peaks s 0) → ⊥

-- the first mode whose peak a cycle keeps; none where no cycle keeps the peak of any mode
abbrev pub FirstKept : Net → ℕ → List ℕ → Option ℕ → Type 0
FirstKept g b peaks (Some m) = FirstKeptMode g b peaks m
FirstKept g b peaks None = (s : ℕ) → s < g.modes → KeptPeak g b s (get_or peaks s 0) → ⊥

-- the first r bytes of plan' are the prefix, from the start to mode s with charge e; the others are plan's
pub record PrefixWritten (g : Net) (b c s e : ℕ) (plan plan' : List ℕ) (r : ℕ) : Type 0 where
  pub few : r ≤ room g.modes b
  pub arcs : Arrival g b c s e (take r plan')
  pub later : drop r plan' ≡ drop r plan

-- the first r bytes of plan' are the cycle from mode s that keeps e; the others are plan's
pub record CycleWritten (g : Net) (b s e : ℕ) (plan plan' : List ℕ) (r : ℕ) : Type 0 where
  pub few : r ≤ room (nodes g.modes g.duties) b
  pub arcs : Kept g b s e (take r plan')
  pub later : drop r plan' ≡ drop r plan
