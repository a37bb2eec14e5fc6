-- A level as the code has it: the rows of the arcs with the numbers of the level, which arcs may be used in it, and which of them leave it.
use Rattle.std.specs.Prelude.{ℕ, ◌≤◌, ◌<◌, ◌≡◌, Bool, true, false, ◌&&◌, ◌||◌, List, ltb}
use Rattle.limits.specs.Ceilings.{modes_most, arcs_most, colours_most}
use Rattle.model.specs.Automaton.{bit}
use Rattle.nets.specs.Graph.{Graph}
use Rattle.groups.specs.declared.Row.{Row}
use Rattle.groups.specs.Rows.{source_at, target_at, colours_at, barred_at, on_at}
use Rattle.groups.specs.Grouped.{Grouped}
use Rattle.passes.specs.RowsNet.{rows_graph}
use Rattle.closing.specs.declared.Level.{Level}
use Rattle.closing.specs.declared.Stage.{Stage}

-- The highest bound. A charge up to it and a gain, a word of 16 bits, add up to a word of 32 bits.
abbrev pub charge_most : ℕ
charge_most = 4000000000

-- the level with its arcs
pub record Stratum : Type 0 where
  pub rows : List Row
  pub numbers : Level

abbrev pub stratum : List Row → Level → Stratum
stratum rows l = record { rows = rows; numbers = l }

abbrev pub stratum_of : Stage → Stratum
stratum_of s = stratum s.groups.now.rows s.level

-- the level alone of m arcs, which no arc leaves
abbrev pub level_alone : ℕ → ℕ → Level
level_alone m b = record { arcs = m; level = 0; last = 0; every = false; lasting = false; bound = b }

abbrev pub graph_of : Stratum → Graph
graph_of S = rows_graph S.rows

-- arc a is left out: the arcs have to last, and this one has a barred colour
abbrev pub left_out : Stratum → ℕ → Bool
left_out S a = S.numbers.lasting && barred_at S.rows a

-- an arc with these required colours leaves the level: every arc does, or below the last level it meets the level's duty
unfoldable pub leaves_by : Level → ℕ → Bool
leaves_by l colours = l.every || (ltb l.level l.last && bit colours l.level)

abbrev pub leaving : Stratum → ℕ → Bool
leaving S a = leaves_by S.numbers (colours_at S.rows a)

-- arc a may be used: it is there and on, and not left out
abbrev pub Allowed : Stratum → ℕ → Type 0
Allowed S a = (a < S.numbers.arcs) × (on_at S.rows a ≡ true) × (left_out S a ≡ false)

abbrev pub Staying : Stratum → ℕ → Type 0
Staying S a = Allowed S a × (leaving S a ≡ false)

abbrev pub Leaving : Stratum → ℕ → Type 0
Leaving S a = Allowed S a × (leaving S a ≡ true)

-- what is asked of the rows and the numbers, with tables of n modes
pub record Ready (S : Stratum) (n : ℕ) : Type 0 where
  pub few_modes : n ≤ modes_most
  pub few_arcs : S.numbers.arcs ≤ arcs_most
  pub targets : (a : ℕ) → a < S.numbers.arcs → on_at S.rows a ≡ true → target_at S.rows a < n
  pub levels : S.numbers.last ≤ colours_most
  pub low : S.numbers.bound ≤ charge_most

-- the places are the groups of its arcs that are on
abbrev pub Placed : Stratum → ℕ → List ℕ → Type 0
Placed S n places = Grouped (λ a. source_at S.rows a) (λ a. on_at S.rows a) n S.numbers.arcs places
