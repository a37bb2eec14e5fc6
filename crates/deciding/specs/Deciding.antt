-- The decision over rows and groups: the net that is asked about, the numbers of its levels, sets of peaks as lists of words, and what the functions are
-- given and leave. Document 02, Ask 12: "after document 001's modified Bellman-Ford with loops raised to their fixed point".
use Rattle.std.specs.Prelude.{ℕ, zero, suc, ◌+◌, ◌≤◌, ◌<◌, ◌≡◌, Bool, true, false, List, ltb, length, get_or}
use Rattle.limits.specs.Ceilings.{modes_most, arcs_most, colours_most}
use Rattle.nets.specs.Net.{Net, Fits, AcceptedLasso}
use Rattle.model.specs.Automaton.{bit}
use Rattle.groups.specs.declared.Row.{Row}
use Rattle.groups.specs.Rows.{source_at, colours_at, barred_at, on_at}
use Rattle.groups.specs.Grouped.{arc_count, Grouped}
use Rattle.passes.specs.RowsNet.{rows_net}
use Rattle.passes.specs.Queue.{sum}
use Rattle.passes.specs.Outcome.{Peak}
use Rattle.closing.specs.declared.Level.{Level}
use Rattle.closing.specs.Stratum.{Stratum, charge_most, Ready, Placed}
use Rattle.closing.specs.Tables.{Low, Closes}
use Rattle.sets.specs.Sets.{sifted, LastTable, KeptMember}
use Rattle.deciding.specs.declared.Asked.{Asked}
use Rattle.deciding.specs.declared.Question.{Question}
use Rattle.deciding.specs.declared.Sifting.{Sifting}
use Rattle.deciding.specs.declared.Sifting.TheVariants.{Empty, Same, Fewer}

-- a list of words as a table
abbrev pub word : List ℕ → ℕ → ℕ
word w v = get_or w v 0

-- the last level, of k duties: without duties there is one level more, which every arc enters
abbrev pub last_of : ℕ → ℕ
last_of zero = 1
last_of (suc k) = suc k

-- the numbers of level l, of m arcs and k duties
abbrev pub level_at : ℕ → ℕ → ℕ → ℕ → Level
level_at m zero b l = record { arcs = m; level = l; last = 1; every = ltb l 1; lasting = true; bound = b }
level_at m (suc k) b l = record { arcs = m; level = l; last = suc k; every = false; lasting = true; bound = b }

-- the net that is asked about, of n modes
abbrev pub asked_net : List Row → List ℕ → Question → ℕ → Net
asked_net rows places q n = rows_net rows n q.start q.duties (arc_count places n)

-- what is asked of rows, groups and numbers, with tables of n modes
pub record Decidable (rows : List Row) (places : List ℕ) (q : Question) (n : ℕ) : Type 0 where
  pub few_modes : n ≤ modes_most
  pub few_arcs : arc_count places n ≤ arcs_most
  pub few_duties : q.duties ≤ colours_most
  pub fits : Fits (asked_net rows places q n)
  pub grouped : Grouped (λ a. source_at rows a) (λ a. on_at rows a) n (arc_count places n) places
  pub credit : q.credit ≤ q.bound
  pub low : q.bound ≤ charge_most

-- the same of what is asked with its groups
abbrev pub net_of : Asked → ℕ → Net
net_of a n = asked_net a.groups.now.rows a.groups.now.places a.question n

abbrev pub Askable : Asked → ℕ → Type 0
Askable a n = Decidable a.groups.now.rows a.groups.now.places a.question n

-- no word is above the bound's
pub record Below (b : ℕ) (w : List ℕ) : Type 0 where
  pub below : (v : ℕ) → word w v ≤ b + 1

-- what is asked of a table best from which a level is to be closed
pub record Enterable (S : Stratum) (places best : List ℕ) : Type 0 where
  pub ready : Ready S (length best)
  pub low : Low S best
  pub placed : Placed S (length best) places

-- what closing a level from the table best leaves in its place: its table, or the one with which the next level is entered
pub record ClosedTo (S : Stratum) (best best' : List ℕ) : Type 0 where
  pub later : List ℕ
  pub closes : Closes S best best' later

pub record EntersNext (S : Stratum) (best best' : List ℕ) : Type 0 where
  pub closed : List ℕ
  pub closes : Closes S best closed best'
  pub size : length best' ≡ length best

-- what sifting leaves of the set, by the last level: the words of the members that are reached again with their peak or more
pub record Sifted (set last set' : List ℕ) (s : Sifting) : Type 0 where
  pub words : (v : ℕ) → word set' v ≡ sifted (word set v) (word last v)
  pub same : s ≡ Same → (set' ≡ set) × ((v : ℕ) → word set v ≤ word last v)
  pub fewer : s ≡ Fewer → sum set' < sum set
  pub left : (s ≡ Empty → ⊥) → (v : ℕ) × (0 < word set' v)
  pub none : s ≡ Empty → (v : ℕ) → word set' v ≤ 0

-- the same by a tour from all members
pub record SiftedOnce (g : Net) (b : ℕ) (set set' : List ℕ) (s : Sifting) : Type 0 where
  pub last : List ℕ
  pub table : LastTable g b (word set) (word last)
  pub sifts : Sifted set last set' s

-- no arc of m that may stand in a cycle, being on and without a barred colour, meets duty j
abbrev pub Unmet : List Row → ℕ → ℕ → Type 0
Unmet rows m j = (a : ℕ) → a < m → on_at rows a ≡ true → barred_at rows a ≡ false → bit (colours_at rows a) j ≡ false

-- of k duties, some
pub record SomeUnmet (rows : List Row) (m k : ℕ) : Type 0 where
  pub duty : ℕ
  pub below : duty < k
  pub unmet : Unmet rows m duty

-- What the decision leaves: a set of peaks. Where it has members one of them is kept by a cycle; where it has none there is no lasso.
pub record KeptFound (g : Net) (b c : ℕ) (set : List ℕ) (some : Bool) : Type 0 where
  pub peaks : (s e : ℕ) → word set s ≡ suc e → Peak g b c s e
  pub below : Below b set
  pub kept : some ≡ true → KeptMember g b (word set)
  pub lasso : some ≡ true → AcceptedLasso g b c
  pub none : some ≡ false → AcceptedLasso g b c → ⊥
