-- The tables of a level as lists of words, what work on them leaves, and what the public functions promise.
use Rattle.std.specs.Prelude.{ℕ, suc, ◌+◌, ◌≤◌, ◌<◌, ◌≡◌, Bool, true, false, List, length, get_or, set}
use Rattle.walks.specs.BoundedStep.{after}
use Rattle.nets.specs.Table.{Peaks}
use Rattle.groups.specs.declared.Row.{Row}
use Rattle.groups.specs.Grouped.{arc_count}
use Rattle.passes.specs.RowsNet.{rows_net}
use Rattle.passes.specs.Queue.{sum}
use Rattle.closing.specs.Closed.{Spread, Left, ClosedLevel}
use Rattle.closing.specs.Stratum.{Stratum, stratum, level_alone, graph_of, Staying, Leaving, Ready, Placed}

-- the word at i rises to y where it is lower
pub data Lifted (words : List ℕ) (i y : ℕ) (words' : List ℕ) : Type 0 where
  rises : get_or words i 0 < y → words' ≡ set words i y → Lifted words i y words'
  stays : y ≤ get_or words i 0 → words' ≡ words → Lifted words i y words'

-- every word of the table is attained from the entries of from
pub record Attained (S : Stratum) (from : ℕ → ℕ) (best : List ℕ) : Type 0 where
  pub walks : (t x : ℕ) → get_or best t 0 ≡ suc x → Spread (graph_of S) (Staying S) S.numbers.bound from t x

-- every word of the next level's first table is attained by such a walk and an arc that leaves
pub record AttainedLater (S : Stratum) (from : ℕ → ℕ) (later : List ℕ) : Type 0 where
  pub walks : (t x : ℕ) → get_or later t 0 ≡ suc x → Left (graph_of S) (Staying S) (Leaving S) S.numbers.bound from t x

-- no word is above the bound's
pub record Low (S : Stratum) (best : List ℕ) : Type 0 where
  pub low : (v : ℕ) → get_or best v 0 ≤ S.numbers.bound + 1

-- a later table: no word fell, and what is low and attained stays so
pub record Risen (S : Stratum) (best best' : List ℕ) : Type 0 where
  pub up : (v : ℕ) → get_or best v 0 ≤ get_or best' v 0
  pub size : length best' ≡ length best
  pub low : Low S best → Low S best'
  pub attained : (from : ℕ → ℕ) → Attained S from best → Attained S from best'

-- a later first table of the next level, from a table best of this one
pub record RisenLater (S : Stratum) (best later later' : List ℕ) : Type 0 where
  pub up : (v : ℕ) → get_or later v 0 ≤ get_or later' v 0
  pub size : length later' ≡ length later
  pub attained : (from : ℕ → ℕ) → Attained S from best → AttainedLater S from later → AttainedLater S from later'

-- from the charge of the word y, where arc a is possible it leads no higher than the tables have
pub record Covered (S : Stratum) (best later : List ℕ) (a y : ℕ) : Type 0 where
  pub stays : (x : ℕ) → Staying S a → y ≡ suc x → ((graph_of S).move a).draw ≤ x
      → after S.numbers.bound ((graph_of S).move a) x < get_or best ((graph_of S).target a) 0
  pub leaves : (x : ℕ) → Leaving S a → y ≡ suc x → ((graph_of S).move a).draw ≤ x
      → after S.numbers.bound ((graph_of S).move a) x < get_or later ((graph_of S).target a) 0

-- what trying arc a leaves
pub record Tried (S : Stratum) (a : ℕ) (best later best' later' : List ℕ) : Type 0 where
  pub rise : Risen S best best'
  pub rise_later : RisenLater S best later later'
  pub covers : Covered S best' later' a (get_or best ((graph_of S).source a) 0)

-- what trying all arcs of mode v leaves
pub record Expanded (S : Stratum) (v : ℕ) (best later best' later' : List ℕ) : Type 0 where
  pub rise : Risen S best best'
  pub rise_later : RisenLater S best later later'
  pub covers : (a : ℕ) → (graph_of S).source a ≡ v → Covered S best' later' a (get_or best v 0)

-- The level is being closed, from the table best₀. done has the word that each mode had when its arcs were last tried: a mode is due where its word
-- has risen since.
pub record Closing (S : Stratum) (best₀ best later done : List ℕ) : Type 0 where
  pub rise : Risen S best₀ best
  pub attained_later : (from : ℕ → ℕ) → Attained S from best₀ → AttainedLater S from later
  pub covers : (a : ℕ) → Covered S best later a (get_or done ((graph_of S).source a) 0)
  pub tried : (v : ℕ) → get_or done v 0 ≤ get_or best v 0

-- what trying the arcs of each mode from lo on and below hi leaves, where it is due: where none was, nothing has changed
pub record Rounded (S : Stratum) (lo hi : ℕ) (best later done best' later' done' : List ℕ) (due : Bool) : Type 0 where
  pub rise : Risen S best best'
  pub size_later : length later' ≡ length later
  pub size_done : length done' ≡ length done
  pub keeps : (best₀ : List ℕ) → Closing S best₀ best later done → Closing S best₀ best' later' done'
  pub total : sum done ≤ sum done'
  pub more : due ≡ true → sum done < sum done'
  pub quiet : due ≡ false → (best' ≡ best) × (done' ≡ done)
  pub settled : due ≡ false → (v : ℕ) → lo ≤ v → v < hi → get_or best' v 0 ≤ get_or done' v 0

-- what a round over all modes leaves, with loops raised before it: where no mode was due, none is
pub record Turned (S : Stratum) (best later done best' later' done' : List ℕ) (due : Bool) : Type 0 where
  pub size : length best' ≡ length best
  pub size_later : length later' ≡ length later
  pub size_done : length done' ≡ length done
  pub keeps : (best₀ : List ℕ) → Closing S best₀ best later done → Closing S best₀ best' later' done'
  pub more : due ≡ true → sum done < sum done'
  pub settled : due ≡ false → (v : ℕ) → get_or best' v 0 ≤ get_or done' v 0

-- what is asked of a table best that is worked on
pub record Workable (S : Stratum) (best : List ℕ) : Type 0 where
  pub ready : Ready S (length best)
  pub low : Low S best

-- what is asked of the tables of a level that is to be closed
pub record Closable (S : Stratum) (places best later : List ℕ) : Type 0 where
  pub work : Workable S best
  pub placed : Placed S (length best) places
  pub size_later : length later ≡ length best

-- what closing a level leaves, from the table best
pub record Closes (S : Stratum) (best best' later : List ℕ) : Type 0 where
  pub closed : ClosedLevel (graph_of S) (Staying S) (Leaving S) S.numbers.bound (λ v. get_or best v 0) (λ v. get_or best' v 0) (λ v. get_or later v 0)
  pub size : length best' ≡ length best
  pub low : Low S best'

-- what is asked for the peaks from mode s with credit c, under the bound b: rows and places of as many modes as best has words
pub record Findable (rows : List Row) (places : List ℕ) (s c b : ℕ) (best : List ℕ) : Type 0 where
  pub ready : Ready (stratum rows (level_alone (arc_count places (length best)) b)) (length best)
  pub placed : Placed (stratum rows (level_alone (arc_count places (length best)) b)) (length best) places
  pub starts : s < length best
  pub credit : c ≤ b

-- The table of the peaks of n modes. Document 02, Ask 9: "Keep for each mode the greatest charge with which it can be reached (the start mode by no
-- arc with c), or unreached".
pub record PeaksFound (rows : List Row) (places : List ℕ) (n s c b : ℕ) (best : List ℕ) : Type 0 where
  pub peaks : (k : ℕ) → Peaks (rows_net rows n s k (arc_count places n)) b c (λ l t. get_or best t 0)
  pub size : length best ≡ n
  pub low : (v : ℕ) → get_or best v 0 ≤ b + 1
