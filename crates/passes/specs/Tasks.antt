-- What the functions of a pass are given: the rows and groups of a model, the task and a pass of it; and what they answer. No public promise rests on
-- these words.
use Rattle.std.specs.Prelude.{ℕ, ◌+◌, ◌/◌, ◌%◌, ◌<◌, ◌≡◌, not, ◌&&◌, List, ltb}
use Rattle.std.specs.Option.{IfSome}
use Rattle.model.specs.Automaton.{bit}
use Rattle.nets.specs.Net.{Net}
use Rattle.nets.specs.Table.{raised_if}
use Rattle.groups.specs.declared.Row.{Row}
use Rattle.groups.specs.Rows.{barred_at, on_at}
use Rattle.groups.specs.Grouped.{arc_count, InGroup}
use Rattle.passes.specs.RowsNet.{rows_net}
use Rattle.passes.specs.Pass.{Pass}
use Rattle.passes.specs.Queue.{node_at, charge_at, words_at, Running, Tried, Visited}
use Rattle.passes.specs.declared.entries.EntryWords.{EntryWords}
use Rattle.passes.specs.declared.pass.Pass as lent
use Rattle.passes.specs.declared.pass.Task.{Task}
use Rattle.passes.specs.declared.pass.Aim.{Aim}
use Rattle.passes.specs.declared.pass.Entry.{Entry}
use Rattle.passes.specs.declared.pass.Outcome.{Outcome}

-- the net of a task over its rows and groups
abbrev pub task_net : List Row → List ℕ → Task → Net
task_net rows places t = rows_net rows t.modes t.start t.duties (arc_count places t.modes)

-- a pass of a task over its rows and groups: it uses arcs that are on, and one for a cycle none with a barred colour
abbrev pub pass_of : List Row → List ℕ → Task → Aim → Pass
pass_of rows places t m =
    record {
      net = task_net rows places t;
      places = places;
      ok = λ a. not (m.lasting && barred_at rows a) && on_at rows a;
      last = m.last;
      bound = t.bound;
      goal = m.goal;
      least = m.least;
    }

-- a pass as the code holds it
abbrev pub pass_in : lent.Pass → Pass
pass_in p = pass_of p.groups.now.rows p.groups.now.places p.task p.aim

-- the level after an arc with these required colours, of the levels 0 to last: the duty of level l is at bit l
unfoldable pub level_after : ℕ → ℕ → ℕ → ℕ
level_after last colours l = raised_if (ltb l last && bit colours l) l

-- the entry with these words, of n modes
abbrev pub entry_of : ℕ → ℕ → EntryWords → Entry
entry_of n i x = record { index = i; level = x.node / n; mode = x.node % n; charge = x.charge }

-- entry i of the queue in w, of n modes
abbrev pub entry_at : ℕ → List ℕ → ℕ → Entry
entry_at n w i = entry_of n i (words_at w i)

-- Place i is tried at entry h, in a pass that is under way. Document 02, Ask 7: "For a mode's arcs search looks only at the places from its first
-- up to the next mode's first".
pub record Trying (rows : List Row) (places : List ℕ) (t : Task) (m : Aim) (h : Entry) (i : ℕ) (best w : List ℕ) (tail : ℕ) : Type 0 where
  pub running : Running (pass_of rows places t m) best w tail
  pub entry : h ≡ entry_at t.modes w h.index
  pub before : h.index < tail
  pub group : InGroup places h.mode i

-- what that answers
pub record Relaxed (P : Pass) (h : Entry) (i : ℕ) (best w : List ℕ) (tail : ℕ) (best' w' : List ℕ) (r : Outcome) : Type 0 where
  pub tried : Tried P best w tail i (i + 1) (node_at w h.index) (charge_at w h.index) best' w' r.found r.tail
  pub entry : IfSome r.found (λ k. k.head ≡ h.index)

-- what visiting entry head answers
pub record VisitedAt (P : Pass) (best w : List ℕ) (tail head : ℕ) (best' w' : List ℕ) (r : Outcome) : Type 0 where
  pub visited : Visited P best w tail head best' w' r.found r.tail
  pub entry : IfSome r.found (λ k. k.head ≡ head)
