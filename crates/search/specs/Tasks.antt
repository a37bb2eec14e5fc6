-- What the inner functions of search are given: a model, or the rows and groups of one and the task (passes Tasks), once none of 1 to 9 applies;
-- and what they answer and write. No public promise rests on these words.
use Rattle.std.specs.Prelude.{ℕ, ◌+◌, ◌*◌, ◌≤◌, ◌<◌, ◌≡◌, false, List, [], ◌∷◌, ◌++◌, length, take, drop, Result, Ok}
use Rattle.limits.specs.Ceilings.{modes_most, arcs_most, colours_most, bound_most, product_most, plan_most, work_space, plan_buffer}
use Rattle.refusals.specs.declared.Refusal.{Refusal}
use Rattle.refusals.specs.Refusals.{and_then}
use Rattle.model.specs.declared.Model.{Model}
use Rattle.model.specs.Lists.{Lists, model_of}
use Rattle.model.specs.Fitness.{Holds}
use Rattle.judge.specs.Shape.{plan_of}
use Rattle.nets.specs.Net.{Net, Fits, AcceptedLasso}
use Rattle.nets.specs.Whole.{lasso_plan}
use Rattle.groups.specs.declared.Row.{Row}
use Rattle.groups.specs.Rows.{source_at, barred_at, on_at}
use Rattle.groups.specs.Grouped.{arc_count, Grouped}
use Rattle.passes.specs.declared.pass.Task.{Task}
use Rattle.passes.specs.Pass.{room}
use Rattle.passes.specs.Queue.{byte_count}
use Rattle.passes.specs.Trace.{Linked, Traced}
use Rattle.passes.specs.Outcome.{Arrival}
use Rattle.passes.specs.Tasks.{task_net}
use Rattle.deciding.specs.declared.Question.{Question}
use Rattle.search.specs.declared.plans.Searching.{Searching}
use Rattle.search.specs.Search.{Searched, planned, no_plan, searchable}

-- 1 to 9, and the model where none of them applies
abbrev pub checked_of : ℕ → ℕ → ℕ → Lists → ℕ → ℕ → ℕ → ℕ → Result Model Refusal
checked_of n s k l b c words bytes = and_then (searchable n s k l b c words bytes) (Ok (model_of n s k l))

-- the value holds a fit model, and none of 6 to 9 applies
pub record Solvable (g : Model) (b c words bytes : ℕ) : Type 0 where
  pub holds : Holds g
  pub credit : c ≤ b
  pub low : b ≤ bound_most
  pub product : g.modes * (b + 1) ≤ product_most
  pub space : work_space g.colours g.modes b ≤ words
  pub buffer : plan_buffer g.colours g.modes b ≤ bytes

-- rows and groups of a net that fits, and none of 6 and 7 applies
pub record Searchable (rows : List Row) (places : List ℕ) (t : Task) : Type 0 where
  pub some-mode : 0 < t.modes
  pub few_modes : t.modes ≤ modes_most
  pub few_arcs : arc_count places t.modes ≤ arcs_most
  pub few_duties : t.duties ≤ colours_most
  pub unbarred : t.barred ≡ false → (a : ℕ) → barred_at rows a ≡ false
  pub fits : Fits (task_net rows places t)
  pub grouped : Grouped (λ a. source_at rows a) (λ a. on_at rows a) t.modes (arc_count places t.modes) places
  pub credit : t.credit ≤ t.bound
  pub low : t.bound ≤ bound_most
  pub product : t.modes * (t.bound + 1) ≤ product_most

-- the net of a search
abbrev pub net_of : Searching → Net
net_of s = task_net s.groups.now.rows s.groups.now.places s.task

-- what the inner functions ask of a search, with so many words of working space: none of 6 to 8 applies
abbrev pub CanSearch : Searching → ℕ → Type 0
CanSearch s words = Searchable s.groups.now.rows s.groups.now.places s.task × (work_space s.task.duties s.task.modes s.task.bound ≤ words)

-- what the decision is asked, in the words of the task
abbrev pub question_of : Task → Question
question_of t = record { start = t.start; duties = t.duties; credit = t.credit; bound = t.bound }

-- what the pass to mode s with its peak e leaves: the arcs to entry head and arc a come there
pub record PrefixPassed (g : Net) (b c s e : ℕ) (w : List ℕ) (head a : ℕ) : Type 0 where
  pub few : head < room g.modes b
  pub linked : Linked w head
  pub byte : a < byte_count
  pub arcs : (l : List ℕ) → Traced w head 0 l → Arrival g b c s e (l ++ (a ∷ []))

-- the lasso that is handed back, as p and q and the first p + q bytes of the plan buffer
pub record LassoFound (g : Net) (b c p q : ℕ) (plan plan' : List ℕ) : Type 0 where
  pub lasso : AcceptedLasso g b c
  pub same : lasso_plan lasso ≡ plan_of p (take (p + q) plan')
  pub within : p + q ≤ length plan'
  pub short : p + q ≤ plan_most
  pub prefix_short : p ≤ g.modes * (b + 1)
  pub cycle_short : q ≤ (g.duties + 1) * g.modes * (b + 1)
  pub later : drop (p + q) plan' ≡ drop (p + q) plan

-- 10, with the plan buffer untouched, or a lasso in it
pub data Written (g : Net) (b c : ℕ) (plan plan' : List ℕ) : Searched → Type 0 where
  none : plan' ≡ plan → Written g b c plan plan' no_plan
  found : {p q : ℕ} → LassoFound g b c p q plan plan' → Written g b c plan plan' (planned p q)
