-- The join: its answer, and what is left in the lent lists. Document 02, Ask 5: "Either model unfit gives its own number from 1 to 5, the knee's
-- first"; 23 is "looked at last".
use Rattle.std.specs.Prelude.{ℕ, ◌≤◌, ◌<◌, Bool, false, ◌||◌, List, [], ◌∷◌, ltb, length, Result, Ok}
use Rattle.limits.specs.Ceilings.{modes_most, arcs_most, colours_most, draw_most, gain_most}
use Rattle.refusals.specs.declared.Answer.{Answer}
use Rattle.refusals.specs.declared.Refusal.{Refusal}
use Rattle.refusals.specs.declared.Refusal.TheVariants.{JoinSize}
use Rattle.refusals.specs.Refusals.{Verdict, refuse, and_then, answer_of}
use Rattle.model.specs.declared.Arc.{Arc}
use Rattle.model.specs.declared.Given as lent
use Rattle.model.specs.Automaton.{Automaton, arc_at}
use Rattle.model.specs.Lists.{Lists, lists_of, automaton_of}
use Rattle.model.specs.Fitness.{EqualLists, Fit, fitness}
use Rattle.filling.specs.declared.Numbers.{Numbers}
use Rattle.filling.specs.Filling.{room_in, written_if, reading_if}
use Rattle.join.specs.Joined.{joined}

-- a model as the call is given it: n, the start mode, k and six lists
pub record Given : Type 0 where
  pub modes : ℕ
  pub start : ℕ
  pub colours : ℕ
  pub arcs : Lists

abbrev pub given : ℕ → ℕ → ℕ → Lists → Given
given n s k l = record { modes = n; start = s; colours = k; arcs = l }

-- as the code is given it
abbrev pub given_of : lent.Given → Given
given_of g = given g.n g.start g.k (lists_of g.lists)

abbrev pub model_given : Given → Automaton
model_given x = automaton_of x.modes x.start x.colours x.arcs

-- 1 to 5 of it
abbrev pub fitness_given : Given → Verdict
fitness_given x = fitness x.modes x.start x.colours x.arcs

-- "a sum above 10,000": a joined arc draws or gains more than an arc may
abbrev pub sum_above : Arc → Bool
sum_above a = ltb draw_most a.draw || ltb gain_most a.gain

abbrev pub some_sum_above : List Arc → Bool
some_sum_above [] = false
some_sum_above (a ∷ l) = sum_above a || some_sum_above l

-- "A join with more than 64 modes, 255 arcs, 4 colours, a sum above 10,000, or more arcs than the lent lists take is 23": n modes, m arcs, k colours,
-- whether a sum is above, and lists that take so many arcs
unfoldable pub oversize : ℕ → ℕ → ℕ → Bool → ℕ → Bool
oversize n m k above room = ltb modes_most n || ltb arcs_most m || ltb colours_most k || above || ltb room m

-- 23 of the joined model g
unfoldable pub size_of : Automaton → ℕ → Verdict
size_of g room = refuse (oversize g.modes (length g.arcs) g.colours (some_sum_above g.arcs) room) JoinSize (Ok tt)

-- What 23 leaves, as facts. (Theorem size-yes.) The sums of an arc are within an arc's ranges,
pub record SumsFit (a : Arc) : Type 0 where
  pub draw : a.draw ≤ draw_most
  pub gain : a.gain ≤ gain_most

-- and the joined model g is within the ceilings and the lists
pub record SizeFits (g : Automaton) (room : ℕ) : Type 0 where
  pub few_modes : g.modes ≤ modes_most
  pub few_arcs : length g.arcs ≤ arcs_most
  pub few_colours : g.colours ≤ colours_most
  pub sums : (a : ℕ) → a < length g.arcs → SumsFit (arc_at g a)
  pub room_for : length g.arcs ≤ room

-- the joined model of what is given: x the knee, y the habit
abbrev pub joined_given : Given → Given → Automaton
joined_given x y = joined (model_given x) (model_given y)

-- the knee's 1 to 5, the habit's, then 23
unfoldable pub join_verdict : Given → Given → ℕ → Verdict
join_verdict x y room = and_then (fitness_given x) (and_then (fitness_given y) (size_of (joined_given x y) room))

-- What is left where none of them applies, as facts: two fit models in equal lists, of a size that fits. (Theorem join-yes.)
pub record Joinable (x y : Given) (room : ℕ) : Type 0 where
  pub knee_lists : EqualLists x.arcs
  pub knee : Fit (model_given x)
  pub habit_lists : EqualLists y.arcs
  pub habit : Fit (model_given y)
  pub size : SizeFits (joined_given x y) room

-- what the join answers; "A refused join .. gives 0 for n, start mode, k and m."
abbrev pub join_of : Given → Given → Lists → Result Numbers Refusal
join_of x y l = reading_if (join_verdict x y (room_in l)) (joined_given x y)

-- the number and the detail
abbrev pub join_answer : Given → Given → Lists → Answer
join_answer x y l = answer_of (join_verdict x y (room_in l))

-- the lent lists as the call leaves them; "A refused join writes nothing"
abbrev pub lists_joined : Given → Given → Lists → Lists
lists_joined x y l = written_if (join_verdict x y (room_in l)) (joined_given x y).arcs l
