-- Lists lent to be filled. Document 01: "a call that fills arc lists writes one place per arc, from place 0"; document 02, Asks 1 and 5: reading and the
-- join fill them.
use Rattle.std.specs.Prelude.{ℕ, ◌+◌, ◌<◌, min, ◌≡◌, List, map, length, get_or, set, take, drop, Result, Ok, Err}
use Rattle.std.proofs.lemmas.List.Edits.{sets}
use Rattle.refusals.specs.declared.Refusal.{Refusal}
use Rattle.refusals.specs.Refusals.{Verdict}
use Rattle.model.specs.declared.Arc.{Arc}
use Rattle.model.specs.Automaton.{Automaton, no_arc}
use Rattle.model.specs.Lists.{Lists, lists}
use Rattle.filling.specs.declared.LentLists.{LentLists}
use Rattle.filling.specs.declared.Numbers.{Numbers}

-- the lists, as they stand behind the six references
abbrev pub lists_lent : LentLists → Lists
lists_lent l = lists l.sources.now l.targets.now l.draws.now l.gains.now l.colours.now l.actions.now

-- the references are still those to the lists that were lent
pub record SameLent (old new : LentLists) : Type 0 where
  pub sources : new.sources.ghost_name ≡ old.sources.ghost_name
  pub targets : new.targets.ghost_name ≡ old.targets.ghost_name
  pub draws : new.draws.ghost_name ≡ old.draws.ghost_name
  pub gains : new.gains.ghost_name ≡ old.gains.ghost_name
  pub colours : new.colours.ghost_name ≡ old.colours.ghost_name
  pub actions : new.actions.ghost_name ≡ old.actions.ghost_name

-- "More edges than the shortest of them takes": how many arcs lists of these lengths take; "lists lent to be filled may have any length"
abbrev pub room_of : ℕ → ℕ → ℕ → ℕ → ℕ → ℕ → ℕ
room_of sources targets draws gains colours actions = min (min sources targets) (min (min draws gains) (min colours actions))

abbrev pub room_in : Lists → ℕ
room_in l = room_of (length l.sources) (length l.targets) (length l.draws) (length l.gains) (length l.colours) (length l.actions)

-- an arc within the widths of the lists, bytes and 16 bits
pub record Narrow (a : Arc) : Type 0 where
  pub source : a.source < 256
  pub target : a.target < 256
  pub draw : a.draw < 65536
  pub gain : a.gain < 65536
  pub colours : a.colours < 256

-- every one of some arcs is (law fit-narrow: those of a fit model are)
abbrev pub AllNarrow : List Arc → Type 0
AllNarrow arcs = (a : ℕ) → a < length arcs → Narrow (get_or arcs a no_arc)

-- an arc written at place i of each; a list without that place stays as it is
abbrev pub put : Lists → ℕ → Arc → Lists
put l i a =
    lists
    (set l.sources i a.source)
    (set l.targets i a.target)
    (set l.draws i a.draw)
    (set l.gains i a.gain)
    (set l.colours i a.colours)
    (set l.actions i a.action)

-- "writes one place per arc": `sets l i vs` is the list l with vs written from place i on
abbrev pub written_from : ℕ → List Arc → Lists → Lists
written_from i arcs l =
    lists
    (sets l.sources i (map (λ a. a.source) arcs))
    (sets l.targets i (map (λ a. a.target) arcs))
    (sets l.draws i (map (λ a. a.draw) arcs))
    (sets l.gains i (map (λ a. a.gain) arcs))
    (sets l.colours i (map (λ a. a.colours) arcs))
    (sets l.actions i (map (λ a. a.action) arcs))

-- some arcs have been written into the lists old from place i on: the place behind the last, and the lists now
pub record Written (arcs : List Arc) (i : ℕ) (old : Lists) (end : ℕ) (now : Lists) : Type 0 where
  pub place : end ≡ i + length arcs
  pub puts : now ≡ written_from i arcs old

-- "A refused reading leaves the lent arc lists untouched"; "A refused join writes nothing"
abbrev pub written_if : Verdict → List Arc → Lists → Lists
written_if (Ok _) arcs l = written_from 0 arcs l
written_if (Err r) arcs l = l

-- the numbers of a model
abbrev pub numbers_of : Automaton → Numbers
numbers_of g = record { modes = g.modes; start = g.start; colours = g.colours; count = length g.arcs }

-- what a call answers that writes the model g where the verdict is yes
abbrev pub reading_if : Verdict → Automaton → Result Numbers Refusal
reading_if (Ok _) g = Ok (numbers_of g)
reading_if (Err r) g = Err r

-- "and gives 0 for n, start mode, k and m"
abbrev pub no_numbers : Numbers
no_numbers = record { modes = 0; start = 0; colours = 0; count = 0 }

-- the numbers in what a call answers
abbrev pub numbers_in : Result Numbers Refusal → Numbers
numbers_in (Ok n) = n
numbers_in (Err r) = no_numbers

-- the first m places of each list: what a caller lends to the other calls
abbrev pub first_places : ℕ → Lists → Lists
first_places m l =
    lists (take m l.sources) (take m l.targets) (take m l.draws) (take m l.gains) (take m l.colours) (take m l.actions)

-- the places behind them
abbrev pub later_places : ℕ → Lists → Lists
later_places m l =
    lists (drop m l.sources) (drop m l.targets) (drop m l.draws) (drop m l.gains) (drop m l.colours) (drop m l.actions)
