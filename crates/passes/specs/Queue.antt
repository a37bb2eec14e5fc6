-- The queue of a pass in the working space, four words for each entry, and the table of the greatest charges. Document 01, "Ceilings":
-- "Working space: 4 × (k+1) × n × (b+1) words."
use Rattle.std.specs.Prelude.{◌≡◌, true, false, Option, Some, None, List, [], ◌∷◌, ℕ, ◌+◌, ◌*◌, ◌≤◌, ◌<◌, length, get_or, set}
use Rattle.std.specs.Option.{IfSome}
use Rattle.limits.specs.Ceilings.{work_words}
use Rattle.groups.specs.Grouped.{arc_placed}
use Rattle.passes.specs.declared.entries.EntryWords.{EntryWords}
use Rattle.passes.specs.declared.pass.Closing.{Closing}
use Rattle.passes.specs.Pass.{Pass, Along, Ready, closes_at}

-- the numbers that a word holds, and a byte
abbrev pub word_count : ℕ
word_count = 65536

abbrev pub byte_count : ℕ
byte_count = 256

-- Entry i: a node, the charge with which it was reached, the entry that it was reached from, and the arc.
abbrev pub node_at : List ℕ → ℕ → ℕ
node_at w i = get_or w (work_words * i) 0

abbrev pub charge_at : List ℕ → ℕ → ℕ
charge_at w i = get_or w (work_words * i + 1) 0

abbrev pub parent_at : List ℕ → ℕ → ℕ
parent_at w i = get_or w (work_words * i + 2) 0

abbrev pub number_at : List ℕ → ℕ → ℕ
number_at w i = get_or w (work_words * i + 3) 0

abbrev pub words_at : List ℕ → ℕ → EntryWords
words_at w i = record { node = node_at w i; charge = charge_at w i; parent = parent_at w i; arc = number_at w i }

-- what the words of a list add up to
unfoldable pub sum : List ℕ → ℕ
sum [] = 0
sum (x ∷ xs) = x + sum xs

-- entry i follows from an earlier entry by its arc
pub record Made (P : Pass) (w : List ℕ) (i : ℕ) : Type 0 where
  pub back : parent_at w i < i
  pub step : Along P (number_at w i) (node_at w (parent_at w i)) (charge_at w (parent_at w i)) (node_at w i) (charge_at w i)

-- some entry from number i on and below tail has node v and the charge that is one less than y
pub record SomeEntry (w : List ℕ) (i tail v y : ℕ) : Type 0 where
  pub index : ℕ
  pub from : i ≤ index
  pub before : index < tail
  pub node : node_at w index ≡ v
  pub charge : charge_at w index + 1 ≡ y

-- The invariant of the queue. The table has 0 for a node that is not reached, and otherwise its greatest charge plus 1. Each entry raised a
-- word of the table, so that no more are made than the words add up to.
pub record Queue (P : Pass) (best w : List ℕ) (tail : ℕ) : Type 0 where
  pub some : 0 < tail
  pub made : (i : ℕ) → 0 < i → i < tail → Made P w i
  pub held : (v : ℕ) → 0 < get_or best v 0 → SomeEntry w 0 tail v (get_or best v 0)
  pub known : (i : ℕ) → i < tail → charge_at w i + 1 ≤ get_or best (node_at w i) 0
  pub low : (v : ℕ) → get_or best v 0 ≤ P.bound + 1
  pub counted : tail ≤ sum best

-- the pass is under way, with tail entries in its queue
pub record Running (P : Pass) (best w : List ℕ) (tail : ℕ) : Type 0 where
  pub ready : Ready P (length best) (length w)
  pub queue : Queue P best w tail

-- w' is w with the entry (v, x, h, a) at tail; what stands before tail is kept
pub record Pushed (w : List ℕ) (tail v x h a : ℕ) (w' : List ℕ) : Type 0 where
  pub size : length w' ≡ length w
  pub kept : (j : ℕ) → j < work_words * tail → get_or w' j 0 ≡ get_or w j 0
  pub node : node_at w' tail ≡ v
  pub charge : charge_at w' tail ≡ x
  pub parent : parent_at w' tail ≡ h
  pub number : number_at w' tail ≡ a

-- What is asked where arc a comes from entry h to node u with charge x: numbers that fit their words, and room where the table rises.
pub record Arrives (best w : List ℕ) (tail u x h a : ℕ) : Type 0 where
  pub inside : u < length best
  pub few : length best ≤ word_count
  pub low : x + 1 < word_count
  pub parent : h < word_count
  pub number : a < word_count
  pub room : get_or best u 0 < x + 1 → work_words * tail + work_words ≤ length w

-- What is done there: nothing where the arc closes the cycle, nothing where the table knows as much, and else the table rises and an entry is
-- added.
pub data Arrived (goal least : ℕ) (best w : List ℕ) (tail u x h a : ℕ) (best' w' : List ℕ) (found : Option Closing) (tail' : ℕ) : Type 0 where
  closed : closes_at goal least u x ≡ true → best' ≡ best → w' ≡ w → found ≡ Some (record { head = h; arc = a }) → tail' ≡ tail
      → Arrived goal least best w tail u x h a best' w' found tail'
  knows : closes_at goal least u x ≡ false → x + 1 ≤ get_or best u 0 → best' ≡ best → w' ≡ w → found ≡ None → tail' ≡ tail
      → Arrived goal least best w tail u x h a best' w' found tail'
  rises : closes_at goal least u x ≡ false → get_or best u 0 < x + 1 → best' ≡ set best u (x + 1) → Pushed w tail u x h a w' → found ≡ None
      → tail' ≡ tail + 1 → Arrived goal least best w tail u x h a best' w' found tail'

-- a later state: entries are only added, and no word of the table falls
pub record Grown (best w : List ℕ) (tail : ℕ) (best' w' : List ℕ) (tail' : ℕ) : Type 0 where
  pub more : tail ≤ tail'
  pub kept : (j : ℕ) → j < work_words * tail → get_or w' j 0 ≡ get_or w j 0
  pub up : (v : ℕ) → get_or best v 0 ≤ get_or best' v 0
  pub best_size : length best' ≡ length best
  pub size : length w' ≡ length w

-- where arc a is possible at (v, e), the table knows what it comes to, and the arc does not close the cycle
pub record Covers (P : Pass) (best : List ℕ) (a v e : ℕ) : Type 0 where
  pub knows : (u x : ℕ) → Along P a v e u x → x + 1 ≤ get_or best u 0
  pub passes : (u x : ℕ) → Along P a v e u x → closes_at P.goal P.least u x ≡ false

-- arc a is possible at (v, e), and closes the cycle
pub record Closes (P : Pass) (a v e : ℕ) : Type 0 where
  pub node : ℕ
  pub charge : ℕ
  pub step : Along P a v e node charge
  pub at_goal : closes_at P.goal P.least node charge ≡ true

-- what trying the arcs at the places from lo on and below hi at (v, e) gives: all are covered, or the arc that is found closes the cycle
pub record Tried (P : Pass) (best w : List ℕ) (tail lo hi v e : ℕ) (best' w' : List ℕ) (found : Option Closing) (tail' : ℕ) : Type 0 where
  pub queue : Queue P best' w' tail'
  pub grown : Grown best w tail best' w' tail'
  pub covers : found ≡ None → (i : ℕ) → lo ≤ i → i < hi → Covers P best' (arc_placed P.places i) v e
  pub closing : IfSome found (λ k. Closes P k.arc v e)

-- what a visit of entry head gives: the same for every arc, or nothing where the entry's charge is no longer the greatest of its node
pub record Visited (P : Pass) (best w : List ℕ) (tail head : ℕ) (best' w' : List ℕ) (found : Option Closing) (tail' : ℕ) : Type 0 where
  pub queue : Queue P best' w' tail'
  pub grown : Grown best w tail best' w' tail'
  pub covers : found ≡ None → get_or best (node_at w head) 0 ≡ charge_at w head + 1 → (i : ℕ) → Covers P best' i (node_at w head) (charge_at w head)
  pub closing : IfSome found (λ k. Closes P k.arc (node_at w head) (charge_at w head))

-- a queue from the first entry (s, c)
pub record Begun (P : Pass) (s c : ℕ) (best w : List ℕ) (tail : ℕ) : Type 0 where
  pub queue : Queue P best w tail
  pub node : node_at w 0 ≡ s
  pub charge : charge_at w 0 ≡ c
  pub begun : c + 1 ≤ get_or best s 0

-- the same with its first head entries treated
pub record Treated (P : Pass) (s c : ℕ) (best w : List ℕ) (head tail : ℕ) : Type 0 where
  pub from : Begun P s c best w tail
  pub treated : (i : ℕ) → i < head → get_or best (node_at w i) 0 ≡ charge_at w i + 1 → (a : ℕ) → Covers P best a (node_at w i) (charge_at w i)

-- what a pass leaves: every greatest charge is covered, or the arc that is found closes the cycle at its entry
pub record Passed (P : Pass) (s c : ℕ) (best w : List ℕ) (found : Option Closing) (tail : ℕ) : Type 0 where
  pub from : Begun P s c best w tail
  pub covers : found ≡ None → (v x : ℕ) → get_or best v 0 ≡ x + 1 → (i : ℕ) → Covers P best i v x
  pub before : IfSome found (λ k. k.head < tail)
  pub closing : IfSome found (λ k. Closes P k.arc (node_at w k.head) (charge_at w k.head))
