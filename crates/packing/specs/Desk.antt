-- The C entries. Document 01, "What can be called": "The fitting desk's own program, written in C, calls judging and search, with numbers and
-- byte or word buffers." Since document 02, Ask 2, it also calls the gauge, whose spill "fitters wish to see", and the
-- walk; since Ask 1, reading; since Ask 5, the join; since Ask 9, the table of greatest charges. Judging, search and walk take a byte of barred colours
-- since Ask 6, search the switches of the arcs since Ask 9; since Ask 12, the decision without a plan; since Ask 8, the least credit and the least bound.
use Rattle.std.specs.Prelude.{ℕ, ◌≡◌, List, [], ◌∷◌}
use Rattle.model.specs.Lists.{Lists}
use Rattle.judge.specs.Judged.{judged}
use Rattle.gauge.specs.declared.Gauge.{Gauge}
use Rattle.gauge.specs.Gauge.{Gauged, no_gauge, gauge_or, started_of, stepped_of}
use Rattle.planwalk.specs.Walked.{walk_of}
use Rattle.search.specs.Search.{Searched, SearchOf}
use Rattle.decide.specs.Decide.{DecideOf}
use Rattle.least.specs.declared.Sought.{Sought}
use Rattle.least.specs.Least.{LeastFound, LeastOf}
use Rattle.refusals.specs.declared.Answer.{Answer}
use Rattle.refusals.specs.Refusals.{Verdict, verdict_of}
use Rattle.filling.specs.declared.Numbers.{Numbers}
use Rattle.filling.specs.Filling.{numbers_in}
use Rattle.reading.specs.Reading.{read_of, read_answer}
use Rattle.join.specs.Joining.{Given, join_of, join_answer}
use Rattle.reach.specs.Reach as reach
use Rattle.packing.specs.declared.Started.{Started}
use Rattle.packing.specs.declared.Reached.{Reached}
use Rattle.packing.specs.declared.Read.{Read}
use Rattle.packing.specs.Packing.{verdict_word, search_word, least_word, walk_word}

-- the words of the switches, which C passes one by one
abbrev pub four_words : ℕ → ℕ → ℕ → ℕ → List ℕ
four_words on0 on1 on2 on3 = on0 ∷ on1 ∷ on2 ∷ on3 ∷ []

-- what judging answers, in one word
abbrev pub desk_judged : ℕ → ℕ → ℕ → Lists → ℕ → ℕ → ℕ → ℕ → ℕ → List ℕ → ℕ
desk_judged n s k l x b c p q w = verdict_word (judged n s k l x b c p q w)

-- What search answers: the word is that of an answer of which all holds that search promises, demand 3 with it. Which plan it is, its p and q
-- with it, is free, as in `SearchOf`.
pub record DeskSearched (n s k : ℕ) (l : Lists) (x : ℕ) (on : List ℕ) (b c : ℕ) (work plan work' plan' : List ℕ) (r : ℕ) : Type 0 where
  pub searched : Searched
  pub claim : SearchOf n s k l x on b c work plan work' plan' searched
  pub word : r ≡ search_word searched

-- What the decision without a plan answers: the word of a verdict of which all holds that the call promises. There is one (theorem decide-one).
pub record DeskDecided (n s k : ℕ) (l : Lists) (x : ℕ) (on : List ℕ) (b c : ℕ) (work work' : List ℕ) (r : ℕ) : Type 0 where
  pub decided : Verdict
  pub claim : DecideOf n s k l x on b c work work' decided
  pub word : r ≡ verdict_word decided

-- What the least credit and the least bound answer, by which is sought: the word of an answer of which all holds that the call promises. There is one (theorem
-- least-one).
pub record DeskLeast (sought : Sought) (n s k : ℕ) (l : Lists) (x : ℕ) (on : List ℕ) (given : ℕ) (work work' : List ℕ) (r : ℕ) : Type 0 where
  pub found : LeastFound
  pub claim : LeastOf sought n s k l x on given work work' found
  pub word : r ≡ least_word found

-- what starting a gauge answers: its verdict in one word, and the gauge; "a refusal hands back .. 0 in every field"
abbrev pub started_with : Gauged → Started
started_with y = record { answer = verdict_word (verdict_of y); gauge = gauge_or no_gauge y }

abbrev pub desk_started : ℕ → ℕ → ℕ → Lists → ℕ → ℕ → Started
desk_started n s k l b c = started_with (started_of n s k l b c)

-- A step of a lent gauge on arc a. x: the gauge at entry, y: the gauge at exit, r: the word.
pub record DeskStepped (n s k : ℕ) (l : Lists) (b a : ℕ) (x y : Gauge) (r : ℕ) : Type 0 where
  pub word : r ≡ verdict_word (verdict_of (stepped_of n s k l b a x))
  pub moved_on : y ≡ gauge_or x (stepped_of n s k l b a x)

-- what the walk answers, in one word
abbrev pub desk_walked : ℕ → ℕ → ℕ → Lists → ℕ → ℕ → ℕ → ℕ → ℕ → List ℕ → ℕ → ℕ → ℕ
desk_walked n s k l x b c p q w j t = walk_word (walk_of n s k l x b c p q w j t)

-- what reading and the join answer: number and detail, and the numbers of the model written, "0 for n, start mode, k and m" where they are refused
abbrev pub read_with : Answer → Numbers → Read
read_with a x = record { number = a.number; detail = a.detail; n = x.modes; start = x.start; k = x.colours; m = x.count }

abbrev pub desk_read : List ℕ → List ℕ → Lists → Read
desk_read hoa dimacs l = read_with (read_answer hoa dimacs l) (numbers_in (read_of hoa dimacs l))

abbrev pub desk_joined : Given → Given → Lists → Read
desk_joined x y l = read_with (join_answer x y l) (numbers_in (join_of x y l))

-- the verdict in one word, and the table
abbrev pub reached_with : reach.Reached → Reached
reached_with t = record { answer = verdict_word t.verdict; reach = t.reach }

-- What making a table of greatest charges and switching an arc answer: the verdict in one word, and the table, of an answer of which all holds that the
-- call promises (`StartOf`, `SwitchOf`). There is one such answer (theorems start-one, switch-one).
pub record DeskReached (Claim : reach.Reached → Type 0) (r : Reached) : Type 0 where
  pub told : reach.Reached
  pub claim : Claim told
  pub word : r.answer ≡ verdict_word told.verdict
  pub table : r.reach ≡ told.reach
