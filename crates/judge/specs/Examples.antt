-- Document 01, "Examples": A to L as the rows of one table. "Start mode 0." The theorem examples-hold says that every row holds. M and N
-- "are left to a test program".
use Rattle.std.specs.Prelude.{ℕ, ◌≡◌, List, [], ◌∷◌, ℤ, pos, negsuc, length, replicate, Ok}
use Rattle.refusals.specs.declared.Answer.{Answer}
use Rattle.refusals.specs.Refusals.{answer, and_then}
use Rattle.model.specs.Automaton.{Automaton}
use Rattle.model.specs.Lists.{Lists, weighted, automaton_of}
use Rattle.model.specs.Fitness.{fitness, levels_of}
use Rattle.model.specs.Plans.{SomePlan}
use Rattle.judge.specs.Judged.{judged_answer}

-- what a row says. Found: the model and the levels are right, and some plan is feasible and accepted; None: they are right, and no plan of
-- any length is; Judged: of p, q and these bytes, judging's number and detail
pub data Claim : Type 0 where
  Found : Claim
  None : Claim
  Judged : ℕ → ℕ → List ℕ → Answer → Claim

-- modes: document 01's n; colours: its k; bound: its b; credit: its c
pub record Example : Type 0 where
  pub modes : ℕ
  pub colours : ℕ
  pub arcs : Lists
  pub bound : ℕ
  pub credit : ℕ
  pub claim : Claim

-- the model of a row, with start mode 0
abbrev pub model_in : Example → Automaton
model_in x = automaton_of x.modes 0 x.colours x.arcs

-- none of 1 to 6 applies to a row
abbrev pub Admitted : Example → Type 0
Admitted x = and_then (fitness x.modes 0 x.colours x.arcs) (levels_of x.bound x.credit) ≡ Ok tt

-- the claim, made of a row; no colour is barred
abbrev pub Says : Example → Claim → Type 0
Says x Found = Admitted x × SomePlan (model_in x) 0 x.bound x.credit
Says x None = Admitted x × (SomePlan (model_in x) 0 x.bound x.credit → ⊥)
Says x (Judged p q w r) = judged_answer x.modes 0 x.colours x.arcs 0 x.bound x.credit p q w ≡ r

-- what a row says is so
abbrev pub Stands : Example → Type 0
Stands x = Says x x.claim

module _ {A : Type 0} where
  -- P holds of every element of a list
  abbrev pub All : (A → Type 0) → List A → Type 0
  All P [] = Unit {0}
  All P (x ∷ l) = P x × All P l

-- n, k and the arcs, and then b, c and what is claimed; as everywhere in the definitions, the bound stands before the credit
abbrev pub row : ℕ → ℕ → Lists → ℕ → ℕ → Claim → Example
row n k l b c x = record { modes = n; colours = k; arcs = l; bound = b; credit = c; claim = x }

-- the lists of arcs that have these weights; document 01's arcs have no action, so each has action 0
abbrev pub by_weight : List ℕ → List ℕ → List ℤ → List ℕ → Lists
by_weight ss ts ws cs = weighted ss ts ws cs (replicate (length ss) 0)

-- A's model: "n 1, k 0, arc 0→0, 0"
abbrev pub of_a : ℕ → ℕ → Claim → Example
of_a = row 1 0 (by_weight (0 ∷ []) (0 ∷ []) (pos 0 ∷ []) (0 ∷ []))

-- B's model, also of C and D: "as A with weight −1"
abbrev pub of_b : ℕ → ℕ → Claim → Example
of_b = row 1 0 (by_weight (0 ∷ []) (0 ∷ []) (negsuc 0 ∷ []) (0 ∷ []))

-- E's model, also of F: "n 2, k 0, arcs 0→1, +3 and 1→0, −3"
abbrev pub of_e : ℕ → ℕ → Claim → Example
of_e = row 2 0 (by_weight (0 ∷ 1 ∷ []) (1 ∷ 0 ∷ []) (pos 3 ∷ negsuc 2 ∷ []) (0 ∷ 0 ∷ []))

-- G's model, also of H and I: "n 2, k 1, arcs 0→0, +1; 0→1, −5; 1→1, 0, colour 0"
abbrev pub of_g : ℕ → ℕ → Claim → Example
of_g = row 2 1 (by_weight (0 ∷ 0 ∷ 1 ∷ []) (0 ∷ 1 ∷ 1 ∷ []) (pos 1 ∷ negsuc 4 ∷ pos 0 ∷ []) (0 ∷ 0 ∷ 1 ∷ []))

-- J's model, also of K and L: "n 1, k 2, arcs 0→0, −2, colour 0 and 0→0, +2, colour 1"
abbrev pub of_j : ℕ → ℕ → Claim → Example
of_j = row 1 2 (by_weight (0 ∷ 0 ∷ []) (0 ∷ 0 ∷ []) (negsuc 1 ∷ pos 2 ∷ []) (1 ∷ 2 ∷ []))

-- the table: A to L, in order
abbrev pub examples : List Example
examples =
    -- A: "b = c = 0. A plan is found."
    of_a 0 0 Found
    -- B: "as A with weight −1: 10."
    ∷ of_b 0 0 None
    -- C: "B's model, b = c = 5, round 0: 16."
    ∷ of_b 5 5 (Judged 0 1 (0 ∷ []) (answer 16 0))
    -- D: "b = c = 1: 15 at step 1 (1, 0, impossible)."
    ∷ of_b 1 1 (Judged 0 1 (0 ∷ []) (answer 15 1))
    -- E: "round 0, 1; b = c = 10: yes (rounds end at 7 and 7)."
    ∷ of_e 10 10 (Judged 0 2 (0 ∷ 1 ∷ []) (answer 0 0))
    -- F: "b = c = 2: 15 at step 1."
    ∷ of_e 2 2 (Judged 0 2 (0 ∷ 1 ∷ []) (answer 15 1))
    -- G: "c 0, b 5: plan found."
    ∷ of_g 5 0 Found
    -- H: "b 4: 10."
    ∷ of_g 4 0 None
    -- I: "G's model, run-in 0 0 0 0 0 1, round 2: yes." c and b are G's.
    ∷ of_g 5 0 (Judged 6 1 (0 ∷ 0 ∷ 0 ∷ 0 ∷ 0 ∷ 1 ∷ 2 ∷ []) (answer 0 0))
    -- J: "c 0, b 2; round 1, 0: yes."
    ∷ of_j 2 0 (Judged 0 2 (1 ∷ 0 ∷ []) (answer 0 0))
    -- K: "round 0, 1: 15 at step 0." c and b are J's.
    ∷ of_j 2 0 (Judged 0 2 (0 ∷ 1 ∷ []) (answer 15 0))
    -- L: "round 1: 17, colour 0." c and b are J's.
    ∷ of_j 2 0 (Judged 0 1 (1 ∷ []) (answer 17 0))
    ∷ []
