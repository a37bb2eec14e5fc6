-- HOA text: the first line outside the forms, and the numbers and edges of a text that has none. Document 02, Ask 1.
use Rattle.std.specs.Prelude.{Bool, false, not, ◌&&◌, ◌||◌, cond, List, [], ◌∷◌, ◌++◌, map, ℕ, ◌+◌, ltb, eqb, length, drop}
use Rattle.fields.specs.Bytes.{blank}
use Rattle.fields.specs.Fields.{number_of, is_word, is_numbered, number_after, split, line_of}
use Rattle.hoa.specs.Words.{hoa_word, states_word, start_word, ap_word, body_word, end_word, close_brace}
use Rattle.hoa.specs.Lines.{is_state, state_of, target_of, inside, is_edge, is_acceptance, colour_count}

-- n, the start mode and k, from the lines of the head: "one to a line: `HOA: v1`, `States:`, `Start:`, `AP: 0`, `Acceptance:` .."
abbrev pub modes_of : List (List ℕ) → ℕ
modes_of ls = number_after states_word (line_of ls 1)

abbrev pub start_of : List (List ℕ) → ℕ
start_of ls = number_after start_word (line_of ls 2)

abbrev pub colours_of : List (List ℕ) → ℕ
colours_of ls = colour_count (line_of ls 4)

-- the first of the six lines before the body that is outside its form or missing, counted from 1; 0 where there is none
unfoldable pub head_wrong : List (List ℕ) → ℕ
head_wrong ls =
    cond (not (is_word hoa_word (line_of ls 0))) 1
    (cond (not (is_numbered states_word (line_of ls 1))) 2
    (cond (not (is_numbered start_word (line_of ls 2))) 3
    (cond (not (is_word ap_word (line_of ls 3))) 4
    (cond (not (is_acceptance (line_of ls 4))) 5
    (cond (not (is_word body_word (line_of ls 5))) 6
    0)))))

-- the line opens the block of this mode
unfoldable pub opens_block : ℕ → List ℕ → Bool
opens_block mode l = is_state l && eqb mode (state_of l)

-- some line of these does
unfoldable pub has_block : ℕ → List (List ℕ) → Bool
has_block mode [] = false
has_block mode (l ∷ ls) = opens_block mode l || has_block mode ls

-- a `State:` line of a mode below n that has no block in the lines before: "one block at most for each state"
unfoldable pub is_new_block : ℕ → List (List ℕ) → List ℕ → Bool
is_new_block n before l = is_state l && ltb (state_of l) n && not (has_block (state_of l) before)

-- a line of the body may stand after those before it: it opens a new block, or it is an edge's line and not the body's first
unfoldable pub may_stand : ℕ → ℕ → List (List ℕ) → List ℕ → Bool
may_stand n k before l = is_new_block n before l || (ltb 0 (length before) && is_edge n k l)

-- the last line, `--END--`
abbrev pub is_end : List ℕ → Bool
is_end l = is_word end_word l

-- the first line of the body that is outside the forms or missing, counted from 1 over the whole text; 0 where there is none. before: the body's
-- lines so far
unfoldable pub body_wrong : ℕ → ℕ → List (List ℕ) → List (List ℕ) → ℕ
body_wrong n k before [] = length before + 7
body_wrong n k before (l ∷ ls) =
    cond (is_end l) (cond (ltb 0 (length ls)) (length before + 8) 0)
    (cond (may_stand n k before l) (body_wrong n k (before ++ l ∷ []) ls) (length before + 7))

-- "A HOA line outside these forms or missing is 19 .. with the first such line counted from 1 as detail (one past the last line where the text
-- ends early)"; 0 where there is none
unfoldable pub hoa_wrong : List (List ℕ) → ℕ
hoa_wrong ls = cond (eqb (head_wrong ls) 0) (body_wrong (modes_of ls) (colours_of ls) [] (drop 6 ls)) (head_wrong ls)

-- an edge of the text; colours as they stand in the braces
pub record Edge : Type 0 where
  pub source : ℕ
  pub target : ℕ
  pub colours : List ℕ

-- the colours on an edge's line
unfoldable pub colours_said : List ℕ → List ℕ
colours_said l = cond (is_word close_brace (inside l)) [] (map number_of (split blank (inside l)))

-- the number is in the list
unfoldable pub contains : ℕ → List ℕ → Bool
contains x [] = false
contains x (y ∷ l) = eqb x y || contains x l

-- "a colour byte whose bit j says that the arc meets colour j", for the four colours that a fit model may have
unfoldable pub colour_byte : List ℕ → ℕ
colour_byte cs = cond (contains 0 cs) 1 0 + cond (contains 1 cs) 2 0 + cond (contains 2 cs) 4 0 + cond (contains 3 cs) 8 0

-- the edges in these lines of a body, where the block of mode s is open
unfoldable pub edges_from : ℕ → List (List ℕ) → List Edge
edges_from s [] = []
edges_from s (l ∷ ls) =
    cond (is_state l) (edges_from (state_of l) ls)
    (cond (is_end l) [] (record { source = s; target = target_of l; colours = colours_said l } ∷ edges_from s ls))

-- the edges of a text, in its order
abbrev pub edges_of : List (List ℕ) → List Edge
edges_of ls = edges_from 0 (drop 6 ls)
