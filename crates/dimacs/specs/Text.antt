-- DIMACS text: the first line outside the forms, and the numbers and arcs of a text that has none. Document 02, Ask 1.
use Rattle.std.specs.Prelude.{◌≡◌, true, ◌&&◌, cond, List, [], ◌∷◌, map, ◌⊎◌, ℕ, suc, ◌+◌, ◌≤◌, ◌<◌, ltb, eqb, ℤ, length, drop}
use Rattle.fields.specs.Fields.{lines_of, line_of}
use Rattle.dimacs.specs.Lines.{is_comment, is_problem, is_arc, modes_on, count_on, from_on, to_on, weight_on}
use Rattle.dimacs.specs.declared.Problem.{Problem}

-- how many comments the text begins with
unfoldable pub comments : List (List ℕ) → ℕ
comments [] = 0
comments (l ∷ ls) = cond (is_comment l) (suc (comments ls)) 0

-- the line after them; nothing where there is none
abbrev pub problem_line : List (List ℕ) → List ℕ
problem_line ls = line_of ls (comments ls)

abbrev pub modes_of : List (List ℕ) → ℕ
modes_of ls = modes_on (problem_line ls)

abbrev pub count_of : List (List ℕ) → ℕ
count_of ls = count_on (problem_line ls)

-- the lines after it
abbrev pub arc_lines : List (List ℕ) → List (List ℕ)
arc_lines ls = drop (suc (comments ls)) ls

-- the numbers of a text, and the place where the lines of its arcs begin
pub record IsProblemOf (s : List ℕ) (r : Problem) : Type 0 where
  pub modes : r.modes ≡ modes_of (lines_of s)
  pub count : r.count ≡ count_of (lines_of s)
  pub within : r.arcs ≤ length s
  pub lines : lines_of (drop r.arcs s) ≡ arc_lines (lines_of s)

-- the first of these lines that is no arc's line or past the m-th, or is missing, counted from 1 over the whole text; 0 where there is none.
-- line: how many lines stand before; i: how many arcs
unfoldable pub arcs_wrong : ℕ → ℕ → ℕ → ℕ → List (List ℕ) → ℕ
arcs_wrong n m line i [] = cond (eqb i m) 0 (suc line)
arcs_wrong n m line i (l ∷ ls) = cond (ltb i m && is_arc n l) (arcs_wrong n m (suc line) (suc i) ls) (suc line)

-- "a DIMACS line 20 .. with the first such line counted from 1 as detail (one past the last line where the text ends early)"; 0 where there is none
unfoldable pub dimacs_wrong : List (List ℕ) → ℕ
dimacs_wrong ls =
    cond (is_problem (problem_line ls)) (arcs_wrong (modes_of ls) (count_of ls) (suc (comments ls)) 0 (arc_lines ls)) (suc (comments ls))

-- line j, from 0, is in the forms: a comment before the `p` line, the `p` line, or one of m arcs' lines after it
abbrev pub InForms : List (List ℕ) → ℕ → Type 0
InForms ls j =
    ((j < comments ls) × (is_comment (line_of ls j) ≡ true))
    ⊎ ((j ≡ comments ls) × (is_problem (line_of ls j) ≡ true))
    ⊎ ((comments ls < j) × (j ≤ comments ls + count_of ls) × (is_arc (modes_of ls) (line_of ls j) ≡ true))

-- line d, from 0, is the first that is not, or, where it is one past the last, is missing
pub record FirstWrong (ls : List (List ℕ)) (d : ℕ) : Type 0 where
  pub earlier : (j : ℕ) → j < d → InForms ls j
  pub here : InForms ls d → ⊥
  pub within : d ≤ length ls
  pub missing : d ≡ length ls → d ≤ comments ls + count_of ls

-- an arc of the text, its modes counted from 1
pub record TextArc : Type 0 where
  pub from : ℕ
  pub to : ℕ
  pub weight : ℤ

abbrev pub text_arc_on : List ℕ → TextArc
text_arc_on l = record { from = from_on l; to = to_on l; weight = weight_on l }

-- the arcs of a text, in its order
abbrev pub text_arcs_of : List (List ℕ) → List TextArc
text_arcs_of ls = map text_arc_on (arc_lines ls)
