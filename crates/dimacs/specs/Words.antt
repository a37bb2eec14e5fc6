-- The words of DIMACS text, byte by byte.
use Rattle.std.specs.Prelude.{List, [], ◌∷◌, ℕ}
use Rattle.fields.specs.Bytes.{blank}

-- `c`
abbrev pub comment_letter : ℕ
comment_letter = 99

-- "p sp "
abbrev pub problem_word : List ℕ
problem_word = 112 ∷ blank ∷ 115 ∷ 112 ∷ blank ∷ []

-- "a "
abbrev pub arc_word : List ℕ
arc_word = 97 ∷ blank ∷ []

-- " "
abbrev pub blank_word : List ℕ
blank_word = blank ∷ []
