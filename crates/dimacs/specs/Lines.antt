-- The lines of DIMACS text. Document 02, Ask 1. A line is a list of bytes with its line feed.
use Rattle.std.specs.Prelude.{Bool, true, false, ◌&&◌, cond, List, [], ◌∷◌, ℕ, zero, suc, ◌-◌, ltb, leb, eqb, ℤ, pos, negsuc, length, get_or}
use Rattle.walks.specs.Weights.{draw_of, gain_of}
use Rattle.fields.specs.Bytes.{feed, minus}
use Rattle.fields.specs.Fields.{after_word, is_only, number_of, after_number, number_after, field_after}
use Rattle.dimacs.specs.Words.{comment_letter, problem_word, arc_word, blank_word}
use Rattle.dimacs.specs.declared.Parts.{Parts}

-- "any lines that begin with `c`", "a line feed after each"
unfoldable pub is_comment : List ℕ → Bool
is_comment l = eqb (get_or l 0 0) comment_letter && eqb (get_or l (length l - 1) 0) feed

-- "one `p sp n m`": n
abbrev pub modes_on : List ℕ → ℕ
modes_on l = number_after problem_word l

-- the list from m on
abbrev pub count_field : List ℕ → List ℕ
count_field l = field_after problem_word blank_word l

-- m
abbrev pub count_on : List ℕ → ℕ
count_on l = number_of (count_field l)

-- nothing but the line feed follows m
abbrev pub is_problem : List ℕ → Bool
is_problem l = is_only feed (after_number (count_field l))

-- "m lines `a u v w` with modes counted from 1": u
abbrev pub from_on : List ℕ → ℕ
from_on l = number_after arc_word l

-- the list from v on
abbrev pub to_field : List ℕ → List ℕ
to_field l = field_after arc_word blank_word l

-- v
abbrev pub to_on : List ℕ → ℕ
to_on l = number_of (to_field l)

-- the list from w on
abbrev pub weight_field : List ℕ → List ℕ
weight_field l = after_word blank_word (after_number (to_field l))

-- "a minus before w is allowed"
unfoldable pub is_negative : List ℕ → Bool
is_negative f = eqb (get_or f 0 0) minus

unfoldable pub unsigned : List ℕ → List ℕ
unsigned [] = []
unsigned (x ∷ f) = cond (eqb x minus) f (x ∷ f)

-- a number, or its negative
abbrev pub signed : Bool → ℕ → ℤ
signed false n = pos n
signed true zero = pos 0
signed true (suc n) = negsuc n

-- the number at the head of a field, with its sign
abbrev pub signed_of : List ℕ → ℤ
signed_of f = signed (is_negative f) (number_of (unsigned f))

-- w
abbrev pub weight_on : List ℕ → ℤ
weight_on l = signed_of (weight_field l)

-- document 02, Ask 4: "An old weight w means draw −w, gain 0 where w is negative, else draw 0, gain w .. and files are read this way"
abbrev pub parts_of : ℤ → Parts
parts_of w = record { draw = draw_of w; gain = gain_of w }

abbrev pub parts_on : List ℕ → Parts
parts_on l = parts_of (weight_on l)

-- "in `a` lines, from 1 to n"
abbrev pub is_mode : ℕ → ℕ → Bool
is_mode n x = ltb 0 x && leb x n

-- nothing but the line feed follows w
abbrev pub weight_ends : List ℕ → Bool
weight_ends f = is_only feed (after_number (unsigned f))

unfoldable pub is_arc : ℕ → List ℕ → Bool
is_arc n l = is_mode n (from_on l) && is_mode n (to_on l) && weight_ends (weight_field l)
