-- Words, plain numbers and pieces of a list of bytes. Document 02, Ask 1: "one blank between fields, a line feed after each" line. A reading
-- leaves the rest of the list, and the empty list where it fails: what is whole always leaves something, at least its line feed.
use Rattle.std.specs.Prelude.{Option, Some, None}
use Rattle.std.specs.Prelude.{◌≡◌, Bool, false, cond, ◌&&◌, List, [], ◌∷◌, ℕ, suc, ◌+◌, ◌-◌, ◌*◌, ◌≤◌, leb, eqb, length, get_or, take, drop}
use Rattle.limits.specs.Ceilings.{digits_most}
use Rattle.fields.specs.declared.SplitAfter.{SplitAfter}
use Rattle.fields.specs.Bytes.{feed, digit_zero, digit_nine}

-- what follows the word at the head of the list; nothing where the list does not begin with it
unfoldable pub after_word : List ℕ → List ℕ → List ℕ
after_word [] l = l
after_word (w ∷ ws) [] = []
after_word (w ∷ ws) (x ∷ l) = cond (eqb x w) (after_word ws l) []

-- the list is this one byte
unfoldable pub is_only : ℕ → List ℕ → Bool
is_only b [] = false
is_only b (x ∷ []) = eqb x b
is_only b (x ∷ y ∷ l) = false

-- the byte is a digit
unfoldable pub is_digit : ℕ → Bool
is_digit x = leb digit_zero x && leb x digit_nine

-- how many digits stand at the head of the list
unfoldable pub digit_count : List ℕ → ℕ
digit_count [] = 0
digit_count (x ∷ l) = cond (is_digit x) (suc (digit_count l)) 0

-- the value of a list of digits, after digits of value a
unfoldable pub value : ℕ → List ℕ → ℕ
value a [] = a
value a (x ∷ l) = value (a * 10 + (x - digit_zero)) l

-- "plain numbers have one to nine digits": so many do
unfoldable pub is_plain : ℕ → Bool
is_plain count = leb 1 count && leb count digits_most

-- the plain number at the head of the list, 0 where there is none
unfoldable pub number_of : List ℕ → ℕ
number_of l = cond (is_plain (digit_count l)) (value 0 (take (digit_count l) l)) 0

-- what follows it; nothing where there is none
unfoldable pub after_number : List ℕ → List ℕ
after_number l = cond (is_plain (digit_count l)) (drop (digit_count l) l) []

-- a byte put before the first piece
unfoldable pub with_byte : ℕ → List (List ℕ) → List (List ℕ)
with_byte x [] = (x ∷ []) ∷ []
with_byte x (p ∷ ps) = (x ∷ p) ∷ ps

-- the pieces of a list, split after each byte b: every piece but the last ends with its only b, and the last may have none
unfoldable pub split : ℕ → List ℕ → List (List ℕ)
split b [] = []
split b (x ∷ l) = cond (eqb x b) ((x ∷ []) ∷ split b l) (with_byte x (split b l))

-- the pieces that a walk over them has left
abbrev pub pieces_left : SplitAfter → List (List ℕ)
pieces_left p = split p.end p.rest.now

-- how long the first piece is
unfoldable pub piece_length : ℕ → List ℕ → ℕ
piece_length b [] = 0
piece_length b (x ∷ l) = cond (eqb x b) 1 (suc (piece_length b l))

-- the lines of a text, each with its line feed; bytes behind the last line feed are a line without one, which no form takes
abbrev pub lines_of : List ℕ → List (List ℕ)
lines_of s = split feed s

-- line j, from 0; nothing where there is none, and no form takes nothing
abbrev pub line_of : List (List ℕ) → ℕ → List ℕ
line_of ls j = get_or ls j []

-- line j of a text, from 0, begins at this place; past the last line, the place is the text's end
pub record LineAt (s : List ℕ) (at j : ℕ) : Type 0 where
  pub within : at ≤ length s
  pub lines : lines_of (drop at s) ≡ drop j (lines_of s)

-- the line is this word
abbrev pub is_word : List ℕ → List ℕ → Bool
is_word w l = is_only feed (after_word w l)

-- the plain number after the word, and what follows it
abbrev pub number_after : List ℕ → List ℕ → ℕ
number_after w l = number_of (after_word w l)

abbrev pub tail_after : List ℕ → List ℕ → List ℕ
tail_after w l = after_number (after_word w l)

-- what follows the word, a plain number and a second word
abbrev pub field_after : List ℕ → List ℕ → List ℕ → List ℕ
field_after w v l = after_word v (tail_after w l)

-- the line is this word and a plain number
abbrev pub is_numbered : List ℕ → List ℕ → Bool
is_numbered w l = is_only feed (tail_after w l)

-- a line counted from 1, where 0 stands for none
abbrev pub line_or_none : ℕ → Option ℕ
line_or_none d = cond (eqb d 0) None (Some d)
