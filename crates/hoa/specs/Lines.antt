-- The lines of HOA text. Document 02, Ask 1. A line is a list of bytes with its line feed; where the last line of a text has none, no form takes
-- it.
use Rattle.std.specs.Prelude.{Bool, false, ◌&&◌, ◌||◌, cond, List, [], ◌∷◌, ℕ, suc, ltb, eqb}
use Rattle.fields.specs.Bytes.{feed, blank, ampersand}
use Rattle.fields.specs.Fields.{is_only, number_of, after_number, split, is_word, is_numbered, number_after, tail_after, field_after}
use Rattle.hoa.specs.Words.{accept_word, blank_word, true_word, inf_word, close_word, state_word, edge_word, open_brace, close_brace}

-- "`State:` lines with the mode alone"
abbrev pub is_state : List ℕ → Bool
is_state l = is_numbered state_word l

abbrev pub state_of : List ℕ → ℕ
state_of l = number_after state_word l

-- "edges `[t] target {colours}` with the braces optional"
abbrev pub target_of : List ℕ → ℕ
target_of l = number_after edge_word l

-- what follows the target: the line feed, or the braces
abbrev pub target_tail : List ℕ → List ℕ
target_tail l = tail_after edge_word l

-- what follows the opening brace
abbrev pub inside : List ℕ → List ℕ
inside l = field_after edge_word open_brace l

-- the colours after a brace, split after each blank: numbers below k with a blank between, and the closing brace and the line feed after the last.
-- (A piece that ends with a line feed has no blank and is the last.)
unfoldable pub are_colours : ℕ → List (List ℕ) → Bool
are_colours k [] = false
are_colours k (p ∷ ps) = ltb (number_of p) k && (is_word close_brace (after_number p) || (is_only blank (after_number p) && are_colours k ps))

-- "Braces may be empty or repeat a colour, in any order, and each colour is below k."
unfoldable pub is_braces : ℕ → List ℕ → Bool
is_braces k l = is_word close_brace l || are_colours k (split blank l)

-- "Every mode but the start is below its own text's n"
unfoldable pub is_edge : ℕ → ℕ → List ℕ → Bool
is_edge n k l = ltb (target_of l) n && (is_only feed (target_tail l) || is_braces k (inside l))

-- "`Acceptance:` with k and `Inf(0)` to `Inf(k-1)` in order with a bare `&` between (`0 t` for none)"
abbrev pub colour_count : List ℕ → ℕ
colour_count l = number_after accept_word l

-- what follows k and a blank
abbrev pub condition : List ℕ → List ℕ
condition l = field_after accept_word blank_word l

-- the number after `Inf(`
abbrev pub inf_number : List ℕ → ℕ
inf_number p = number_after inf_word p

-- what follows `Inf(`, a number and the closing bracket
abbrev pub inf_tail : List ℕ → List ℕ
inf_tail p = field_after inf_word close_word p

-- the condition split after each `&`: Inf(j), Inf(j+1) and so on, the last of which is Inf(k-1)
unfoldable pub are_infs : ℕ → ℕ → List (List ℕ) → Bool
are_infs k j [] = false
are_infs k j (p ∷ ps) =
    eqb (inf_number p) j && cond (is_only feed (inf_tail p)) (eqb (suc j) k) (is_only ampersand (inf_tail p) && are_infs k (suc j) ps)

-- no condition takes k = 0 but `t`
unfoldable pub is_acceptance : List ℕ → Bool
is_acceptance l = cond (eqb (colour_count l) 0) (is_word true_word (condition l)) (are_infs (colour_count l) 0 (split ampersand (condition l)))
