-- The lines of a HOA text that are in the forms, by their places, and the first that is not. Document 02, Ask 1. Lines are counted from 0; the
-- body begins at line 6.
use Rattle.std.specs.Prelude.{◌≡◌, Bool, true, false, ◌||◌, List, [], ◌∷◌, ◌⊎◌, ℕ, ◌-◌, ◌≤◌, ◌<◌, length, get_or, take, drop}
use Rattle.fields.specs.Fields.{is_word, is_numbered, line_of}
use Rattle.hoa.specs.Words.{hoa_word, states_word, start_word, ap_word, body_word}
use Rattle.hoa.specs.Lines.{is_acceptance}
use Rattle.hoa.specs.Text.{modes_of, colours_of, may_stand, is_end}

-- the lines before the body: "one to a line: `HOA: v1`, `States:`, `Start:`, `AP: 0`, `Acceptance:` .., `--BODY--`"
abbrev pub head_forms : List (List ℕ → Bool)
head_forms = is_word hoa_word ∷ is_numbered states_word ∷ is_numbered start_word ∷ is_word ap_word ∷ is_acceptance ∷ is_word body_word ∷ []

-- line j is one of them, in its form
abbrev pub is_head : List (List ℕ) → ℕ → Bool
is_head ls j = get_or head_forms j (λ l. false) (line_of ls j)

-- line j may stand after the lines of the body before it
abbrev pub is_body : List (List ℕ) → ℕ → Bool
is_body ls j = may_stand (modes_of ls) (colours_of ls) (take (j - 6) (drop 6 ls)) (line_of ls j)

-- no line of the body before line j is `--END--`
abbrev pub NoEnd : List (List ℕ) → ℕ → Type 0
NoEnd ls j = (x : ℕ) → 6 ≤ x → x < j → is_end (line_of ls x) ≡ false

-- line j is in the forms; "The lines stand in that order", so none stands after `--END--`
abbrev pub InForms : List (List ℕ) → ℕ → Type 0
InForms ls j = (is_head ls j ≡ true) ⊎ ((6 ≤ j) × NoEnd ls j × ((is_end (line_of ls j) || is_body ls j) ≡ true))

-- line d is the first that is not, or, where it is one past the last, is missing: "where the text ends early", before `--END--`
pub record FirstWrong (ls : List (List ℕ)) (d : ℕ) : Type 0 where
  pub earlier : (j : ℕ) → j < d → InForms ls j
  pub here : InForms ls d → ⊥
  pub within : d ≤ length ls
  pub missing : d ≡ length ls → NoEnd ls d

-- there is none: every line is in the forms, and the last is `--END--`
pub record NoneWrong (ls : List (List ℕ)) : Type 0 where
  pub lines : (j : ℕ) → j < length ls → InForms ls j
  pub size : 6 < length ls
  pub ends : is_end (line_of ls (length ls - 1)) ≡ true
