-- The words of HOA text, byte by byte.
use Rattle.std.specs.Prelude.{List, [], ◌∷◌, ℕ}

-- "HOA: v1"
abbrev pub hoa_word : List ℕ
hoa_word = 72 ∷ 79 ∷ 65 ∷ 58 ∷ 32 ∷ 118 ∷ 49 ∷ []

-- "States: "
abbrev pub states_word : List ℕ
states_word = 83 ∷ 116 ∷ 97 ∷ 116 ∷ 101 ∷ 115 ∷ 58 ∷ 32 ∷ []

-- "Start: "
abbrev pub start_word : List ℕ
start_word = 83 ∷ 116 ∷ 97 ∷ 114 ∷ 116 ∷ 58 ∷ 32 ∷ []

-- "AP: 0"
abbrev pub ap_word : List ℕ
ap_word = 65 ∷ 80 ∷ 58 ∷ 32 ∷ 48 ∷ []

-- "Acceptance: "
abbrev pub accept_word : List ℕ
accept_word = 65 ∷ 99 ∷ 99 ∷ 101 ∷ 112 ∷ 116 ∷ 97 ∷ 110 ∷ 99 ∷ 101 ∷ 58 ∷ 32 ∷ []

-- " "
abbrev pub blank_word : List ℕ
blank_word = 32 ∷ []

-- "t"
abbrev pub true_word : List ℕ
true_word = 116 ∷ []

-- "Inf("
abbrev pub inf_word : List ℕ
inf_word = 73 ∷ 110 ∷ 102 ∷ 40 ∷ []

-- ")"
abbrev pub close_word : List ℕ
close_word = 41 ∷ []

-- "--BODY--"
abbrev pub body_word : List ℕ
body_word = 45 ∷ 45 ∷ 66 ∷ 79 ∷ 68 ∷ 89 ∷ 45 ∷ 45 ∷ []

-- "State: "
abbrev pub state_word : List ℕ
state_word = 83 ∷ 116 ∷ 97 ∷ 116 ∷ 101 ∷ 58 ∷ 32 ∷ []

-- "[t] "
abbrev pub edge_word : List ℕ
edge_word = 91 ∷ 116 ∷ 93 ∷ 32 ∷ []

-- " {"
abbrev pub open_brace : List ℕ
open_brace = 32 ∷ 123 ∷ []

-- "}"
abbrev pub close_brace : List ℕ
close_brace = 125 ∷ []

-- "--END--"
abbrev pub end_word : List ℕ
end_word = 45 ∷ 45 ∷ 69 ∷ 78 ∷ 68 ∷ 45 ∷ 45 ∷ []
