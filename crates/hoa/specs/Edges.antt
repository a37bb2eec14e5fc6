-- What a text that is right says of its edges, by the places of its lines. Document 02, Ask 1. The body begins at line 6, from 0.
use Rattle.std.specs.Prelude.{◌≡◌, true, false, cond, List, [], ◌∷◌, ℕ, zero, suc, ◌+◌, ◌-◌, ◌≤◌, ◌<◌, length}
use Rattle.fields.specs.Fields.{line_of}
use Rattle.hoa.specs.Lines.{is_state, state_of, target_of}
use Rattle.hoa.specs.Text.{Edge, colours_said}

-- "each colour is below k"
abbrev pub Below : ℕ → List ℕ → Type 0
Below k [] = Unit
Below k (c ∷ cs) = (c < k) × Below k cs

-- "Every mode but the start is below its own text's n"
pub record EdgeFits (n k : ℕ) (e : Edge) : Type 0 where
  pub source : e.source < n
  pub target : e.target < n
  pub colours : Below k e.colours

abbrev pub EdgesFit : ℕ → ℕ → List Edge → Type 0
EdgesFit n k [] = Unit
EdgesFit n k (e ∷ es) = EdgeFits n k e × EdgesFit n k es

-- what stands for an edge that is not there
abbrev pub no_edge : Edge
no_edge = record { source = 0; target = 0; colours = [] }

-- how many of the body's first j lines are no `State:` lines
unfoldable pub edge_lines : List (List ℕ) → ℕ → ℕ
edge_lines ls zero = 0
edge_lines ls (suc j) = edge_lines ls j + cond (is_state (line_of ls (6 + j))) 0 1

-- Edge i of a text is e. line: where its line stands, which is not the last; block: where the last `State:` line before it stands.
pub record EdgeAt (ls : List (List ℕ)) (i : ℕ) (e : Edge) : Type 0 where
  pub line : ℕ
  pub block : ℕ
  pub body : 6 ≤ block
  pub later : block < line
  pub not_last : suc line < length ls
  pub opens : is_state (line_of ls block) ≡ true
  pub within : (x : ℕ) → block < x → x ≤ line → is_state (line_of ls x) ≡ false
  pub source : e.source ≡ state_of (line_of ls block)
  pub target : e.target ≡ target_of (line_of ls line)
  pub colours : e.colours ≡ colours_said (line_of ls line)
  pub before : edge_lines ls (line - 6) ≡ i
