-- A HOA text that is printed reads back. Assumes nothing.
use mathlib.Core.Path.{◌≡◌, refl}
use mathlib.Core.Bool.{Bool, true, false, cond}
use mathlib.Core.List.{List, [], ◌∷◌, ◌++◌, map}
use Prim.Native.Nat.{ℕ, zero, suc}
use native.Mathlib.Omega.{arith}
use lib.Dec.{eqb}
use Rattle.fields.specs.Bytes.{feed, blank, ampersand}
use Rattle.fields.specs.Fields.{after_word, is_only, lines_of}
use Rattle.fields.proofs.Pieces.{Free, FreeAll, ended, text_of, lines-of}
use Rattle.fields.proofs.Printed.{free-append}
use Rattle.fields.proofs.Num.{Small, num, numbered_word, numbered_is, numbered-says, freeb, free-word, num-line, numbered-line}
use Rattle.hoa.specs.Words.{hoa_word, states_word, start_word, ap_word, accept_word, blank_word, body_word, end_word, state_word, edge_word, open_brace, inf_word, close_word}
use Rattle.hoa.specs.Text.{Edge, edges_of, head_wrong, body_wrong, hoa_wrong, modes_of, start_of, colours_of}
use Rattle.hoa.specs.Edges.{EdgesFit}
use Rattle.hoa.proofs.Print.{inner, braces, edged, inf, infs, goals, accepting, accepting-count, accepting-back}
use Rattle.hoa.proofs.PrintBody.{TogetherAll, stated, edge_text, body_from, body_text, bodies-back, empty_back, all-edges-back}

words-free : (freeb feed hoa_word ≡ true) × (freeb feed states_word ≡ true) × (freeb feed start_word ≡ true) × (freeb feed ap_word ≡ true)
    × (freeb feed accept_word ≡ true) × (freeb feed body_word ≡ true) × (freeb feed end_word ≡ true) × (freeb feed state_word ≡ true)
    × (freeb feed edge_word ≡ true) × (freeb feed inf_word ≡ true)
unfolding freeb
words-free = (refl, refl, refl, refl, refl, refl, refl, refl, refl, refl)

inner-line : (c : ℕ) (cs : List ℕ) → Free feed (inner c cs)
inner-line c [] = free-append feed (num c) (125 ∷ []) (num-line c) (refl, tt)
inner-line c (d ∷ cs) = free-append feed (num c) (blank ∷ inner d cs) (num-line c) (refl, inner-line d cs)

braces-line : (cs : List ℕ) → Free feed (braces cs)
braces-line [] = (refl, tt)
braces-line (c ∷ cs) = inner-line c cs

edged-line : (t : ℕ) (cs : List ℕ) → Free feed (edged t cs)
edged-line t cs =
    free-append feed edge_word (num t ++ (open_brace ++ braces cs)) (free-word feed edge_word words-free.8)
    (free-append feed (num t) (open_brace ++ braces cs) (num-line t) (refl, (refl, braces-line cs)))

inf-line : (j : ℕ) → Free feed (inf j)
inf-line j =
    free-append feed inf_word (num j ++ close_word) (free-word feed inf_word words-free.9)
    (free-append feed (num j) close_word (num-line j) (refl, tt))

infs-line : (j r : ℕ) → Free feed (infs j r)
infs-line j zero = inf-line j
infs-line j (suc r) = free-append feed (inf j) (ampersand ∷ infs (suc j) r) (inf-line j) (refl, infs-line (suc j) r)

goals-line : (k : ℕ) → Free feed (goals k)
goals-line zero = (refl, tt)
goals-line (suc r) = infs-line 0 r

accepting-line : (k : ℕ) → Free feed (accepting k)
accepting-line k =
    free-append feed accept_word (num k ++ (blank_word ++ goals k)) (free-word feed accept_word words-free.4)
    (free-append feed (num k) (blank_word ++ goals k) (num-line k) (refl, goals-line k))

from-lines : (s : ℕ) (es : List Edge) → FreeAll (body_from s es)
from-lines s [] = (free-word feed end_word words-free.6, tt)
from-lines s (e ∷ es) = go (eqb e.source s) (from-lines e.source es)
  where
    go : (t : Bool) → FreeAll (body_from e.source es)
        → FreeAll (cond t (edge_text e ∷ body_from e.source es) (stated e.source ∷ edge_text e ∷ body_from e.source es))
    go true f = (edged-line e.target e.colours, f)
    go false f = (numbered-line state_word e.source words-free.7, (edged-line e.target e.colours, f))

body-lines : (es : List Edge) → FreeAll (body_text es)
body-lines [] = (free-word feed end_word words-free.6, tt)
body-lines (e ∷ es) =
    (numbered-line state_word e.source words-free.7, (edged-line e.target e.colours, from-lines e.source es))

-- the lines of a text, each without its line feed
abbrev pub hoa_lines : ℕ → ℕ → ℕ → List Edge → List (List ℕ)
hoa_lines n s k es = hoa_word ∷ numbered_word states_word n ∷ numbered_word start_word s ∷ ap_word ∷ accepting k ∷ body_word ∷ body_text es

abbrev pub hoa_text : ℕ → ℕ → ℕ → List Edge → List ℕ
hoa_text n s k es = text_of (hoa_lines n s k es)

pub text-lines : (n s k : ℕ) (es : List Edge) → lines_of (hoa_text n s k es) ≡ map ended (hoa_lines n s k es)
text-lines n s k es =
    lines-of (hoa_lines n s k es) (
      free-word feed hoa_word words-free.0,
      (
        numbered-line states_word n words-free.1,
        (
          numbered-line start_word s words-free.2,
          (free-word feed ap_word words-free.3, (accepting-line k, (free-word feed body_word words-free.5, body-lines es))),
        ),
      ),
    )

-- what the text that is printed says
pub record SaysHoa (ls : List (List ℕ)) (n s k : ℕ) (es : List Edge) : Type 0 where
  pub right : hoa_wrong ls ≡ 0
  pub modes : modes_of ls ≡ n
  pub start : start_of ls ≡ s
  pub colours : colours_of ls ≡ k
  pub edges : edges_of ls ≡ es

words_are : (is_only feed (after_word hoa_word (ended hoa_word)) ≡ true) × (is_only feed (after_word ap_word (ended ap_word)) ≡ true)
    × (is_only feed (after_word body_word (ended body_word)) ≡ true)
unfolding after_word is_only
words_are = (refl, refl, refl)

module _ (n s k : ℕ) (es : List Edge) (many : Small n) (starts : Small s) (few : Small k) where
  head-back : head_wrong (map ended (hoa_lines n s k es)) ≡ 0
  unfolding head_wrong
  head-back =
      rw (
        words_are.0,
        numbered_is states_word n many,
        numbered_is start_word s starts,
        words_are.1,
        accepting-back k few,
        words_are.2,
      )

  pub hoa-back : TogetherAll es → EdgesFit n k es → SaysHoa (lines_of (hoa_text n s k es)) n s k es
  unfolding hoa_wrong
  hoa-back g f =
      rw (text-lines n s k es)
      (record {
        right = rw (head-back, numbered-says states_word n many, accepting-count k few) (body es g f);
        modes = numbered-says states_word n many;
        start = numbered-says start_word s starts;
        colours = accepting-count k few;
        edges = all-edges-back n k (omega arith) (omega arith) 0 es f;
      })
    where
      body : (es : List Edge) → TogetherAll es → EdgesFit n k es → body_wrong n k [] (map ended (body_text es)) ≡ 0
      body [] g f = empty_back n k (omega arith) (omega arith)
      body (e ∷ es) g f = bodies-back n k (omega arith) (omega arith) (e ∷ es) (omega arith) g f
