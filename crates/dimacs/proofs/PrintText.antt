-- A DIMACS text that is printed reads back. Assumes nothing.
use mathlib.Core.Path.{◌≡◌, refl, ap}
use mathlib.Core.Bool.{true, false}
use mathlib.Core.List.{List, [], ◌∷◌, ◌++◌, append_assoc, map}
use Prim.Native.Nat.{ℕ, suc, ◌+◌, ◌<◌}
use native.Mathlib.Omega.{arith}
use lib.Dec.{eqb}
use lib.IntN.{ℤ, pos, negsuc}
use lib.ListN.{length}
use borrow.Author.Tests.{lt-ltb, le-leb, eq-eqb, ne_eqb}
use Rattle.fields.specs.Bytes.{feed, minus}
use Rattle.fields.specs.Fields.{is_only, after_number, lines_of}
use Rattle.fields.proofs.Pieces.{Free, FreeAll, ended, text_of, lines-of}
use Rattle.fields.proofs.Printed.{Digits, printed-digits, after-word, free-append}
use Rattle.fields.proofs.Num.{num, Small, number-num, after-num, number-back, tail-back, feed-ends, blank-ends, num-long, num-line, freeb, free-word}
use Rattle.dimacs.specs.Words.{problem_word, arc_word, blank_word}
use Rattle.dimacs.specs.Lines.{is_comment, is_problem, count_field, modes_on, count_on, from_on, to_field, to_on, weight_field, is_negative, unsigned, signed_of, is_arc}
use Rattle.dimacs.proofs.Arcs.{ModesFit}
use Rattle.dimacs.specs.Text.{TextArc, text_arc_on, text_arcs_of, comments, modes_of, arcs_wrong, dimacs_wrong}

-- a `p` line, without its line feed
abbrev pub problem_text : ℕ → ℕ → List ℕ
problem_text n m = problem_word ++ (num n ++ (blank_word ++ num m))

problem-ended : (n m : ℕ) → ended (problem_text n m) ≡ problem_word ++ (num n ++ (blank_word ++ (num m ++ feed ∷ [])))
problem-ended n m = simp append_assoc

module _ (n m : ℕ) (many : Small n) (some : Small m) where
  pub problem-modes : modes_on (ended (problem_text n m)) ≡ n
  problem-modes = rw (problem-ended n m) (number-back problem_word n (blank_word ++ (num m ++ feed ∷ [])) many (blank-ends _))

  problem-field : count_field (ended (problem_text n m)) ≡ num m ++ feed ∷ []
  problem-field =
      rw (problem-ended n m, tail-back problem_word n (blank_word ++ (num m ++ feed ∷ [])) many (blank-ends _))
      (after-word blank_word (num m ++ feed ∷ []))

  pub problem-count : count_on (ended (problem_text n m)) ≡ m
  problem-count = rw problem-field (number-num m (feed ∷ []) some feed-ends)

  pub problem-is : is_problem (ended (problem_text n m)) ≡ true
  unfolding is_only
  problem-is = rw (problem-field, after-num m (feed ∷ []) some feed-ends)

-- a weight, with a minus where it is negative
abbrev pub weight_text : ℤ → List ℕ
weight_text (pos n) = num n
weight_text (negsuc n) = minus ∷ num (suc n)

abbrev pub SmallZ : ℤ → Type 0
SmallZ (pos n) = Small n
SmallZ (negsuc n) = Small (suc n)

-- digits do not begin with a minus
digits-plain : (l r : List ℕ) → Digits l → 0 < length l → (is_negative (l ++ r) ≡ false) × (unsigned (l ++ r) ≡ l ++ r)
unfolding is_negative unsigned
digits-plain [] r f h = absurd (omega arith)
digits-plain (x ∷ l) r f h =
    let no : eqb x minus ≡ false = ne_eqb x minus (λ e. absurd (omega (arith, e, f.0))) in
    (no, rw no)

-- what is read of a weight and its line feed
record ReadsWeight (f : List ℕ) (w : ℤ) : Type 0 where
  weighs : signed_of f ≡ w
  ends : is_only feed (after_number (unsigned f)) ≡ true

weight-back : (w : ℤ) → SmallZ w → ReadsWeight (weight_text w ++ feed ∷ []) w
unfolding is_only is_negative unsigned
weight-back (pos n) low =
    let (a, b) = digits-plain (num n) (feed ∷ []) (printed-digits 5 n) (num-long n) in
    record {
      weighs = rw (a, b, number-num n (feed ∷ []) low feed-ends);
      ends = rw (b, after-num n (feed ∷ []) low feed-ends);
    }
weight-back (negsuc n) low =
    record {
      weighs = rw (number-num (suc n) (feed ∷ []) low feed-ends);
      ends = rw (after-num (suc n) (feed ∷ []) low feed-ends);
    }

-- an `a` line, without its line feed
abbrev pub arc_text : TextArc → List ℕ
arc_text a = arc_word ++ (num a.from ++ (blank_word ++ (num a.to ++ (blank_word ++ weight_text a.weight))))

-- what a text can say of an arc
pub record TextArcFits (n : ℕ) (a : TextArc) : Type 0 where
  pub modes : ModesFit n a
  pub weight : SmallZ a.weight

-- such a line from its weight on, and from its target on, with the line feed
abbrev from_weight : TextArc → List ℕ
from_weight a = weight_text a.weight ++ feed ∷ []

abbrev from_target : TextArc → List ℕ
from_target a = num a.to ++ (blank_word ++ from_weight a)

module _ (n : ℕ) (many : Small n) (a : TextArc) (f : TextArcFits n a) where
  arc-ended : ended (arc_text a) ≡ arc_word ++ (num a.from ++ (blank_word ++ from_target a))
  arc-ended = simp append_assoc

  low-from : Small a.from
  low-from = omega (arith, f.modes.from_most)

  low-to : Small a.to
  low-to = omega (arith, f.modes.to_most)

  arc-from : from_on (ended (arc_text a)) ≡ a.from
  arc-from = rw arc-ended (number-back arc_word a.from _ low-from (blank-ends _))

  arc-field : to_field (ended (arc_text a)) ≡ from_target a
  arc-field = rw (arc-ended, tail-back arc_word a.from (blank_word ++ from_target a) low-from (blank-ends _)) (after-word blank_word _)

  arc-to : to_on (ended (arc_text a)) ≡ a.to
  arc-to = rw arc-field (number-num a.to (blank_word ++ from_weight a) low-to (blank-ends _))

  arc-rest : weight_field (ended (arc_text a)) ≡ from_weight a
  arc-rest = rw (arc-field, after-num a.to (blank_word ++ from_weight a) low-to (blank-ends _)) (after-word blank_word _)

  pub arc-is : is_arc n (ended (arc_text a)) ≡ true
  unfolding is_arc
  arc-is =
      rw (
        arc-from,
        arc-to,
        arc-rest,
        lt-ltb 0 a.from f.modes.from_some,
        le-leb a.from n f.modes.from_most,
        lt-ltb 0 a.to f.modes.to_some,
        le-leb a.to n f.modes.to_most,
      )
      (weight-back a.weight f.weight).ends

  pub arc-back : text_arc_on (ended (arc_text a)) ≡ a
  arc-back = rw (arc-from, arc-to, arc-rest, (weight-back a.weight f.weight).weighs)

abbrev pub TextArcsFit : ℕ → List TextArc → Type 0
TextArcsFit n [] = Unit
TextArcsFit n (a ∷ l) = TextArcFits n a × TextArcsFit n l

module _ (n : ℕ) (many : Small n) where
  arcs-right : (m line i : ℕ) (l : List TextArc) → i + length l ≡ m → TextArcsFit n l
      → arcs_wrong n m line i (map ended (map arc_text l)) ≡ 0
  unfolding arcs_wrong
  arcs-right m line i [] e f = rw (eq-eqb i m (omega arith))
  arcs-right m line i (a ∷ l) e f =
      rw (lt-ltb i m (omega arith), arc-is n many a f.0) (arcs-right m (suc line) (suc i) l (omega arith) f.1)

  arcs-read : (l : List TextArc) → TextArcsFit n l → map text_arc_on (map ended (map arc_text l)) ≡ l
  arcs-read [] f = refl
  arcs-read (a ∷ l) f = rw (arc-back n many a f.0) (ap (λ (t : List TextArc). a ∷ t) (arcs-read l f.1))

-- no line holds a line feed before its end
words-free : (freeb feed problem_word ≡ true) × (freeb feed arc_word ≡ true)
unfolding freeb
words-free = (refl, refl)

problem-line : (n m : ℕ) → Free feed (problem_text n m)
problem-line n m =
    free-append feed problem_word (num n ++ (blank_word ++ num m)) (free-word feed problem_word words-free.0)
    (free-append feed (num n) (blank_word ++ num m) (num-line n) (refl, num-line m))

weight-line : (w : ℤ) → Free feed (weight_text w)
weight-line (pos n) = num-line n
weight-line (negsuc n) = (refl, num-line (suc n))

arc-line : (a : TextArc) → Free feed (arc_text a)
arc-line a =
    let weight = blank_word ++ weight_text a.weight in
    let target = blank_word ++ (num a.to ++ weight) in
    let last = free-append feed (num a.to) weight (num-line a.to) (refl, weight-line a.weight) in
    free-append feed arc_word (num a.from ++ target) (free-word feed arc_word words-free.1)
    (free-append feed (num a.from) target (num-line a.from) (refl, last))

arc-lines : (l : List TextArc) → FreeAll (map arc_text l)
arc-lines [] = tt
arc-lines (a ∷ l) = (arc-line a, arc-lines l)

-- the lines of a text, each without its line feed
abbrev pub dimacs_lines : ℕ → List TextArc → List (List ℕ)
dimacs_lines n l = problem_text n (length l) ∷ map arc_text l

abbrev pub dimacs_text : ℕ → List TextArc → List ℕ
dimacs_text n l = text_of (dimacs_lines n l)

-- what the text that is printed says
pub record SaysDimacs (ls : List (List ℕ)) (n : ℕ) (l : List TextArc) : Type 0 where
  pub right : dimacs_wrong ls ≡ 0
  pub modes : modes_of ls ≡ n
  pub arcs : text_arcs_of ls ≡ l

no-comments : (n m : ℕ) (t : List (List ℕ)) → comments (ended (problem_text n m) ∷ t) ≡ 0
unfolding comments is_comment
no-comments n m t = refl

pub dimacs-back : (n : ℕ) (l : List TextArc) → Small n → Small (length l) → TextArcsFit n l → SaysDimacs (lines_of (dimacs_text n l)) n l
unfolding dimacs_wrong
dimacs-back n l many some f =
    let none = no-comments n (length l) (map ended (map arc_text l)) in
    rw (lines-of (dimacs_lines n l) (problem-line n (length l), arc-lines l))
    (record {
      right = rw (none, problem-is n (length l) many some, problem-modes n (length l) many some, problem-count n (length l) many some)
          (arcs-right n many (length l) 1 0 l (omega arith) f);
      modes = rw none (problem-modes n (length l) many some);
      arcs = rw none (arcs-read n many l f);
    })
