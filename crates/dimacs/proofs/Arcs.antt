-- What a text in the forms says: its comments, its `p` line, and its arcs one by one. Document 02, Ask 1. Assumes nothing.
use mathlib.Core.Path.{◌≡◌, refl, ap, ◌∙◌}
use mathlib.Core.Bool.{Bool, true, false, ◌&&◌, cond}
use mathlib.Core.List.{List, [], ◌∷◌, map}
use Prim.Native.Nat.{ℕ, zero, suc, ◌+◌, ◌≤◌, ◌<◌}
use native.Mathlib.Omega.{arith}
use lib.Dec.{ltb, leb, eqb}
use lib.IntN.{pos}
use lib.ListN.{length, get_or, get_or-map}
use lib.Seq.{get_or-drop}
use borrow.Author.Tests.{ltb-true, leb-true, eqb-true}
use Rattle.fields.specs.Fields.{line_of, after_word, number_of, after_number, is_plain, digit_count}
use Rattle.fields.proofs.Numbers.{both}
use Rattle.dimacs.specs.Lines.{is_comment, is_problem, from_on, to_on, weight_field, is_negative, unsigned, is_mode, weight_ends, is_arc}
use Rattle.dimacs.specs.Text.{comments, problem_line, modes_of, count_of, arc_lines, arcs_wrong, dimacs_wrong, TextArc, text_arc_on, text_arcs_of}

-- the lines before the `p` line are comments, and it is none
pub comments-are : (ls : List (List ℕ)) (j : ℕ) → j < comments ls → is_comment (line_of ls j) ≡ true
unfolding comments
comments-are [] j h = absurd (omega arith)
comments-are (l ∷ ls) j h = go (is_comment l) refl j h (comments-are ls)
  where
    go : (t : Bool) → is_comment l ≡ t → (j : ℕ) → j < cond t (suc (comments ls)) 0 → ((j : ℕ) → j < comments ls → is_comment (line_of ls j) ≡ true)
        → is_comment (line_of (l ∷ ls) j) ≡ true
    go true e zero h f = e
    go true e (suc j) h f = f j (omega arith)
    go false e j h f = absurd (omega arith)

pub comments-end : (ls : List (List ℕ)) → is_comment (problem_line ls) ≡ false
unfolding comments is_comment
comments-end [] = refl
comments-end (l ∷ ls) = go (is_comment l) refl (comments-end ls)
  where
    go : (t : Bool) → is_comment l ≡ t → is_comment (problem_line ls) ≡ false → is_comment (line_of (l ∷ ls) (cond t (suc (comments ls)) 0)) ≡ false
    go true e f = f
    go false e f = e

-- the arc of no line
abbrev pub no_text_arc : TextArc
no_text_arc = record { from = 0; to = 0; weight = pos 0 }

nothing_said : text_arc_on [] ≡ no_text_arc
unfolding after_word number_of after_number is_plain digit_count is_negative unsigned
nothing_said = refl

-- the i-th arc is what the i-th line after the `p` line says
pub arc-said : (ls : List (List ℕ)) (i : ℕ) → get_or (text_arcs_of ls) i no_text_arc ≡ text_arc_on (line_of ls (suc (comments ls) + i))
arc-said ls i =
    rw (← nothing_said)
    (get_or-map text_arc_on (arc_lines ls) i [] ∙ ap text_arc_on (get_or-drop (suc (comments ls)) ls i []))

-- "in `a` lines, from 1 to n"
pub record ModesFit (n : ℕ) (a : TextArc) : Type 0 where
  pub from_some : 0 < a.from
  pub from_most : a.from ≤ n
  pub to_some : 0 < a.to
  pub to_most : a.to ≤ n

abbrev pub AllModesFit : ℕ → List TextArc → Type 0
AllModesFit n [] = Unit
AllModesFit n (a ∷ l) = ModesFit n a × AllModesFit n l

pub modes-fit-at : (n : ℕ) (l : List TextArc) (i : ℕ) → AllModesFit n l → i < length l → ModesFit n (get_or l i no_text_arc)
modes-fit-at n [] i f h = absurd (omega arith)
modes-fit-at n (a ∷ l) zero f h = f.0
modes-fit-at n (a ∷ l) (suc i) f h = modes-fit-at n l i f.1 (omega arith)

mode-bounds : (n x : ℕ) → is_mode n x ≡ true → (0 < x) × (x ≤ n)
mode-bounds n x e =
    let (a, b) = both (ltb 0 x) (leb x n) e in
    (ltb-true 0 x a, leb-true x n b)

-- the parts of the test of a line
pub arc-modes : (n : ℕ) (l : List ℕ) → is_arc n l ≡ true → ModesFit n (text_arc_on l)
unfolding is_arc
arc-modes n l e =
    let (p, _) = both (is_mode n (from_on l) && is_mode n (to_on l)) (weight_ends (weight_field l)) e in
    let (u, v) = both (is_mode n (from_on l)) (is_mode n (to_on l)) p in
    let (a, b) = mode-bounds n (from_on l) u in
    let (c, d) = mode-bounds n (to_on l) v in
    record { from_some = a; from_most = b; to_some = c; to_most = d }

-- every line is an arc's
abbrev pub AllArcs : ℕ → List (List ℕ) → Type 0
AllArcs n [] = Unit
AllArcs n (l ∷ ls) = (is_arc n l ≡ true) × AllArcs n ls

pub arc-at : (n : ℕ) (ls : List (List ℕ)) (i : ℕ) → AllArcs n ls → i < length ls → is_arc n (line_of ls i) ≡ true
arc-at n [] i f h = absurd (omega arith)
arc-at n (l ∷ ls) zero f h = f.0
arc-at n (l ∷ ls) (suc i) f h = arc-at n ls i f.1 (omega arith)

all-modes : (n : ℕ) (ls : List (List ℕ)) → AllArcs n ls → AllModesFit n (map text_arc_on ls)
all-modes n [] f = tt
all-modes n (l ∷ ls) f = (arc-modes n l f.0, all-modes n ls f.1)

-- a test that gives no line
passes : (t : Bool) (a b : ℕ) → cond t a (suc b) ≡ 0 → (t ≡ true) × (a ≡ 0)
passes true a b e = (refl, e)
passes false a b e = absurd (omega (arith, e))

all-arcs : (n m line i : ℕ) (ls : List (List ℕ)) → arcs_wrong n m line i ls ≡ 0 → (i + length ls ≡ m) × AllArcs n ls
unfolding arcs_wrong
all-arcs n m line i [] e =
    let (z, _) = passes (eqb i m) 0 line e in
    (omega (arith, eqb-true i m z), tt)
all-arcs n m line i (l ∷ ls) e =
    let (z, r) = passes (ltb i m && is_arc n l) (arcs_wrong n m (suc line) (suc i) ls) line e in
    let (_, v) = both (ltb i m) (is_arc n l) z in
    let (c, f) = all-arcs n m (suc line) (suc i) ls r in
    (omega (arith, c), (v, f))

-- a text whose every line is in the forms: its `p` line, as many arcs as that says, and modes from 1 to n
module _ (ls : List (List ℕ)) (right : dimacs_wrong ls ≡ 0) where
  passed : (is_problem (problem_line ls) ≡ true) × (arcs_wrong (modes_of ls) (count_of ls) (suc (comments ls)) 0 (arc_lines ls) ≡ 0)
  unfolding dimacs_wrong
  passed = passes (is_problem (problem_line ls)) (arcs_wrong (modes_of ls) (count_of ls) (suc (comments ls)) 0 (arc_lines ls)) (comments ls) right

  pub problem-right : is_problem (problem_line ls) ≡ true
  problem-right = passed.0

  pub arcs-all : (length (arc_lines ls) ≡ count_of ls) × AllArcs (modes_of ls) (arc_lines ls)
  arcs-all =
      let (c, f) = all-arcs (modes_of ls) (count_of ls) (suc (comments ls)) 0 (arc_lines ls) passed.1 in
      (omega (arith, c), f)

  pub dimacs-right : (length (arc_lines ls) ≡ count_of ls) × AllModesFit (modes_of ls) (text_arcs_of ls)
  dimacs-right = (arcs-all.0, all-modes (modes_of ls) (arc_lines ls) arcs-all.1)
