-- Comments and arcs, line by line. Assumes nothing.
use mathlib.Core.Path.{◌≡◌, refl}
use mathlib.Core.Bool.{true, false}
use mathlib.Core.List.{List, [], ◌∷◌}
use Prim.Native.Nat.{ℕ, suc, ◌-◌, ◌≤◌}
use native.Mathlib.Omega.{arith}
use lib.ListN.{length, drop, length-drop}
use Rattle.fields.specs.Bytes.{feed}
use Rattle.fields.specs.Fields.{after_word, is_only, number_of, after_number, is_plain, digit_count, lines_of}
use Rattle.fields.proofs.Pieces.{split_few}
use Rattle.dimacs.specs.Lines.{is_comment, is_problem, modes_on, count_on}
use Rattle.dimacs.specs.Text.{comments, problem_line, arcs_wrong, dimacs_wrong}

-- whether a comment stands first
pub comments-none : (ls : List (List ℕ)) → ls ≡ [] → comments ls ≡ 0
unfolding comments
comments-none ls e = rw e

module _ (ls : List (List ℕ)) (l : List ℕ) (t : List (List ℕ)) (here : ls ≡ l ∷ t) where
  pub comments-stop : is_comment l ≡ false → comments ls ≡ 0
  unfolding comments
  comments-stop e = rw (here, e)

  pub comments-more : is_comment l ≡ true → comments ls ≡ suc (comments t)
  unfolding comments
  comments-more e = rw (here, e)

-- the lines of a text that are left after the first j are no more than its bytes, without j
pub lines_few : (s : List ℕ) (j : ℕ) → length (drop j (lines_of s)) ≤ length s - j
lines_few s j = omega (arith, length-drop j (lines_of s), split_few feed s)

-- the whole text
module _ (ls : List (List ℕ)) (line : ℕ) (p : List ℕ) (count : line ≡ suc (comments ls)) (here : p ≡ problem_line ls) where
  pub text-wrong : is_problem p ≡ false → line ≡ dimacs_wrong ls
  unfolding dimacs_wrong
  text-wrong e = rw (count, ← here, e)

  pub text-arcs : is_problem p ≡ true → arcs_wrong (modes_on p) (count_on p) line 0 (drop line ls) ≡ dimacs_wrong ls
  unfolding dimacs_wrong
  text-arcs e = rw (count, ← here, e)

pub no-problem : is_problem [] ≡ false
unfolding after_word is_only number_of after_number is_plain digit_count
no-problem = refl
