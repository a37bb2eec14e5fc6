-- The number of a wrong line: "the first such line counted from 1 as detail (one past the last line where the text ends early)". Document 02,
-- Ask 1. Assumes nothing.
use mathlib.Core.Path.{◌≡◌, refl, sym, ap, ◌∙◌}
use mathlib.Core.Bool.{Bool, true, false, ◌&&◌, cond}
use mathlib.Core.List.{List, [], ◌∷◌}
use mathlib.Core.Logic.{◌↔◌, inl, inr}
use Prim.Native.Nat.{ℕ, zero, suc, ◌+◌, ◌-◌, ◌≤◌, ◌<◌}
use native.Mathlib.Decide.{dec_le}
use native.Mathlib.Omega.{arith}
use lib.Dec.{ltb, eqb}
use lib.ListN.{length, length-drop, get_or-eq_default}
use lib.Seq.{get_or-drop}
use borrow.Author.Tests.{lt-ltb, ltb-true, eqb-false}
use Rattle.fields.specs.Fields.{line_of, after_word, number_of, is_plain, digit_count}
use Rattle.fields.proofs.Numbers.{both}
use Rattle.dimacs.specs.Lines.{is_comment, is_problem, is_arc}
use Rattle.dimacs.specs.Text.{comments, problem_line, modes_of, count_of, arc_lines, arcs_wrong, dimacs_wrong, InForms, FirstWrong}
use Rattle.dimacs.proofs.Lists.{no-problem}
use Rattle.dimacs.proofs.Arcs.{comments-are, arc-at, problem-right, arcs-all}

differ : {t : Bool} → t ≡ true → t ≡ false → ⊥
differ e f = let z : ◌≡◌ {A = ℕ} 0 1 = cc in omega arith

no-arc : (n : ℕ) → is_arc n [] ≡ false
unfolding is_arc after_word number_of is_plain digit_count
no-arc n = refl

-- after i arcs, line k of the lines that are left is the first wrong one
record FirstArc (n m i : ℕ) (t : List (List ℕ)) (k : ℕ) : Type 0 where
  earlier : (x : ℕ) → x < k → (i + x < m) × (is_arc n (line_of t x) ≡ true)
  here : i + k < m → is_arc n (line_of t k) ≡ true → ⊥
  within : k ≤ length t
  missing : k ≡ length t → i + k < m

-- the number is above that of the lines before
least : (n m line i d : ℕ) (t : List (List ℕ)) → arcs_wrong n m line i t ≡ suc d → line ≤ d
unfolding arcs_wrong
least n m line i d [] e = go (eqb i m) e
  where
    go : (t : Bool) → cond t 0 (suc line) ≡ suc d → line ≤ d
    go true e = absurd (omega (arith, e))
    go false e = omega (arith, e)
least n m line i d (l ∷ t) e = go (ltb i m && is_arc n l) e (least n m (suc line) (suc i) d t)
  where
    go : (b : Bool) → cond b (arcs_wrong n m (suc line) (suc i) t) (suc line) ≡ suc d
        → (arcs_wrong n m (suc line) (suc i) t ≡ suc d → suc line ≤ d) → line ≤ d
    go true e f = omega (arith, f e)
    go false e f = omega (arith, e)

-- one more arc before
more : (n m i : ℕ) (l : List ℕ) (t : List (List ℕ)) (k : ℕ) → i < m → is_arc n l ≡ true → FirstArc n m (suc i) t k → FirstArc n m i (l ∷ t) (suc k)
more n m i l t k h e f =
    record {
      earlier = λ x. at x;
      here = λ g. f.here (omega arith);
      within = omega (arith, f.within);
      missing = λ g. omega (arith, f.missing (omega arith));
    }
  where
    at : (x : ℕ) → x < suc k → (i + x < m) × (is_arc n (line_of (l ∷ t) x) ≡ true)
    at zero q = (omega arith, e)
    at (suc x) q = (omega (arith, (f.earlier x (omega arith)).0), (f.earlier x (omega arith)).1)

-- the number is that of this line
first-arc : (n m line i k : ℕ) (t : List (List ℕ)) → i ≤ m → arcs_wrong n m line i t ≡ suc (line + k) → FirstArc n m i t k
unfolding arcs_wrong
first-arc n m line i k [] h e = go (eqb i m) refl e
  where
    go : (b : Bool) → eqb i m ≡ b → cond b 0 (suc line) ≡ suc (line + k) → FirstArc n m i [] k
    go true z e = absurd (omega (arith, e))
    go false z e =
        let none : k ≡ 0 = omega (arith, e) in
        record {
          earlier = λ x q. absurd (omega arith);
          here = λ _ a. differ a (no-arc n);
          within = omega arith;
          missing = λ _. omega (arith, eqb-false i m z);
        }
first-arc n m line i k (l ∷ t) h e = go (ltb i m && is_arc n l) refl k e (λ j. first-arc n m (suc line) (suc i) j t)
  where
    go : (b : Bool) → (ltb i m && is_arc n l) ≡ b → (k : ℕ) → cond b (arcs_wrong n m (suc line) (suc i) t) (suc line) ≡ suc (line + k)
        → ((j : ℕ) → suc i ≤ m → arcs_wrong n m (suc line) (suc i) t ≡ suc (suc line + j) → FirstArc n m (suc i) t j) → FirstArc n m i (l ∷ t) k
    go true z zero e f = absurd (omega (arith, least n m (suc line) (suc i) (line + 0) t e))
    go true z (suc k) e f =
        let (a, b) = both (ltb i m) (is_arc n l) z in
        more n m i l t k (ltb-true i m a) b (f k (ltb-true i m a) (e ∙ ap suc (omega arith)))
    go false z k e f =
        let none : k ≡ 0 = omega (arith, e) in
        rw none
        (record {
          earlier = λ x q. absurd (omega arith);
          here = λ q a. differ (rw (lt-ltb i m (omega arith), a)) z;
          within = omega arith;
          missing = λ q. absurd (omega (arith, q));
        })

-- the comments are lines of the text, and so is a `p` line
pub comments-most : (ls : List (List ℕ)) → comments ls ≤ length ls
unfolding comments
comments-most [] = omega arith
comments-most (l ∷ ls) = go (is_comment l) (comments-most ls)
  where
    go : (t : Bool) → comments ls ≤ length ls → cond t (suc (comments ls)) 0 ≤ suc (length ls)
    go true h = omega arith
    go false h = omega arith

problem-within : (ls : List (List ℕ)) → is_problem (problem_line ls) ≡ true → comments ls < length ls
problem-within ls e = elim (dec_le (length ls) (comments ls)) [ yes h ↦ absurd (none h) | no h ↦ omega arith ]
  where
    none : length ls ≤ comments ls → ⊥
    none h = differ (ap is_problem (sym (get_or-eq_default ls [] h)) ∙ e) no-problem

-- the `p` line, and every line before it and up to k after it
module _ (ls : List (List ℕ)) (problem : is_problem (problem_line ls) ≡ true) (k : ℕ)
    (earlier : (x : ℕ) → x < k → (0 + x < count_of ls) × (is_arc (modes_of ls) (line_of (arc_lines ls) x) ≡ true)) where
  forms : (j : ℕ) → j < suc (comments ls) + k → InForms ls j
  forms j h =
      elim (dec_le (comments ls) j) [
        | yes q ↦ elim (dec_le j (comments ls)) [
          | yes p ↦ let e : j ≡ comments ls = omega arith in inr (inl (e, ap (λ (i : ℕ). is_problem (line_of ls i)) e ∙ problem))
          | no p ↦ let (few, arc) = after (omega arith) in inr (inr (omega arith, omega (arith, few), arc))
        ]
        | no q ↦ inl (omega arith, comments-are ls j (omega arith))
      ]
    where
      after : comments ls < j → (j - suc (comments ls) < count_of ls) × (is_arc (modes_of ls) (line_of ls j) ≡ true)
      after q =
          let (few, arc) = earlier (j - suc (comments ls)) (omega arith) in
          let place : suc (comments ls) + (j - suc (comments ls)) ≡ j = omega arith in
          (omega (arith, few), rw (get_or-drop (suc (comments ls)) ls (j - suc (comments ls)) [], place) at arc)

-- the `p` line is the first wrong one
no-problem-line : (ls : List (List ℕ)) → is_problem (problem_line ls) ≡ false → FirstWrong ls (comments ls)
no-problem-line ls z =
    record { earlier = λ j h. inl (h, comments-are ls j h); here = none; within = comments-most ls; missing = λ _. omega arith }
  where
    none : InForms ls (comments ls) → ⊥
    none (inl (h, _)) = absurd (omega arith)
    none (inr (inl (_, e))) = differ e z
    none (inr (inr (h, _, _))) = absurd (omega arith)

-- a line after it is
no-arc-line : (ls : List (List ℕ)) (k : ℕ) → is_problem (problem_line ls) ≡ true → FirstArc (modes_of ls) (count_of ls) 0 (arc_lines ls) k
    → FirstWrong ls (suc (comments ls) + k)
no-arc-line ls k z f =
    let size = length-drop (suc (comments ls)) ls in
    let there = problem-within ls z in
    record {
      earlier = forms ls z k f.earlier;
      here = none;
      within = omega (arith, f.within);
      missing = λ q. omega (arith, f.missing (omega (arith, q)));
    }
  where
    none : InForms ls (suc (comments ls) + k) → ⊥
    none (inl (h, _)) = absurd (omega arith)
    none (inr (inl (h, _))) = absurd (omega (arith, h))
    none (inr (inr (_, h, a))) = f.here (omega arith) (rw (get_or-drop (suc (comments ls)) ls k []) a)

-- the number of a wrong line is that of the first
pub dimacs-first : (ls : List (List ℕ)) (d : ℕ) → dimacs_wrong ls ≡ suc d → FirstWrong ls d
unfolding dimacs_wrong
dimacs-first ls d e = go (is_problem (problem_line ls)) refl e
  where
    go : (b : Bool) → is_problem (problem_line ls) ≡ b
        → cond b (arcs_wrong (modes_of ls) (count_of ls) (suc (comments ls)) 0 (arc_lines ls)) (suc (comments ls)) ≡ suc d → FirstWrong ls d
    go false z e =
        let same : d ≡ comments ls = omega (arith, e) in
        rw same (no-problem-line ls z)
    go true z e =
        let k = d - suc (comments ls) in
        let low = least (modes_of ls) (count_of ls) (suc (comments ls)) 0 d (arc_lines ls) e in
        let same : d ≡ suc (comments ls) + k = omega arith in
        rw same
        (no-arc-line ls k z
        (first-arc (modes_of ls) (count_of ls) (suc (comments ls)) 0 k (arc_lines ls) (omega arith) (e ∙ ap suc same)))

-- no wrong line: every line is in the forms, and none is missing
module _ (ls : List (List ℕ)) (right : dimacs_wrong ls ≡ 0) where
  pub dimacs-length : length ls ≡ suc (comments ls) + count_of ls
  dimacs-length =
      let there = problem-within ls (problem-right ls right) in
      omega (arith, (arcs-all ls right).0, length-drop (suc (comments ls)) ls)

  pub dimacs-all : (j : ℕ) → j < length ls → InForms ls j
  dimacs-all j h =
      let (size, all) = arcs-all ls right in
      forms ls (problem-right ls right) (count_of ls) (λ x q. (omega arith, arc-at (modes_of ls) (arc_lines ls) x all (omega (arith, size)))) j
      (omega (arith, dimacs-length))

-- only one line is the first that is wrong
pub first_one : (ls : List (List ℕ)) (d e : ℕ) → FirstWrong ls d → FirstWrong ls e → d ≡ e
first_one ls d e f g =
    elim (dec_le d e) [
      | yes h ↦ elim (dec_le e d) [ yes q ↦ omega arith | no q ↦ absurd (f.here (g.earlier d (omega arith))) ]
      | no h ↦ absurd (g.here (f.earlier e (omega arith)))
    ]

-- the number of a wrong line, exactly
pub dimacs-detail : (ls : List (List ℕ)) (d : ℕ) → (dimacs_wrong ls ≡ suc d) ↔ FirstWrong ls d
dimacs-detail ls d = (dimacs-first ls d, λ f. from f (dimacs_wrong ls) refl)
  where
    from : FirstWrong ls d → (n : ℕ) → dimacs_wrong ls ≡ n → n ≡ suc d
    from f zero e =
        elim (dec_le (length ls) d) [
          | yes h ↦ absurd (omega (arith, dimacs-length ls e, f.within, f.missing (omega (arith, f.within))))
          | no h ↦ absurd (f.here (dimacs-all ls e d (omega arith)))
        ]
    from f (suc c) e = ap suc (first_one ls c d (dimacs-first ls c e) f)
