-- The number of a wrong line: "the first such line counted from 1 as detail (one past the last line where the text ends early)". Document 02,
-- Ask 1. Assumes nothing.
use mathlib.Core.Path.{◌≡◌, refl, sym, ap, subst, ◌∙◌}
use mathlib.Core.Bool.{Bool, true, false, not, cond, ◌||◌, and-false}
use mathlib.Core.List.{List, [], ◌∷◌, ◌++◌}
use mathlib.Core.Logic.{inl, inr}
use Prim.Native.Nat.{ℕ, zero, suc, ◌+◌, ◌-◌, ◌≤◌, ◌<◌}
use native.Mathlib.Decide.{dec_le}
use native.Mathlib.Omega.{arith}
use lib.Dec.{ltb, eqb}
use lib.ListN.{length, get_or, take, drop, length-drop, get_or-eq_default}
use lib.Seq.{get_or-drop, length-take-le}
use borrow.Author.Tests.{lt-ltb, le-ltb, ne_eqb}
use Rattle.fields.specs.Fields.{after_word, is_only, after_number, number_of, is_plain, digit_count, split, line_of}
use Rattle.fields.proofs.Places.{Begins, begins}
use Rattle.hoa.specs.Lines.{are_colours, is_braces, is_edge, is_acceptance}
use Rattle.hoa.specs.Text.{is_new_block, may_stand, is_end, body_wrong, head_wrong, hoa_wrong, modes_of, colours_of}
use Rattle.hoa.specs.Forms.{head_forms, is_head, NoEnd, InForms, FirstWrong, NoneWrong}
use Rattle.hoa.proofs.EdgeLines.{conflict}

-- no form takes a line that is not there
none-head : (j : ℕ) → get_or head_forms j (λ l. false) [] ≡ false
unfolding is_acceptance after_word is_only after_number number_of is_plain digit_count
none-head zero = refl
none-head (suc zero) = refl
none-head (suc (suc zero)) = refl
none-head (suc (suc (suc zero))) = refl
none-head (suc (suc (suc (suc zero)))) = refl
none-head (suc (suc (suc (suc (suc zero))))) = refl
none-head (suc (suc (suc (suc (suc (suc j)))))) = refl

none-stands : (n k : ℕ) (before : List (List ℕ)) → may_stand n k before [] ≡ false
unfolding may_stand is_new_block is_edge is_braces are_colours after_word is_only after_number number_of is_plain digit_count split
none-stands n k before = rw (and-false (ltb 0 n), and-false (ltb 0 (length before)))

none_end : is_end [] ≡ false
unfolding after_word is_only
none_end = refl

-- the head has six lines
head-six : (j : ℕ) (l : List ℕ) → 6 ≤ j → get_or head_forms j (λ l. false) l ≡ false
head-six zero l h = absurd (omega arith)
head-six (suc zero) l h = absurd (omega arith)
head-six (suc (suc zero)) l h = absurd (omega arith)
head-six (suc (suc (suc zero))) l h = absurd (omega arith)
head-six (suc (suc (suc (suc zero)))) l h = absurd (omega arith)
head-six (suc (suc (suc (suc (suc zero))))) l h = absurd (omega arith)
head-six (suc (suc (suc (suc (suc (suc j)))))) l h = refl

-- what the number r of a wrong line says; A: what is known where there is none
data Says (ls : List (List ℕ)) (A : Type 0) (r : ℕ) : Type 0 where
  wrong : (d : ℕ) → r ≡ suc d → FirstWrong ls d → Says ls A r
  right : r ≡ 0 → A → Says ls A r

module _ (ls : List (List ℕ)) where
  -- every line before line d is in the forms
  abbrev Upto : ℕ → Type 0
  Upto d = (j : ℕ) → j < d → InForms ls j

  -- one line more
  upto-more : (d : ℕ) → Upto d → InForms ls d → Upto (suc d)
  upto-more d all f j h =
      elim (dec_le d j) [
        | yes g ↦ let same : d ≡ j = omega arith in subst (λ (i : ℕ). InForms ls i) same f
        | no g ↦ all j (omega arith)
      ]

  end_more : (d : ℕ) → NoEnd ls d → is_end (line_of ls d) ≡ false → NoEnd ls (suc d)
  end_more d free e x h g =
      elim (dec_le d x) [
        | yes q ↦ let same : x ≡ d = omega arith in rw same e
        | no q ↦ free x h (omega arith)
      ]

  -- a line that is in the forms is there
  past : (j : ℕ) → length ls ≤ j → InForms ls j → ⊥
  past j h (inl e) = conflict (sym e ∙ rw (get_or-eq_default ls [] {n = j} h) (none-head j))
  past j h (inr (_, _, e)) = conflict (sym e ∙ rw (get_or-eq_default ls [] {n = j} h, none_end, none-stands (modes_of ls) (colours_of ls) _))

  upto-within : (d : ℕ) → Upto d → d ≤ length ls
  upto-within d all =
      elim (dec_le d (length ls)) [
        | yes h ↦ h
        | no h ↦ absurd (past (length ls) (omega arith) (all (length ls) (omega arith)))
      ]

  -- a line of the head is the first wrong one
  head_first : (d : ℕ) → d < 6 → Upto d → is_head ls d ≡ false → FirstWrong ls d
  head_first d h all e =
      record { earlier = all; here = none; within = upto-within d all; missing = λ _ x p q. absurd (omega arith) }
    where
      none : InForms ls d → ⊥
      none (inl z) = conflict (sym z ∙ e)
      none (inr (low, _, _)) = absurd (omega arith)

  -- line j of the body, from 0, after lines that are in the forms and are not `--END--`
  module _ (j : ℕ) (all : Upto (6 + j)) (free : NoEnd ls (6 + j)) where
    abbrev before : List (List ℕ)
    before = take j (drop 6 ls)

    count : length before ≡ j
    count = length-take-le j (drop 6 ls) (rw (length-drop 6 ls) (omega (arith, upto-within (6 + j) all)))

    -- it is missing
    missing-first : length ls ≤ 6 + j → FirstWrong ls (6 + j)
    missing-first h = record { earlier = all; here = past (6 + j) h; within = upto-within (6 + j) all; missing = λ _. free }

    module _ (l : List ℕ) (t : List (List ℕ)) (here : drop j (drop 6 ls) ≡ l ∷ t) where
      line : line_of ls (6 + j) ≡ l
      line = sym (get_or-drop 6 ls j []) ∙ (begins [] (drop 6 ls) j l t here).here

      left : length ls ≡ 7 + j + length t
      left =
          let size : length (drop j (drop 6 ls)) ≡ length ls - 6 - j = rw (length-drop j (drop 6 ls), length-drop 6 ls) in
          let same : length (drop j (drop 6 ls)) ≡ suc (length t) = rw here in
          omega arith

      in_body : (is_end l || may_stand (modes_of ls) (colours_of ls) before l) ≡ true → InForms ls (6 + j)
      in_body e = let same : 6 + j - 6 ≡ j = omega arith in inr (omega arith, free, rw (line, same) e)

      -- it may not stand here
      line_first : is_end l ≡ false → may_stand (modes_of ls) (colours_of ls) before l ≡ false → FirstWrong ls (6 + j)
      line_first x y =
          record { earlier = all; here = none; within = upto-within (6 + j) all; missing = λ e. absurd (omega (arith, e, left)) }
        where
          none : InForms ls (6 + j) → ⊥
          none (inl z) = conflict (sym z ∙ head-six (6 + j) (line_of ls (6 + j)) (omega arith))
          none (inr (_, _, z)) = let same : 6 + j - 6 ≡ j = omega arith in conflict (sym (rw (line, same, x, y) at z))

      -- it is `--END--`, and a line stands after it
      after_first : is_end l ≡ true → 0 < length t → FirstWrong ls (7 + j)
      after_first x more =
          record { earlier = λ i h. ended i (omega arith); here = none; within = omega (arith, left); missing = λ e. absurd (omega (arith, e, left)) }
        where
          ended : Upto (suc (6 + j))
          ended = upto-more (6 + j) all (in_body (rw x))

          none : InForms ls (7 + j) → ⊥
          none (inl z) = conflict (sym z ∙ head-six (7 + j) (line_of ls (7 + j)) (omega arith))
          none (inr (_, f, _)) = conflict (sym x ∙ ap is_end (sym line) ∙ f (6 + j) (omega arith) (omega arith))

      -- it is, and none does
      all_right : is_end l ≡ true → length t ≡ 0 → NoneWrong ls
      all_right x none =
          let last : length ls - 1 ≡ 6 + j = omega (arith, left) in
          record {
            lines = λ i h. upto-more (6 + j) all (in_body (rw x)) i (omega (arith, left));
            size = omega (arith, left);
            ends = rw (last, line) x;
          }

  -- the lines of the body from line j of it on
  body-says : (j : ℕ) (rest : List (List ℕ)) → drop j (drop 6 ls) ≡ rest → Upto (6 + j) → NoEnd ls (6 + j)
      → Says ls (NoneWrong ls) (body_wrong (modes_of ls) (colours_of ls) (take j (drop 6 ls)) rest)
  unfolding body_wrong
  body-says j [] here all free =
      let size : length (drop j (drop 6 ls)) ≡ length ls - 6 - j = rw (length-drop j (drop 6 ls), length-drop 6 ls) in
      let over : length (drop j (drop 6 ls)) ≡ 0 = rw here in
      wrong (6 + j) (rw (count j all free) (omega arith)) (missing-first j all free (omega arith))
  body-says j (l ∷ t) here all free =
      go (is_end l) refl (may_stand (modes_of ls) (colours_of ls) (take j (drop 6 ls)) l) refl (body-says (suc j) t b.next)
    where
      b : Begins [] (drop 6 ls) j l t
      b = begins [] (drop 6 ls) j l t here

      ended : is_end l ≡ true → Says ls (NoneWrong ls) (cond (ltb 0 (length t)) (length (take j (drop 6 ls)) + 8) 0)
      ended x =
          elim (dec_le (length t) 0) [
            | yes h ↦ rw (le-ltb 0 (length t) h) (right refl (all_right j all free l t here x (omega arith)))
            | no h ↦ rw (lt-ltb 0 (length t) (omega arith), count j all free)
                (wrong (7 + j) (omega arith) (after_first j all free l t here x (omega arith)))
          ]

      go : (x : Bool) → is_end l ≡ x → (y : Bool) → may_stand (modes_of ls) (colours_of ls) (take j (drop 6 ls)) l ≡ y
          → (Upto (6 + suc j) → NoEnd ls (6 + suc j) → Says ls (NoneWrong ls) (body_wrong (modes_of ls) (colours_of ls) (take (suc j) (drop 6 ls)) t))
          → Says ls (NoneWrong ls) (cond x (cond (ltb 0 (length t)) (length (take j (drop 6 ls)) + 8) 0)
          (cond y (body_wrong (modes_of ls) (colours_of ls) (take j (drop 6 ls) ++ l ∷ []) t) (length (take j (drop 6 ls)) + 7)))
      go true x y z f = ended x
      go false x false z f = wrong (6 + j) (rw (count j all free) (omega arith)) (line_first j all free l t here x z)
      go false x true z f =
          let stood = upto-more (6 + j) all (in_body j all free l t here (rw (x, z))) in
          let none = end_more (6 + j) free (rw (line j all free l t here) x) in
          rw (← b.so-far) (f (λ i h. stood i (omega arith)) (λ i h g. none i h (omega arith)))

  -- line d of the head, and the number r where it is in its form
  head-line : (d r : ℕ) → d < 6 → Upto d → (Upto (suc d) → Says ls (Upto 6) r) → Says ls (Upto 6) (cond (not (is_head ls d)) (suc d) r)
  head-line d r h all f = go (is_head ls d) refl
    where
      go : (t : Bool) → is_head ls d ≡ t → Says ls (Upto 6) (cond (not t) (suc d) r)
      go true e = f (upto-more d all (inl e))
      go false e = wrong d refl (head_first d h all e)

  head-says : Says ls (Upto 6) (head_wrong ls)
  unfolding head_wrong
  head-says =
      head-line 0 _ (omega arith) (λ j h. absurd (omega arith))
      (λ a. head-line 1 _ (omega arith) a
      (λ a. head-line 2 _ (omega arith) a
      (λ a. head-line 3 _ (omega arith) a
      (λ a. head-line 4 _ (omega arith) a
      (λ a. head-line 5 _ (omega arith) a
      (λ a. right refl a))))))

  text_says : Says ls (NoneWrong ls) (hoa_wrong ls)
  unfolding hoa_wrong
  text_says = go (head_wrong ls) head-says
    where
      go : (h : ℕ) → Says ls (Upto 6) h → Says ls (NoneWrong ls) (cond (eqb h 0) (body_wrong (modes_of ls) (colours_of ls) [] (drop 6 ls)) h)
      go h (wrong d e f) = rw (ne_eqb h 0 (λ z. omega (arith, e, z))) (wrong d e f)
      go h (right e all) = rw e (body-says 0 (drop 6 ls) refl all (λ i h g. absurd (omega arith)))

  -- the number of a wrong line is that of the first
  pub hoa-first : (d : ℕ) → hoa_wrong ls ≡ suc d → FirstWrong ls d
  hoa-first d e = go text_says
    where
      go : Says ls (NoneWrong ls) (hoa_wrong ls) → FirstWrong ls d
      go (wrong x q f) = let same : x ≡ d = omega (arith, q, e) in subst (λ (i : ℕ). FirstWrong ls i) same f
      go (right q f) = absurd (omega (arith, q, e))

  -- no wrong line
  pub hoa-all : hoa_wrong ls ≡ 0 → NoneWrong ls
  hoa-all e = go text_says
    where
      go : Says ls (NoneWrong ls) (hoa_wrong ls) → NoneWrong ls
      go (wrong x q f) = absurd (omega (arith, q, e))
      go (right q f) = f

  no-earlier : (d e : ℕ) → FirstWrong ls d → FirstWrong ls e → e ≤ d
  no-earlier d e f g = elim (dec_le e d) [ yes h ↦ h | no h ↦ absurd (f.here (g.earlier d (omega arith))) ]

  -- there is only one first wrong line, and none where no line is wrong
  pub first_one : (d e : ℕ) → FirstWrong ls d → FirstWrong ls e → d ≡ e
  first_one d e f g = omega (arith, no-earlier d e f g, no-earlier e d g f)

  pub none_first : (d : ℕ) → NoneWrong ls → FirstWrong ls d → ⊥
  none_first d a f =
      elim (dec_le (length ls) d) [
        | yes h ↦
            let end : d ≡ length ls = omega (arith, f.within) in
            conflict (sym a.ends ∙ f.missing end (length ls - 1) (omega (arith, a.size)) (omega (arith, a.size)))
        | no h ↦ f.here (a.lines d (omega arith))
      ]

  -- and the other way round: the first wrong line gives the number, and no wrong line gives 0
  pub first-hoa : (d : ℕ) → FirstWrong ls d → hoa_wrong ls ≡ suc d
  first-hoa d f = go text_says
    where
      go : Says ls (NoneWrong ls) (hoa_wrong ls) → hoa_wrong ls ≡ suc d
      go (wrong x q g) = q ∙ ap suc (first_one x d g f)
      go (right q a) = absurd (none_first d a f)

  pub all-hoa : NoneWrong ls → hoa_wrong ls ≡ 0
  all-hoa a = go text_says
    where
      go : Says ls (NoneWrong ls) (hoa_wrong ls) → hoa_wrong ls ≡ 0
      go (wrong x q g) = absurd (none_first x a g)
      go (right q g) = q
