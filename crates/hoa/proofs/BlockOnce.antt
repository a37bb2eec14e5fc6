-- "one block at most for each state": two `State:` lines of a text that is right have two modes. Assumes nothing.
use mathlib.Core.Path.{◌≡◌, refl, sym, ◌∙◌}
use mathlib.Core.Bool.{Bool, true, false, cond, or-true}
use mathlib.Core.List.{List, [], ◌∷◌, ◌++◌}
use Prim.Native.Nat.{ℕ, suc, ◌+◌, ◌-◌, ◌≤◌, ◌<◌}
use native.Mathlib.Decide.{dec_le}
use native.Mathlib.Omega.{arith}
use lib.Dec.{eqb}
use lib.ListN.{length, drop, length-drop, get_or-eq_default}
use borrow.Author.Tests.{eqb-true, eq-eqb}
use Rattle.fields.specs.Bytes.{feed}
use Rattle.fields.specs.Fields.{after_word, is_only, after_number, is_plain, digit_count, line_of}
use Rattle.hoa.specs.Lines.{is_state, state_of}
use Rattle.hoa.specs.Text.{opens_block, has_block, is_end, body_wrong, hoa_wrong, modes_of, colours_of}
use Rattle.hoa.proofs.EdgeLines.{conflict}
use Rattle.hoa.proofs.Stands.{Stands, last, block, edge, stands, some-line, right-body, at-line, next-line}
use Rattle.hoa.proofs.BlockLines.{block_more}

-- no line, and the last, opens a block
none-state : is_state [] ≡ false
unfolding after_word is_only after_number is_plain digit_count
none-state = refl

pub end-no-state : (l : List ℕ) → is_end l ≡ true → is_state l ≡ false
unfolding after_word is_only after_number is_plain digit_count
end-no-state [] e = refl
end-no-state (x ∷ l) e = go (eqb x 45) refl e
  where
    go : (t : Bool) → eqb x 45 ≡ t → is_only feed (cond t (after_word (45 ∷ 69 ∷ 78 ∷ 68 ∷ 45 ∷ 45 ∷ []) l) []) ≡ true → is_state (x ∷ l) ≡ false
    go true z r = rw (eqb-true x 45 z)
    go false z r = conflict (sym r)

-- blocks of one line more
kept : (m : ℕ) (ls : List (List ℕ)) (l : List ℕ) → has_block m ls ≡ true → has_block m (ls ++ l ∷ []) ≡ true
kept m ls l e = block_more m ls l ∙ rw e

added : (ls : List (List ℕ)) (l : List ℕ) → is_state l ≡ true → has_block (state_of l) (ls ++ l ∷ []) ≡ true
unfolding opens_block
added ls l e = block_more (state_of l) ls l ∙ rw (e, eq-eqb (state_of l) (state_of l) refl) (or-true (has_block (state_of l) ls))

module _ (ls : List (List ℕ)) (n k : ℕ) where
  -- line j of the body, and the lines after it
  module _ (j : ℕ) (l : List ℕ) (t : List (List ℕ)) (here : drop (6 + j) ls ≡ l ∷ t) where
    -- no `State:` line from the last line on
    ended : is_end l ≡ true → t ≡ [] → (y : ℕ) → 6 + j ≤ y → is_state (line_of ls y) ≡ false
    ended e none y h =
        elim (dec_le y (6 + j)) [
          | yes g ↦ let same : y ≡ 6 + j = omega arith in rw (same, (at-line ls j l t here).here) (end-no-state l e)
          | no g ↦ past (omega arith)
        ]
      where
        past : 6 + j < y → is_state (line_of ls y) ≡ false
        past g =
            let size : length (drop (6 + j) ls) ≡ length ls - (6 + j) = length-drop (6 + j) ls in
            let one : length (drop (6 + j) ls) ≡ 1 = rw (here, none) in
            rw (get_or-eq_default ls [] {n = y} (omega arith)) none-state

  -- a mode that has a block in the lines before has none from line j of the body on
  no_more : (m j : ℕ) (before rest : List (List ℕ)) → drop (6 + j) ls ≡ rest → body_wrong n k before rest ≡ 0 → has_block m before ≡ true
      → (y : ℕ) → 6 + j ≤ y → is_state (line_of ls y) ≡ true → m ≡ state_of (line_of ls y) → ⊥
  no_more m j before [] here e had y h z q = absurd (omega (arith, some-line n k before [] e))
  no_more m j before (l ∷ t) here e had y h z q =
      go (stands n k before l t e) (λ r g. no_more m (suc j) (before ++ l ∷ []) t (next-line ls j l t here) r (kept m before l had) y g z q)
    where
      at : y ≤ 6 + j → line_of ls y ≡ l
      at g = let same : y ≡ 6 + j = omega arith in rw same (at-line ls j l t here).here

      go : Stands n k before l t → (body_wrong n k (before ++ l ∷ []) t ≡ 0 → 6 + suc j ≤ y → ⊥) → ⊥
      go (last x w) ih = conflict (sym z ∙ ended j l t here x w y h)
      go (block x w low new r) ih =
          elim (dec_le y (6 + j)) [
            | yes g ↦ conflict (sym had ∙ rw (q, at g) new)
            | no g ↦ ih r (omega arith)
          ]
      go (edge x w some right r) ih =
          elim (dec_le y (6 + j)) [
            | yes g ↦ conflict (sym z ∙ rw (at g) w)
            | no g ↦ ih r (omega arith)
          ]

  -- two `State:` lines x and y from line j of the body on
  two : (j : ℕ) (before rest : List (List ℕ)) → drop (6 + j) ls ≡ rest → body_wrong n k before rest ≡ 0 → (x y : ℕ) → 6 + j ≤ x → x < y
      → is_state (line_of ls x) ≡ true → is_state (line_of ls y) ≡ true → state_of (line_of ls x) ≡ state_of (line_of ls y) → ⊥
  two j before [] here e x y h g z w q = absurd (omega (arith, some-line n k before [] e))
  two j before (l ∷ t) here e x y h g z w q =
      go (stands n k before l t e) (λ r g. two (suc j) (before ++ l ∷ []) t (next-line ls j l t here) r x y g)
    where
      at : x ≤ 6 + j → line_of ls x ≡ l
      at g = let same : x ≡ 6 + j = omega arith in rw same (at-line ls j l t here).here

      go : Stands n k before l t
          → (body_wrong n k (before ++ l ∷ []) t ≡ 0 → 6 + suc j ≤ x → x < y → is_state (line_of ls x) ≡ true → is_state (line_of ls y) ≡ true
          → state_of (line_of ls x) ≡ state_of (line_of ls y) → ⊥)
          → ⊥
      go (last a b) ih = conflict (sym z ∙ ended j l t here a b x h)
      go (block a b low new r) ih =
          elim (dec_le x (6 + j)) [
            | yes f ↦ no_more (state_of l) (suc j) (before ++ l ∷ []) t (next-line ls j l t here) r (added before l b) y (omega arith) w
                (rw (at f) at q)
            | no f ↦ ih r (omega arith) g z w q
          ]
      go (edge a b some right r) ih =
          elim (dec_le x (6 + j)) [
            | yes f ↦ conflict (sym z ∙ rw (at f) b)
            | no f ↦ ih r (omega arith) g z w q
          ]

pub block-once : (ls : List (List ℕ)) → hoa_wrong ls ≡ 0 → (x y : ℕ) → 6 ≤ x → x < y → is_state (line_of ls x) ≡ true
    → is_state (line_of ls y) ≡ true → state_of (line_of ls x) ≡ state_of (line_of ls y) → ⊥
block-once ls e x y h = two ls (modes_of ls) (colours_of ls) 0 [] (drop 6 ls) refl (right-body ls e) x y h
