-- The ways a line stands in a body that is right. Assumes nothing.
use mathlib.Core.Path.{◌≡◌, refl, sym, ◌∙◌}
use mathlib.Core.Bool.{Bool, true, false, cond, not, ◌&&◌, and-false, or-false}
use mathlib.Core.List.{List, [], ◌∷◌, ◌++◌}
use Prim.Native.Nat.{ℕ, suc, ◌+◌, ◌<◌}
use native.Mathlib.Omega.{arith}
use lib.Dec.{ltb, eqb}
use lib.ListN.{length, drop}
use borrow.Author.Tests.{ltb-true, eqb-false, lt-ltb, not-true}
use Rattle.fields.proofs.Places.{Begins, begins}
use Rattle.fields.proofs.Numbers.{both}
use Rattle.hoa.specs.Lines.{is_state, state_of, is_edge}
use Rattle.hoa.specs.Text.{has_block, is_new_block, may_stand, is_end, body_wrong, head_wrong, hoa_wrong, modes_of, colours_of}
use Rattle.hoa.proofs.EdgeLines.{state-no-edge}

-- The ways a line stands in a body that is right: the last line, a new block, an edge's line after some other.
pub data Stands (n k : ℕ) (before : List (List ℕ)) (l : List ℕ) (t : List (List ℕ)) : Type 0 where
  last : is_end l ≡ true → t ≡ [] → Stands n k before l t
  block : is_end l ≡ false → is_state l ≡ true → state_of l < n → has_block (state_of l) before ≡ false → body_wrong n k (before ++ l ∷ []) t ≡ 0
      → Stands n k before l t
  edge : is_end l ≡ false → is_state l ≡ false → 0 < length before → is_edge n k l ≡ true → body_wrong n k (before ++ l ∷ []) t ≡ 0
      → Stands n k before l t

module _ (n k : ℕ) (before : List (List ℕ)) (l : List ℕ) (t : List (List ℕ)) where
  may-edge : is_state l ≡ false → may_stand n k before l ≡ true → (0 < length before) × (is_edge n k l ≡ true)
  unfolding may_stand is_new_block
  may-edge s e =
      let (some, right) = both (ltb 0 (length before)) (is_edge n k l) (rw s at e) in
      (ltb-true 0 (length before) some, right)

  may-block : is_state l ≡ true → may_stand n k before l ≡ true → (state_of l < n) × (has_block (state_of l) before ≡ false)
  unfolding may_stand is_new_block
  may-block s e =
      let new = sym (or-false (ltb (state_of l) n && not (has_block (state_of l) before)))
      ∙ (rw (s, state-no-edge n k l s, and-false (ltb 0 (length before))) at e) in
      let (low, none) = both (ltb (state_of l) n) (not (has_block (state_of l) before)) new in
      (ltb-true (state_of l) n low, not-true _ none)

  over : (ls : List (List ℕ)) → cond (ltb 0 (length ls)) (length before + 8) 0 ≡ 0 → ls ≡ []
  over [] e = refl
  over (x ∷ ls) e = absurd (let z : length before + 8 ≡ 0 = rw (lt-ltb 0 (suc (length ls)) (omega arith)) at e in omega (arith, z))

  pub stands : body_wrong n k before (l ∷ t) ≡ 0 → Stands n k before l t
  unfolding body_wrong
  stands e = go (is_end l) refl (may_stand n k before l) refl (is_state l) refl e
    where
      go : (a : Bool) → is_end l ≡ a → (b : Bool) → may_stand n k before l ≡ b → (c : Bool) → is_state l ≡ c
          → cond a (cond (ltb 0 (length t)) (length before + 8) 0) (cond b (body_wrong n k (before ++ l ∷ []) t) (length before + 7)) ≡ 0
          → Stands n k before l t
      go true x b y c z e = last x (over t e)
      go false x false y c z e = absurd (omega (arith, e))
      go false x true y true z e = let (low, none) = may-block z y in block x z low none e
      go false x true y false z e = let (some, right) = may-edge z y in edge x z some right e

-- a body that is right has a line
pub some-line : (n k : ℕ) (before rest : List (List ℕ)) → body_wrong n k before rest ≡ 0 → 0 < length rest
unfolding body_wrong
some-line n k before [] e = absurd (omega (arith, e))
some-line n k before (l ∷ t) e = omega arith

-- the body of a text that is right
pub right-body : (ls : List (List ℕ)) → hoa_wrong ls ≡ 0 → body_wrong (modes_of ls) (colours_of ls) [] (drop 6 ls) ≡ 0
unfolding hoa_wrong
right-body ls e = go (eqb (head_wrong ls) 0) refl e
  where
    go : (t : Bool) → eqb (head_wrong ls) 0 ≡ t → cond t (body_wrong (modes_of ls) (colours_of ls) [] (drop 6 ls)) (head_wrong ls) ≡ 0
        → body_wrong (modes_of ls) (colours_of ls) [] (drop 6 ls) ≡ 0
    go true z r = r
    go false z r = absurd (eqb-false (head_wrong ls) 0 z r)

-- line j of a body, and the lines after it
pub at-line : (ls : List (List ℕ)) (j : ℕ) (l : List ℕ) (t : List (List ℕ)) → drop (6 + j) ls ≡ l ∷ t → Begins [] ls (6 + j) l t
at-line ls j l t here = begins [] ls (6 + j) l t here

pub next-line : (ls : List (List ℕ)) (j : ℕ) (l : List ℕ) (t : List (List ℕ)) → drop (6 + j) ls ≡ l ∷ t → drop (6 + suc j) ls ≡ t
next-line ls j l t here =
    let same : 6 + suc j ≡ suc (6 + j) = omega arith in
    rw same (at-line ls j l t here).next
