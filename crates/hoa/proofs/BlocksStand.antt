-- A mode has a block only where a `State:` line says so, and a `State:` line of a mode without one stands after any lines: blocks may be empty and
-- stand in any order. Document 02, Ask 1. Assumes nothing.
use mathlib.Core.Path.{◌≡◌, refl, sym}
use mathlib.Core.Bool.{Bool, true, false, ◌||◌}
use mathlib.Core.List.{List, [], ◌∷◌}
use Prim.Native.Nat.{ℕ, suc, ◌≤◌, ◌<◌}
use native.Mathlib.Omega.{arith}
use lib.Dec.{eqb}
use lib.ListN.{length}
use borrow.Author.Tests.{lt-ltb, eqb-true}
use Rattle.fields.specs.Fields.{line_of}
use Rattle.fields.proofs.Pieces.{ended}
use Rattle.fields.proofs.Num.{numbered_word, numbered_is, numbered-says}
use Rattle.fields.proofs.Numbers.{both}
use Rattle.hoa.specs.Words.{state_word}
use Rattle.hoa.specs.Lines.{is_state, state_of}
use Rattle.hoa.specs.Text.{opens_block, has_block, is_new_block, may_stand}
use Rattle.hoa.proofs.EdgeLines.{conflict}

-- the line that opens the block
pub block_at : (m : ℕ) (ls : List (List ℕ)) → has_block m ls ≡ true
    → (j : ℕ) × (j < length ls) × (is_state (line_of ls j) ≡ true) × (m ≡ state_of (line_of ls j))
unfolding has_block opens_block
block_at m [] e = conflict (sym e)
block_at m (l ∷ ls) e = go (opens_block m l) refl e (block_at m ls)
  where
    go : (t : Bool) → opens_block m l ≡ t → (t || has_block m ls) ≡ true
        → (has_block m ls ≡ true → (j : ℕ) × (j < length ls) × (is_state (line_of ls j) ≡ true) × (m ≡ state_of (line_of ls j)))
        → (j : ℕ) × (j < suc (length ls)) × (is_state (line_of (l ∷ ls) j) ≡ true) × (m ≡ state_of (line_of (l ∷ ls) j))
    go true z r f = let (a, b) = both (is_state l) (eqb m (state_of l)) z in (0, omega arith, a, eqb-true m (state_of l) b)
    go false z r f = let (j, h, a, b) = f r in (suc j, omega arith, a, b)

pub state-stands : (n k s : ℕ) (before : List (List ℕ)) → n ≤ 100000 → s < n → has_block s before ≡ false
    → may_stand n k before (ended (numbered_word state_word s)) ≡ true
unfolding may_stand is_new_block
state-stands n k s before many h e = rw (numbered_is state_word s (omega arith), numbered-says state_word s (omega arith), lt-ltb s n h, e) refl
