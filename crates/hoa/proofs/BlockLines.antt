-- The blocks in the first lines of a body. Assumes nothing.
use mathlib.Core.Path.{◌≡◌, refl, sym, ◌∙◌}
use mathlib.Core.Bool.{Bool, true, false, cond, ◌||◌, or-false}
use mathlib.Core.List.{List, [], ◌∷◌, ◌++◌}
use Prim.Native.Nat.{ℕ, suc, ◌^◌, ◌<◌, max}
use native.Mathlib.Nat.{div-eq_of_lt}
use native.Mathlib.Decide.{ℕ_discrete}
use native.Mathlib.Omega.{arith}
use lib.Bits.{bit_or}
use lib.Dec.{eqb, ltb}
use lib.Pow.{pow_pos}
use borrow.Author.Tests.{ltb-false, eq-eqb, ne_eqb}
use Rattle.std.specs.List.{list_any}
use Rattle.limits.specs.Ceilings.{modes_most}
use Rattle.model.specs.Automaton.{bit}
use Rattle.model.proofs.Bits.{power-bit, or-bit}
use Rattle.hoa.specs.declared.Blocks.{Blocks}
use Rattle.hoa.specs.Text.{opens_block, has_block}
use Rattle.hoa.specs.Blocks.{Knows, no_blocks, low_with, blocks_after}
use Rattle.hoa.specs.Lines.{is_state, state_of}

-- some line of these opens the block
pub block-any : (m : ℕ) (ls : List (List ℕ)) → has_block m ls ≡ list_any (opens_block m) ls
unfolding has_block
block-any m [] = refl
block-any m (l ∷ ls) = rw (block-any m ls)

-- blocks of one line more
pub block_more : (m : ℕ) (ls : List (List ℕ)) (l : List ℕ) → has_block m (ls ++ l ∷ []) ≡ (has_block m ls || opens_block m l)
unfolding has_block
block_more m [] l = or-false (opens_block m l)
block_more m (x ∷ ls) l = rw (block_more m ls l) (assoc (opens_block m x))
  where
    assoc : (t : Bool) → (t || (has_block m ls || opens_block m l)) ≡ (t || has_block m ls || opens_block m l)
    assoc true = refl
    assoc false = refl

-- no lines, no block
pub knows-none : Knows no_blocks []
unfolding has_block
knows-none = record { low = λ m h. rw (div-eq_of_lt (pow_pos m)) refl; top = λ m h. refl }

eqb_comm : (x y : ℕ) → eqb x y ≡ eqb y x
eqb_comm x y = elim (ℕ_discrete x y) [
  | yes q ↦ eq-eqb x y q ∙ sym (eq-eqb y x (sym q))
  | no q ↦ ne_eqb x y q ∙ sym (ne_eqb y x (λ z. q (sym z)))
]

-- the bit of a mode, with that of mode x
low_bit : (low x m : ℕ) → m < modes_most → bit (low_with low x) m ≡ (bit low m || eqb m x)
unfolding low_with
low_bit low x m h = go (ltb x modes_most) refl
  where
    go : (t : Bool) → ltb x modes_most ≡ t → bit (cond t (bit_or low (2 ^ x)) low) m ≡ (bit low m || eqb m x)
    go true e = or-bit low (2 ^ x) m ∙ rw (power-bit x m, eqb_comm x m) refl
    go false e = rw (ne_eqb m x (λ z. omega (arith, ltb-false x modes_most e, z))) (sym (or-false (bit low m)))

-- one line more
pub knows_more : (b : Blocks) (ls : List (List ℕ)) (l : List ℕ) → Knows b ls → Knows (blocks_after b l) (ls ++ l ∷ [])
unfolding blocks_after opens_block
knows_more b ls l k = go (is_state l) refl
  where
    none : (m : ℕ) → is_state l ≡ false → has_block m (ls ++ l ∷ []) ≡ has_block m ls
    none m e = block_more m ls l ∙ rw e (or-false (has_block m ls))

    some : (m : ℕ) → is_state l ≡ true → has_block m (ls ++ l ∷ []) ≡ (has_block m ls || eqb m (state_of l))
    some m e = block_more m ls l ∙ rw e refl

    go : (t : Bool) → is_state l ≡ t
        → Knows (cond t (record { low = low_with b.low (state_of l); top = max b.top (suc (state_of l)) }) b) (ls ++ l ∷ [])
    go true e = record {
      low = λ m h. low_bit b.low (state_of l) m h ∙ rw (k.low m h) (sym (some m e));
      top = λ m h. some m e ∙ rw (k.top m (omega arith), ne_eqb m (state_of l) (λ z. omega (arith, z))) refl;
    }
    go false e = record { low = λ m h. k.low m h ∙ sym (none m e); top = λ m h. none m e ∙ k.top m h }
