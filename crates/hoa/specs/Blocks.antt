-- What is known of the modes that have a block in the lines of a body so far. Document 02, Ask 1: "one block at most for each state".
use Rattle.std.specs.Prelude.{◌≡◌, false, cond, List, ℕ, suc, ◌^◌, ◌≤◌, ◌<◌, max, ltb}
use Rattle.std.specs.Int.Bits.{bit_or}
use Rattle.limits.specs.Ceilings.{modes_most}
use Rattle.model.specs.Automaton.{bit}
use Rattle.hoa.specs.declared.Blocks.{Blocks}
use Rattle.hoa.specs.Lines.{is_state, state_of}
use Rattle.hoa.specs.Text.{has_block}

-- no mode from top on has a block in these lines
abbrev pub BlocksBelow : ℕ → List (List ℕ) → Type 0
BlocksBelow top ls = (mode : ℕ) → top ≤ mode → has_block mode ls ≡ false

-- low: bit j says whether mode j has a block, for each mode that a fit model may have
pub record Knows (b : Blocks) (before : List (List ℕ)) : Type 0 where
  pub low : (mode : ℕ) → mode < modes_most → bit b.low mode ≡ has_block mode before
  pub top : BlocksBelow b.top before

-- no line yet
abbrev pub no_blocks : Blocks
no_blocks = record { low = 0; top = 0 }

-- the bits with the mode's own, where it has one
unfoldable pub low_with : ℕ → ℕ → ℕ
low_with low mode = cond (ltb mode modes_most) (bit_or low (2 ^ mode)) low

-- one line more
unfoldable pub blocks_after : Blocks → List ℕ → Blocks
blocks_after b l = cond (is_state l) (record { low = low_with b.low (state_of l); top = max b.top (suc (state_of l)) }) b
