-- The colours in braces, piece by piece. Assumes nothing.
use mathlib.Core.Path.{◌≡◌, refl, sym, ap, ◌∙◌}
use mathlib.Core.Bool.{Bool, true, false, cond, ◌&&◌}
use mathlib.Core.List.{List, [], ◌∷◌, map}
use Prim.Native.Nat.{ℕ, zero, suc, ◌+◌, ◌^◌, ◌<◌}
use native.Mathlib.Omega.{arith}
use lib.Dec.{ltb, eqb}
use borrow.Author.Tests.{le-ltb}
use Rattle.limits.specs.Ceilings.{colours_most}
use Rattle.model.specs.Automaton.{bit}
use Rattle.model.proofs.Bits.{colours-below}
use Rattle.fields.specs.Fields.{number_of}
use Rattle.std.specs.List.{list_any}
use Rattle.hoa.specs.Text.{contains, colour_byte}

-- a colour among the pieces is one that some piece says
pub contains-any : (x : ℕ) (ps : List (List ℕ)) → contains x (map number_of ps) ≡ list_any (λ p. eqb x (number_of p)) ps
unfolding contains
contains-any x [] = refl
contains-any x (p ∷ ps) = rw (contains-any x ps)

-- a byte of four bits
byte-bits : (p q r s : Bool) → (x : ℕ) × (x ≡ cond p 1 0 + cond q 2 0 + cond r 4 0 + cond s 8 0)
    × (bit x 0 ≡ p) × (bit x 1 ≡ q) × (bit x 2 ≡ r) × (bit x 3 ≡ s) × (x < 2 ^ colours_most)
byte-bits false false false false = (0, refl, refl, refl, refl, refl, omega arith)
byte-bits true false false false = (1, refl, refl, refl, refl, refl, omega arith)
byte-bits false true false false = (2, refl, refl, refl, refl, refl, omega arith)
byte-bits true true false false = (3, refl, refl, refl, refl, refl, omega arith)
byte-bits false false true false = (4, refl, refl, refl, refl, refl, omega arith)
byte-bits true false true false = (5, refl, refl, refl, refl, refl, omega arith)
byte-bits false true true false = (6, refl, refl, refl, refl, refl, omega arith)
byte-bits true true true false = (7, refl, refl, refl, refl, refl, omega arith)
byte-bits false false false true = (8, refl, refl, refl, refl, refl, omega arith)
byte-bits true false false true = (9, refl, refl, refl, refl, refl, omega arith)
byte-bits false true false true = (10, refl, refl, refl, refl, refl, omega arith)
byte-bits true true false true = (11, refl, refl, refl, refl, refl, omega arith)
byte-bits false false true true = (12, refl, refl, refl, refl, refl, omega arith)
byte-bits true false true true = (13, refl, refl, refl, refl, refl, omega arith)
byte-bits false true true true = (14, refl, refl, refl, refl, refl, omega arith)
byte-bits true true true true = (15, refl, refl, refl, refl, refl, omega arith)

-- "a colour byte whose bit j says that the arc meets colour j": the bits of the byte are the colours in the braces, for the four that a model may
-- have, and no others
pub colour-bit : (cs : List ℕ) (j : ℕ) → bit (colour_byte cs) j ≡ (ltb j colours_most && contains j cs)
unfolding colour_byte
colour-bit cs j =
    let (x, e, b0, b1, b2, b3, low) = byte-bits (contains 0 cs) (contains 1 cs) (contains 2 cs) (contains 3 cs) in
    ap {B = Bool} (λ (y : ℕ). bit y j) (sym e) ∙ go x b0 b1 b2 b3 low j
  where
    go : (x : ℕ) → bit x 0 ≡ contains 0 cs → bit x 1 ≡ contains 1 cs → bit x 2 ≡ contains 2 cs → bit x 3 ≡ contains 3 cs → x < 2 ^ colours_most
        → (j : ℕ) → bit x j ≡ (ltb j colours_most && contains j cs)
    go x b0 b1 b2 b3 low zero = b0
    go x b0 b1 b2 b3 low (suc zero) = b1
    go x b0 b1 b2 b3 low (suc (suc zero)) = b2
    go x b0 b1 b2 b3 low (suc (suc (suc zero))) = b3
    go x b0 b1 b2 b3 low (suc (suc (suc (suc j)))) =
        let high = suc (suc (suc (suc j))) in
        rw (le-ltb high colours_most (omega arith)) ((colours-below x colours_most).0 low high (omega arith))
