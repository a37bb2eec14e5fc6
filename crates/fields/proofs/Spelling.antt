-- The bytes that stand alone, as they are written. Assumes nothing.
use mathlib.Core.Path.{◌≡◌, refl}
use mathlib.Core.List.{List, [], ◌∷◌}
use Prim.Native.Nat.{ℕ}
use Prim.Native.Char.{code}
use Prim.Native.String.{String, [] as []ˢ, ◌∷◌ as ◌∷ˢ◌}
use Rattle.fields.specs.Bytes.{feed, blank, ampersand, minus, digit_zero, digit_nine}

-- the bytes of a text, for the characters below 128
unfoldable pub bytes : String → List ℕ
bytes []ˢ = []
bytes (c ∷ˢ s) = code c ∷ bytes s

pub bytes-spelled : bytes "\n &-09" ≡ feed ∷ blank ∷ ampersand ∷ minus ∷ digit_zero ∷ digit_nine ∷ []
unfolding bytes
bytes-spelled = refl
