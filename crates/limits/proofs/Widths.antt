-- Ceilings that are the last number of so many bits. Assumes nothing.
use mathlib.Core.Path.{◌≡◌, refl}
use Prim.Native.Nat.{suc, ◌^◌}
use Rattle.limits.specs.Ceilings.{action_most, spill_most}

-- document 02, Ask 5: "Give every arc an action byte, 0 to 15"
pub action-bits : suc action_most ≡ 2 ^ 4
action-bits = refl

-- document 02, Ask 2: "kept as a 64-bit number"
pub spill-bits : suc spill_most ≡ 2 ^ 64
spill-bits = refl
