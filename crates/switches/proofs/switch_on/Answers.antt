-- `switches::switch_on` sets the bit of the arc. Assumes nothing.
use mathlib.Core.Path.{ap}
use mathlib.Core.List.{List}
use Prim.Native.Nat.{ℕ, ◌/◌, ◌%◌}
use native.Mathlib.Omega.{arith}
use lib.ListN.{get_or, set}
use Rattle.switches.specs.Switches.{switched}
use Rattle.switches.proofs.Turned.{shifted-set}
use Rattle.switches.proofs.switch_on.Goals as goal

pub returns : goal.returns
unfolding switched
returns c =
    let a = c.args.a in
    let on = c.args.on in
    ap {B = List ℕ} (set on (a / 64)) (shifted-set (get_or on (a / 64) 0) (a % 64) (omega arith))
