-- `switches::switch_off` clears the bit of the arc. Assumes nothing.
use mathlib.Core.Path.{ap}
use mathlib.Core.List.{List}
use Prim.Native.Nat.{ℕ, ◌/◌, ◌%◌}
use native.Mathlib.Omega.{arith}
use borrow.Author.Rules.{rules}
use lib.ListN.{get_or, set}
use mir.Syntax.{w64}
use mir.Val.{Fits}
use Rattle.switches.specs.Switches.{switched}
use Rattle.switches.proofs.Turned.{shifted-clear}
use Rattle.switches.proofs.switch_off.Goals as goal

pub returns : goal.returns
unfolding switched
returns c =
    let a = c.args.a in
    let on = c.args.on in
    let fits : Fits w64 (get_or on (a / 64) 0) = search rules in
    ap {B = List ℕ} (set on (a / 64)) (shifted-clear (get_or on (a / 64) 0) (a % 64) fits.fits (omega arith))
