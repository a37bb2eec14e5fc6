-- `switches::is_on` tells the bit of the arc. Assumes nothing.
use mathlib.Core.Path.{refl}
use Rattle.switches.specs.Switches.{is_on}
use Rattle.switches.proofs.Turned.{shifted_test}
use Rattle.switches.proofs.is_on.Goals as goal

pub returns : goal.returns
unfolding is_on
returns c = rw shifted_test refl
