-- `count_required` meets its contract: at every turn the required colours below j are counted. Assumes nothing.
use mathlib.Core.Path.{refl, sym, ap, ◌∙◌}
use Prim.Native.Nat.{ℕ, ◌+◌, ◌-◌, ◌/◌, ◌%◌, ◌^◌}
use native.Mathlib.Omega.{arith}
use Rattle.model.specs.Required.{required}
use Rattle.model.proofs.Required.{required-le, required-on}
use Rattle.deciding.proofs.count_required.Goals as goal

pub loop-j-init : goal.loop-j-init
unfolding required
loop-j-init c = refl

pub overflow_add-count : goal.overflow_add-count
overflow_add-count c = omega (arith, c.loop-j.invariant, required-le c.args.barred c.loop-j.j)

pub loop-j-preserved : goal.loop-j-preserved
loop-j-preserved c =
    let x = c.args.barred in
    let j = c.loop-j.j in
    rw c.from.ensures (ap {B = ℕ} (λ (i : ℕ). i + (1 - x / 2 ^ j % 2)) c.loop-j.invariant ∙ sym (required-on x j))
