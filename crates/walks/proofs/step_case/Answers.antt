-- `walks::step_case` meets its contract: its tests are the facts of the cases. Assumes nothing.
use mathlib.Core.Path.{◌≡◌, sym, ap, ◌∙◌}
use Prim.Native.Nat.{◌+◌, ◌-◌, ◌≤◌}
use native.Mathlib.Omega.{arith}
use borrow.Author.Rules.{sfits_of}
use borrow.Author.Tests.{ltb-true, ltb-false}
use lib.Dec.{ltb}
use lib.IntN.{ℤ, pos, ◌+ℤ◌, ◌-ℤ◌}
use lib.Signed.{lt_z}
use mir.Syntax.{w32}
use mir.Val.{to_z, of_z}
use Rattle.walks.specs.declared.StepCase.{StepCase}
use Rattle.walks.specs.declared.StepCase.TheVariants.{TooLittle, Below, Exactly, Above}
use Rattle.walks.specs.BoundedStep.{Move}
use Rattle.walks.specs.Cases.{Falls, step_case}
use Rattle.walks.proofs.Cases.{falls-case}
use Rattle.walks.proofs.Sums.{tested, widened, Change, whole-made, room_word}
use Rattle.walks.proofs.step_case.Goals as goal
use Rattle.walks.proofs.step_case.Goals.{After-change_of-change, Start}

abbrev move : Start → Move
move s = record { draw = s.args.draw; gain = s.args.gain }

falls : (s : Start) (x : StepCase) → Falls x s.args.bound (move s) s.args.charge → x ≡ step_case s.args.bound (move s) s.args.charge
falls s x f = sym (falls-case s.args.bound (move s) s.args.charge x f)

pub returns-then-charge-draw : goal.returns-then-charge-draw
returns-then-charge-draw c = falls c.before TooLittle c.if-charge-draw.true

-- from the change to the start, and that the charge is at least the draw
abbrev start : After-change_of-change → Start
start d = d.before.before

possible : (d : After-change_of-change) → (start d).args.draw ≤ (start d).args.charge
possible d = d.if-charge-draw.false

change : (d : After-change_of-change) → Change (start d).args.gain (start d).args.draw d.change_of-change.result
change d =
    record { gain = (start d).ranges.gain; draw = (start d).ranges.draw; result = sfits_of d.change_of-change.type_inv; made = d.change_of-change.ensures }

-- the charge set against what leads to the bound
abbrev room : After-change_of-change → ℤ
room d = to_z w32 (start d).args.bound -ℤ to_z w32 (of_z w32 d.change_of-change.result)

below : (d : After-change_of-change) → let a = (start d).args in
    lt_z (to_z w32 a.charge) (to_z w32 (of_z w32 (room d))) ≡ ltb (a.charge + a.gain) (a.bound + a.draw)
below d =
    let a = (start d).args in
    let f = (start d).ranges in
    rw (widened f.charge, room_word (change d) f.bound) (tested a.bound a.charge a.gain a.draw)

pub returns-then-charge-room : goal.returns-then-charge-room
returns-then-charge-room c =
    let d = c.before in
    let a = (start d).args in
    let h = possible d in
    let k = ltb-true (a.charge + a.gain) (a.bound + a.draw) (sym (below d) ∙ c.if-charge-room.true) in
    falls (start d) Below (h, omega (arith, h, k))

-- charge - draw + gain
whole : (d : After-change_of-change) → let a = (start d).args in
    to_z w32 a.charge +ℤ to_z w32 (of_z w32 d.change_of-change.result) ≡ pos (a.charge - a.draw + a.gain)
whole d = whole-made (change d) (start d).ranges.charge (possible d)

pub returns-then-whole-bound : goal.returns-then-whole-bound
returns-then-whole-bound c = let d = c.before.before in falls (start d) Exactly (possible d, sym (ap (of_z w32) (whole d)) ∙ c.if-whole-bound.true)

pub returns : goal.returns
returns c =
    let d = c.before.before in
    let a = (start d).args in
    let h = possible d in
    let k = ltb-false (a.charge + a.gain) (a.bound + a.draw) (sym (below d) ∙ c.if-charge-room.false) in
    let other : (a.charge - a.draw + a.gain ≡ a.bound) → ⊥ = λ q. c.if-whole-bound.false (ap (of_z w32) (whole d) ∙ q) in
    falls (start d) Above (h, omega (arith, h, k, other))
