-- `walks::bounded_step` meets its contract: what it keeps of the charge under each case leads to the charge after the step. Assumes nothing.
use mathlib.Core.Path.{◌≡◌, sym, ap, ◌∙◌, subst}
use native.Mathlib.Omega.{arith}
use lib.IntN.{ℤ, pos, nat_abs, ◌+ℤ◌, ◌-ℤ◌}
use mir.Facts.{to_z-of_z}
use mir.Syntax.{w32}
use mir.Val.{SFits, to_z, of_z}
use borrow.Author.Rules.{sfits_of}
use Rattle.walks.specs.declared.StepCase.{StepCase}
use Rattle.walks.specs.declared.StepCase.TheVariants.{TooLittle, Below, Exactly, Above}
use Rattle.walks.specs.BoundedStep.{Move, after, lost}
use Rattle.walks.specs.Cases.{Falls}
use Rattle.walks.proofs.Cases.{to-equal, case-falls}
use Rattle.walks.proofs.KeptCharge.{room_of, KeptCharge, below-kept, exactly-kept, above_kept}
use Rattle.walks.proofs.Sums.{widened, Change, change-word, room_word}
use Rattle.walks.proofs.Walks.{stepped-possible, stepped-impossible}
use Rattle.walks.proofs.bounded_step.Goals as goal
use Rattle.walks.proofs.bounded_step.Goals.{in-Below, in-Exactly, in-Above, After-change_of-change, After-step_case-case, Joined-case, Start}

abbrev move : Start → Move
move s = record { draw = s.args.draw; gain = s.args.gain }

change : (d : After-change_of-change) → Change d.args.gain d.args.draw d.change_of-change.result
change d =
    let f = d.ranges in
    record { gain = f.gain; draw = f.draw; result = sfits_of d.change_of-change.type_inv; made = d.change_of-change.ensures }

-- what the case means
falls : (c : After-step_case-case) (x : StepCase) → c.step_case-case.result ≡ x → let s = c.before.before in Falls x s.args.bound (move s) s.args.charge
falls c x q = let s = c.before.before in (case-falls s.args.bound (move s) s.args.charge x).0 (sym c.step_case-case.ensures ∙ q)

pub returns-in-TooLittle : goal.returns-in-TooLittle
returns-in-TooLittle c =
    let d = c.before in
    let s = d.before.before in
    sym (stepped-impossible s.args.bound (move s) s.args.charge (falls d TooLittle c.in-TooLittle.is))

-- from where the three possible cases meet to the change and to the start
abbrev changed : Joined-case → After-change_of-change
changed c = c.before.before

abbrev start : Joined-case → Start
start c = (changed c).before

-- what leads to the bound, as the code makes it
abbrev room : Joined-case → ℤ
room c = to_z w32 (start c).args.bound -ℤ to_z w32 (of_z w32 (changed c).change_of-change.result)

-- what is kept there leads to the charge after the step ..
abbrev Kept : Joined-case → ℤ → Type 0
Kept c = let s = start c in KeptCharge s.args.bound (move s) s.args.charge

-- .. where it is the charge, and where it is what leads to the bound
by-charge : (c : Joined-case) → to_z w32 c.match-case.kept-bits ≡ to_z w32 (start c).args.charge → Kept c (pos (start c).args.charge) → Kept c (to_z w32 c.match-case.kept-bits)
by-charge c q = subst (Kept c) (sym (q ∙ widened (start c).ranges.charge))

by-room : (c : Joined-case) → to_z w32 c.match-case.kept-bits ≡ to_z w32 (of_z w32 (room c)) → Kept c (room_of (start c).args.bound (move (start c))) → Kept c (to_z w32 c.match-case.kept-bits)
by-room c q = subst (Kept c) (sym (q ∙ room_word (change (changed c)) (start c).ranges.bound))

kept : (c : Joined-case) → Kept c (to_z w32 c.match-case.kept-bits)
kept c =
    elim c.match-case.branch [
      | in-Below w ↦ by-charge c w.kept-is (below-kept (falls c.before Below w.in-Below.is))
      | in-Exactly w ↦ by-room c w.kept-is (exactly-kept (falls c.before Exactly w.in-Exactly.is))
      | in-Above w ↦ by-room c w.kept-is (above_kept (falls c.before Above w.in-Above.is))
    ]

-- the sum, and what is lost, as the code makes them
abbrev sum : Joined-case → ℤ
sum c = to_z w32 c.match-case.kept-bits +ℤ to_z w32 (of_z w32 (changed c).change_of-change.result)

sum-made : (c : Joined-case) → let s = start c in sum c ≡ pos (after s.args.bound (move s) s.args.charge)
sum-made c = ap {B = ℤ} (λ z. to_z w32 c.match-case.kept-bits +ℤ z) (change-word (change (changed c))) ∙ (kept c).reaches

pub overflow_add-reached : goal.overflow_add-reached
overflow_add-reached c = subst (SFits w32) (sym (sum-made c)) (sfits_of (omega (arith, (start c).ranges.bound.fits)))

sum-word : (c : Joined-case) → let s = start c in to_z w32 (of_z w32 (sum c)) ≡ pos (after s.args.bound (move s) s.args.charge)
sum-word c = to_z-of_z (overflow_add-reached c) ∙ sum-made c

pub overflow_cast-reached : goal.overflow_cast-reached
overflow_cast-reached c = rw (sum-word c) (tt, record { fits = omega (arith, (start c).ranges.bound.fits) })

abbrev rest : Joined-case → ℤ
rest c = to_z w32 (start c).args.charge -ℤ to_z w32 c.match-case.kept-bits

rest-made : (c : Joined-case) → let s = start c in rest c ≡ pos (lost s.args.bound (move s) s.args.charge)
rest-made c = ap {B = ℤ} (λ z. z -ℤ to_z w32 c.match-case.kept-bits) (widened (start c).ranges.charge) ∙ (kept c).loses

pub overflow_sub-lost : goal.overflow_sub-lost
overflow_sub-lost c =
    let f = (start c).ranges in
    subst (SFits w32) (sym (rest-made c)) (sfits_of (omega (arith, f.charge.fits, f.gain.fits)))

rest-word : (c : Joined-case) → let s = start c in to_z w32 (of_z w32 (rest c)) ≡ pos (lost s.args.bound (move s) s.args.charge)
rest-word c = to_z-of_z (overflow_sub-lost c) ∙ rest-made c

pub overflow_cast-lost-2 : goal.overflow_cast-lost-2
overflow_cast-lost-2 c = let f = (start c).ranges in rw (rest-word c) (tt, record { fits = omega (arith, f.charge.fits, f.gain.fits) })

pub returns : goal.returns
returns c =
    let s = start c in
    to-equal (ap nat_abs (sum-word c)) (ap nat_abs (rest-word c))
    ∙ sym (stepped-possible s.args.bound (move s) s.args.charge (kept c).possible)
