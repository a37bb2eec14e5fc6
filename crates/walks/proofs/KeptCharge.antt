-- What a step keeps of the charge before gain and draw are counted: what leads to the bound at most. Assumes nothing.
use mathlib.Core.Path.{◌≡◌, ap, ◌∙◌}
use Prim.Native.Nat.{ℕ, ◌+◌, ◌-◌, ◌≤◌}
use native.Mathlib.Omega.{arith}
use lib.IntN.{ℤ, pos, ◌+ℤ◌, ◌-ℤ◌, -ℤ-+ℤ_cancel}
use Rattle.walks.specs.declared.StepCase.TheVariants.{Below, Exactly, Above}
use Rattle.walks.specs.BoundedStep.{Move, after, lost}
use Rattle.walks.specs.Cases.{Falls}
use Rattle.walks.proofs.Sums.{difference, drawn, room}

-- the charge that leads exactly to the bound, which may be below 0
abbrev pub room_of : ℕ → Move → ℤ
room_of b m = pos b -ℤ (pos m.gain -ℤ pos m.draw)

-- k, kept of the charge e, leads to the charge after the step, and the rest of e is what the step loses
pub record KeptCharge (b : ℕ) (m : Move) (e : ℕ) (k : ℤ) : Type 0 where
  pub possible : m.draw ≤ e
  pub reaches : k +ℤ (pos m.gain -ℤ pos m.draw) ≡ pos (after b m e)
  pub loses : pos e -ℤ k ≡ pos (lost b m e)

module _ {b : ℕ} {m : Move} {e : ℕ} where
  -- below the bound all of the charge is kept ..
  pub below-kept : Falls Below b m e → KeptCharge b m e (pos e)
  below-kept (h, k) =
      record {
        possible = h;
        reaches = drawn e m.gain m.draw h ∙ ap {B = ℤ} pos (omega arith);
        loses = difference e e (omega arith) ∙ ap {B = ℤ} pos (omega arith);
      }

  -- .. and else as much as leads exactly to the bound
  room-kept : m.draw ≤ e → b ≤ e - m.draw + m.gain → KeptCharge b m e (room_of b m)
  room-kept h k =
      let full = b + m.draw in
      record {
        possible = h;
        reaches = -ℤ-+ℤ_cancel (pos b) (pos m.gain -ℤ pos m.draw) ∙ ap {B = ℤ} pos (omega arith);
        loses =
            ap {B = ℤ} (λ y. pos e -ℤ y) (room b m.gain m.draw) ∙ room e full m.gain ∙ difference (e + m.gain) full (omega arith)
            ∙ ap {B = ℤ} pos (omega arith);
      }

  pub exactly-kept : Falls Exactly b m e → KeptCharge b m e (room_of b m)
  exactly-kept (h, k) = room-kept h (omega (arith, k))

  pub above_kept : Falls Above b m e → KeptCharge b m e (room_of b m)
  above_kept (h, k) = room-kept h (omega (arith, k))
