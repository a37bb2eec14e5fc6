-- `judge::Shaped::check_colours` meets its contract: the lowest bit of what is missing is the lowest colour missing. Assumes nothing.
use mathlib.Core.Path.{◌≡◌, refl, sym}
use mathlib.Core.List.{List}
use Prim.Native.Nat.{ℕ, ◌-◌, ◌*◌, ◌%◌, ◌^◌, ◌≤◌, ◌<◌}
use native.Mathlib.Omega.{arith}
use lib.Bits.{bit_and, and_mask, mask_lt}
use Rattle.limits.specs.Ceilings.{colours_most}
use Rattle.model.specs.declared.Model.{Model}
use Rattle.model.specs.Fitness.{Holds}
use Rattle.model.specs.Lists.{held}
use Rattle.model.proofs.Bits.{one_shl}
use Rattle.judge.specs.Colours.{met_by}
use Rattle.judge.specs.Judged.{ArcNumbers}
use Rattle.judge.proofs.Arcs.{arcs-coloured}
use Rattle.judge.proofs.Masks.{met-below, none-missing, some-missing}
use Rattle.judge.proofs.Shaped.check_colours.Goals as goal

-- the masks of a model, as the code computes them
module _ (g : Model) (holds : Holds g) where
  few : g.colours ≤ colours_most
  few = holds.fit.few_colours

  -- the shift does not leave the word
  power : 1 * 2 ^ g.colours % 4294967296 ≡ 2 ^ g.colours
  power = one_shl g.colours (omega (arith, few))

  module _ (w : List ℕ) (arcs : ArcNumbers g w) where
    -- no other colour is met
    below : (m : ℕ) → m < 2 ^ g.colours → met_by (held g) w m < 2 ^ g.colours
    below m low = met-below (held g) g.colours w m (arcs-coloured g w arcs holds) low

    -- what is missing
    lacks : (y m : ℕ) → y ≡ met_by (held g) w m → 1 * 2 ^ g.colours % 4294967296 - 1 - y ≡ 2 ^ g.colours - 1 - met_by (held g) w m
    lacks y m e = rw (e, power) refl

-- the barred colours of the model, as the code masks them
passed : (g : Model) (holds : Holds g) (x : ℕ) → bit_and x (1 * 2 ^ g.colours % 4294967296 - 1) ≡ x % 2 ^ g.colours
passed g holds x = rw (power g holds) (and_mask x g.colours)

low : (g : Model) (holds : Holds g) (x : ℕ) → bit_and x (1 * 2 ^ g.colours % 4294967296 - 1) < 2 ^ g.colours
low g holds x = rw (power g holds) (mask_lt x g.colours)

pub overflow_sub-missing : goal.overflow_sub-missing
overflow_sub-missing c =
    let s = c.args.self.now in
    let g = s.model.now in
    omega (arith, power g s.fit, below g s.fit s.cycle.now s.turns _ (low g s.fit c.args.barred), c.met_colours.ensures)

pub returns-then-missing-eq0 : goal.returns-then-missing-eq0
returns-then-missing-eq0 c =
    let s = c.args.self.now in
    let g = s.model.now in
    let w = s.cycle.now in
    let x = c.args.barred in
    let h = s.fit in
    sym (none-missing (held g) x _ w (omega (arith, few g h)) (passed g h x) (below g h w s.turns _ (low g h x)) _
    (lacks g h w s.turns _ _ c.met_colours.ensures) c.if-missing-eq0.true)

pub returns : goal.returns
returns c =
    let s = c.args.self.now in
    let g = s.model.now in
    let w = s.cycle.now in
    let x = c.args.barred in
    let h = s.fit in
    sym (some-missing (held g) x _ w (omega (arith, few g h)) (passed g h x) (below g h w s.turns _ (low g h x)) _
    (lacks g h w s.turns _ _ c.met_colours.ensures) c.if-missing-eq0.false)
