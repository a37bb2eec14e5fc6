-- What holds of every verdict that judging gives of a plan: of yes, and of 11 to 16, 24 and 17 with the details that each can have. Assumes nothing.
use Rattle.std.specs.Prelude.{Option, Some, None}
use Rattle.std.specs.Prelude.{Ok, Err}
use Rattle.refusals.specs.Refusals.{Verdict}
use mathlib.Core.Bool.{not, ◌&&◌, ◌||◌}
use mathlib.Core.List.{List, [], ◌∷◌}
use Prim.Native.Nat.{ℕ, suc, ◌+◌, ◌*◌, ◌≤◌, ◌<◌}
use native.Mathlib.Nat.{add-zero, sub-zero}
use native.Mathlib.Omega.{arith}
use lib.Dec.{ltb, eqb}
use lib.ListN.{length, take, length-drop, length-take}
use Rattle.limits.specs.Ceilings.{colours_most, plan_most}
use Rattle.walks.specs.declared.Step.{Step}
use Rattle.walks.specs.BoundedStep.{stepped}
use Rattle.refusals.specs.declared.Refusal.TheVariants.{PlanLength, ArcNumber, OtherMode, OpenCycle, ImpossibleStep, FallingCycle, MissingColour, BarredColour}
use Rattle.refusals.proofs.Each.{refuse-each, then-each, scan-each}
use Rattle.model.specs.Automaton.{Automaton, arc_at, bit, meets, move_of}
use Rattle.model.specs.Plans.{Plan}
use Rattle.judge.specs.Shape.{plan_of, length_of, numbers, numbers_then_chain, mode_after, closing, shape}
use Rattle.judge.specs.Charges.{ran_on, ran, after_ran, second_round, rounds, charges}
use Rattle.judge.specs.Colours.{some_arc, barred_from, colours_of, accepted_of}
use Rattle.judge.specs.Judged.{serves_of, judged_plan}
use Rattle.judge.proofs.Firsts.{numbers-scan, chain-scan, missing-scan, barred-scan}
use Rattle.judge.proofs.Shapes.{length-yes, shape-yes}

-- P holds of yes, and of each refusal of a plan
pub record OfPlans (P : Verdict → Type 0) : Type 0 where
  pub of_yes : P (Ok tt)
  pub of_length : P (Err PlanLength)
  pub of_number : (d : ℕ) → d < plan_most → P (Err (ArcNumber d))
  pub of_mode : (d : ℕ) → d < plan_most → P (Err (OtherMode d))
  pub of_open : P (Err OpenCycle)
  pub of_step : (d : ℕ) → d < 2 * plan_most → P (Err (ImpossibleStep d))
  pub of_falling : P (Err FallingCycle)
  pub of_barred : (d : ℕ) → d < plan_most → P (Err (BarredColour d))
  pub of_missing : (j : ℕ) → j < colours_most → P (Err (MissingColour j))

module _ (P : Verdict → Type 0) (h : OfPlans P) (g : Automaton) where
  -- 11
  length-each : (p q long : ℕ) → P (length_of p q long)
  unfolding length_of
  length-each p q long = refuse-each P (eqb q 0 || not (eqb (p + q) long) || ltb plan_most long) PlanLength h.of_length h.of_yes

  -- 12 and 13
  chain-each : (s : ℕ) (w : List ℕ) → length w ≤ plan_most → P (numbers_then_chain g s w 0)
  chain-each s w short =
      then-each P (numbers (length g.arcs) w 0)
      (scan-each P (numbers-scan (length g.arcs) w) h.of_yes λ d i. h.of_number d (omega arith)) λ _.
      scan-each P (chain-scan g s w) h.of_yes λ d i. h.of_mode d (omega arith)

  -- 14
  closing-each : (p : ℕ) (w : List ℕ) → P (closing g p w)
  unfolding closing
  closing-each p w =
      refuse-each P (not (eqb (mode_after g g.start (take p w)) (mode_after g g.start w))) OpenCycle h.of_open h.of_yes

  -- 11 to 14
  shape-each : (p q : ℕ) (w : List ℕ) → P (shape g p q w)
  unfolding shape
  shape-each p q w =
      then-each P (length_of p q (length w)) (length-each p q (length w)) λ e.
      then-each P (numbers_then_chain g g.start w 0) (chain-each g.start w ((length-yes p q w).0 e).short) λ _.
      closing-each p w

  -- 15 of a list whose first step has the number i, and of what follows it
  ran-each : (b : ℕ) (w : List ℕ) (i e : ℕ) {f : ℕ → Verdict} → i + length w ≤ 2 * plan_most → ((y : ℕ) → P (f y)) → P (after_ran (ran g b w i e) f)
  unfolding ran
  ran-each b [] i e low after = after e
  ran-each b (a ∷ w) i e {f} low after = on (stepped b (move_of (arc_at g a)) e) λ y. ran-each b w (suc i) y (omega arith) after
    where
      on : (s : Option Step) → ((y : ℕ) → P (after_ran (ran g b w (suc i) y) f)) → P (after_ran (ran_on s i (ran g b w (suc i))) f)
      on (Some u) ih = ih u.charge
      on None ih = h.of_step i (omega arith)

  -- 15 and 16
  charges-each : (b c : ℕ) (p : Plan) → length p.prefix + 2 * length p.cycle ≤ 2 * plan_most → P (charges g b c p)
  unfolding charges rounds second_round
  charges-each b c p low =
      ran-each b p.prefix 0 c (omega arith) λ e.
      ran-each b p.cycle (length p.prefix) e (omega arith) λ y.
      ran-each b p.cycle (length p.prefix + length p.cycle) y (omega arith) λ z.
      refuse-each P (ltb y e && ltb z y) FallingCycle h.of_falling h.of_yes

  -- 24, of a list whose first arc has the position i
  barred-each : (x : ℕ) (w : List ℕ) (i : ℕ) → i + length w ≤ plan_most → P (barred_from g x w i)
  barred-each x w i low = rw add-zero at (scan-each P (barred-scan g x w i) h.of_yes λ k q. h.of_barred (i + k) (omega arith))

  -- 17
  colours-each : (x : ℕ) (w : List ℕ) → g.colours ≤ colours_most → P (colours_of g x w)
  unfolding colours_of
  colours-each x w few =
      rw sub-zero at (scan-each P (missing-scan (λ j. bit x j || some_arc (meets g j) w) g.colours) h.of_yes λ j i. h.of_missing j (omega arith))

  -- 11 to 16, 24 and 17
  pub plan-each : (x b c p q : ℕ) (w : List ℕ) → g.colours ≤ colours_most → P (judged_plan g x b c p q w)
  unfolding judged_plan serves_of accepted_of
  plan-each x b c p q w few =
      let m = plan_of p w in
      then-each P (shape g p q w) (shape-each p q w) λ e.
      let short = ((shape-yes g p q w).0 e).0.short in
      then-each P (charges g b c m) (charges-each b c m (omega (arith, short, length-take p w, length-drop p w))) λ _.
      then-each P (barred_from g x m.cycle (length m.prefix))
      (barred-each x m.cycle (length m.prefix) (omega (arith, short, length-take p w, length-drop p w))) λ _.
      colours-each x m.cycle few
