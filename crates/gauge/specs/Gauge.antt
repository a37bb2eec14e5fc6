-- The gauge. Document 01, "What can be called": "the gauge is one small record that each step moves on: mode and charge", and "Where each
-- call stops", the paragraph below the table. Document 02, Ask 2: "The gauge gains a spill total, kept as a 64-bit number." Ask 3: "The gauge
-- shall carry n, m and b from its start and test them."
use Rattle.std.specs.Prelude.{ℕ, ◌+◌, ◌≡◌, Bool, not, ◌||◌, Option, Some, None, Result, Ok, Err, leb, ltb, eqb, length}
use Rattle.limits.specs.Ceilings.{spill_most}
use Rattle.walks.specs.declared.Step.{Step}
use Rattle.walks.specs.BoundedStep.{stepped}
use Rattle.refusals.specs.declared.Answer.{Answer}
use Rattle.refusals.specs.declared.Refusal.{Refusal}
use Rattle.refusals.specs.declared.Refusal.TheVariants.{ArcNumber, OtherMode, ImpossibleStep, MixedGauge}
use Rattle.refusals.specs.Refusals.{refuse, and_then, verdict_of, answer_of}
use Rattle.model.specs.Automaton.{Automaton, arc_at, move_of}
use Rattle.model.specs.Lists.{Lists, automaton_of}
use Rattle.model.specs.Fitness.{fitness, levels_of}
use Rattle.gauge.specs.declared.Gauge.{Gauge}

-- a gauge by its fields: the mode, the charge, the total of charge that spilled over, and n, m and b from its start
abbrev pub gauge : ℕ → ℕ → ℕ → ℕ → ℕ → ℕ → Gauge
gauge mode charge spill modes arcs bound = record { mode = mode; charge = charge; spill = spill; modes = modes; arcs = arcs; bound = bound }

-- what a start with the model g, the bound b and the credit c hands back: "a new one with the start mode and c"
abbrev pub new_gauge : Automaton → ℕ → ℕ → Gauge
new_gauge g b c = gauge g.start c 0 g.modes (length g.arcs) b

-- the gauge x in mode t with charge e and total s; n, m and b are those from its start
abbrev pub moved_to : Gauge → ℕ → ℕ → ℕ → Gauge
moved_to x t e s = gauge t e s x.modes x.arcs x.bound

-- what starting or stepping answers: the gauge afterwards, or where it stops
abbrev pub Gauged : Type 0
Gauged = Result Gauge Refusal

-- "a refusal hands back mode 0, charge 0, and 0 in every field that is added later"
abbrev pub no_gauge : Gauge
no_gauge = gauge 0 0 0 0 0 0

-- the gauge that there is after a start or a step: the new one, or x, which goes with a refusal: as found by a step, no_gauge from a start
abbrev pub gauge_or : Gauge → Gauged → Gauge
gauge_or x (Ok y) = y
gauge_or x (Err r) = x

-- "Starting is lent no gauge and hands back a new one with the start mode and c"; it "uses 1 to 6"
unfoldable pub started_of : ℕ → ℕ → ℕ → Lists → ℕ → ℕ → Gauged
started_of n s k l b c = and_then (fitness n s k l) (and_then (levels_of b c) (Ok (new_gauge (automaton_of n s k l) b c)))

-- the number and the detail of a start
abbrev pub started_answer : ℕ → ℕ → ℕ → Lists → ℕ → ℕ → Answer
started_answer n s k l b c = answer_of (verdict_of (started_of n s k l b c))

-- the gauge x after a step to mode t: moved on, where the step is possible; "A step that would carry the total past 64 bits is refused by 15,
-- after the test for zero."
abbrev pub landed : Gauge → ℕ → Option Step → Gauged
landed x t (Some u) =
    refuse (ltb spill_most (x.spill + u.lost)) (ImpossibleStep 0) (Ok (moved_to x t u.charge (x.spill + u.lost)))
landed x t None = Err (ImpossibleStep 0)

-- the step on arc a: "12, 13, 15 with detail 0, and a refusal leaves the gauge as found"
unfoldable pub moved_of : Automaton → ℕ → ℕ → Gauge → Gauged
moved_of g b a x =
    refuse (leb (length g.arcs) a) (ArcNumber 0)
    (refuse (not (eqb (arc_at g a).source x.mode)) (OtherMode 0)
    (landed x (arc_at g a).target (stepped b (move_of (arc_at g a)) x.charge)))

-- Ask 3: "any of the three differs from the call's" n, m and b
unfoldable pub mixed_up : ℕ → ℕ → ℕ → Gauge → Bool
mixed_up n m b x = not (eqb x.modes n) || not (eqb x.arcs m) || not (eqb x.bound b)

-- "Refusal 22 .. is looked at after 6 and before 12, detail 0"; "a mixed-up gauge stays as found"
unfoldable pub moved_matched : Automaton → ℕ → ℕ → Gauge → Gauged
moved_matched g b a x = refuse (mixed_up g.modes (length g.arcs) b x) MixedGauge (moved_of g b a x)

-- "For a step, 6 reads the gauge's own charge in place of c, so a gauge charged above b is refused by 6."
unfoldable pub moved_levelled : Automaton → ℕ → ℕ → Gauge → Gauged
moved_levelled g b a x = and_then (levels_of b x.charge) (moved_matched g b a x)

-- "A gauge step uses 1 to 6, then 12, 13, 15 with detail 0, and a refusal leaves the gauge as found."; with Ask 3, 22 stands after 6
unfoldable pub stepped_of : ℕ → ℕ → ℕ → Lists → ℕ → ℕ → Gauge → Gauged
stepped_of n s k l b a x = and_then (fitness n s k l) (moved_levelled (automaton_of n s k l) b a x)

-- the number and the detail of a step
abbrev pub stepped_answer : ℕ → ℕ → ℕ → Lists → ℕ → ℕ → Gauge → Answer
stepped_answer n s k l b a x = answer_of (verdict_of (stepped_of n s k l b a x))

-- a matching gauge: its n, m and b are those of the model g and the bound b
pub record Matches (g : Automaton) (b : ℕ) (x : Gauge) : Type 0 where
  pub modes : x.modes ≡ g.modes
  pub arcs : x.arcs ≡ length g.arcs
  pub bound : x.bound ≡ b

-- "Steps on a matching gauge follow the old rule" (theorem matching-step): the same without 22
abbrev pub old_rule : ℕ → ℕ → ℕ → Lists → ℕ → ℕ → Gauge → Gauged
old_rule n s k l b a x = and_then (fitness n s k l) (and_then (levels_of b x.charge) (moved_of (automaton_of n s k l) b a x))

-- what follows a start or a step goes on from its gauge, where it is accepted
abbrev pub after_gauged : Gauged → (Gauge → Gauged) → Gauged
after_gauged (Ok y) f = f y
after_gauged (Err r) f = Err r
