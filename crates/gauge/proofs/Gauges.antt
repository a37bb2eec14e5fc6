-- What starting and stepping a gauge hand back, row by row: of a model, of the lists of one, and by what check_fitness and check_levels answer.
-- Assumes nothing.
use Rattle.std.specs.Prelude.{Option, None, Ok, Err}
use mathlib.Core.Path.{◌≡◌, refl, sym, ap, ◌∙◌}
use mathlib.Core.Bool.{Bool, true, false, not, ◌||◌}
use mathlib.Core.Logic.{◌≢◌, ◌↔◌}
use Prim.Native.Nat.{ℕ, ◌+◌, ◌≤◌, ◌<◌}
use native.Mathlib.Omega.{arith}
use lib.Dec.{eqb}
use lib.ListN.{length}
use borrow.Author.Tests.{le-leb, lt-leb, le-ltb, lt-ltb, eq-eqb, ne_eqb}
use Rattle.limits.specs.Ceilings.{spill_most}
use Rattle.walks.specs.declared.Step.{Step}
use Rattle.walks.specs.BoundedStep.{to, stepped}
use Rattle.refusals.specs.declared.Refusal.{Refusal}
use Rattle.refusals.specs.declared.Refusal.TheVariants.{ArcNumber, OtherMode, ImpossibleStep, MixedGauge}
use Rattle.refusals.specs.Refusals.{Verdict, refuse, and_then}
use Rattle.refusals.proofs.Verdicts.{refuse-yes}
use Rattle.refusals.proofs.Tests.{or_no, differ-no}
use Rattle.model.specs.declared.Arc.{Arc}
use Rattle.model.specs.Automaton.{Automaton, arc_at, move_of}
use Rattle.model.specs.Lists.{Lists, arc_of, automaton_of}
use Rattle.model.specs.Fitness.{fitness, levels_of}
use Rattle.model.proofs.Arcs.{arcs-length, arcs-here}
use Rattle.gauge.specs.declared.Gauge.{Gauge}
use Rattle.gauge.specs.Gauge.{Gauged, gauge, gauge_or, moved_to, landed, started_of, moved_of, Matches, mixed_up, moved_matched, moved_levelled, stepped_of}

-- a step that is not possible
pub landed-off : (x : Gauge) (t : ℕ) → landed x t None ≡ Err (ImpossibleStep 0)
landed-off x t = refl

module _ (x : Gauge) (t e l : ℕ) where
  -- a step that is possible: the total would pass 64 bits
  pub landed-full : spill_most < x.spill + l → (landed x t (to e l) ≡ Err (ImpossibleStep 0)) × (gauge_or x (landed x t (to e l)) ≡ x)
  landed-full h =
      let e : landed x t (to e l) ≡ Err (ImpossibleStep 0) = rw (lt-ltb spill_most (x.spill + l) h) refl in
      (e, ap {B = Gauge} (gauge_or x) e)

  -- it does not
  pub landed-on : x.spill + l ≤ spill_most → landed x t (to e l) ≡ Ok (moved_to x t e (x.spill + l))
  landed-on h = rw (le-ltb spill_most (x.spill + l) h) refl

module _ (g : Automaton) (b a : ℕ) (x : Gauge) where
  -- 12 applies
  pub moved-number : length g.arcs ≤ a → moved_of g b a x ≡ Err (ArcNumber 0)
  unfolding moved_of
  moved-number h = rw (le-leb (length g.arcs) a h) refl

  module _ (h : a < length g.arcs) where
    -- 12 does not apply, and 13 does
    pub moved-mode : (arc_at g a).source ≢ x.mode → moved_of g b a x ≡ Err (OtherMode 0)
    unfolding moved_of
    moved-mode q = rw (lt-leb (length g.arcs) a h, ne_eqb (arc_at g a).source x.mode q) refl

    -- neither does: the bounded step decides
    pub moved-lands : (arc_at g a).source ≡ x.mode
        → moved_of g b a x ≡ landed x (arc_at g a).target (stepped b (move_of (arc_at g a)) x.charge)
    unfolding moved_of
    moved-lands q = rw (lt-leb (length g.arcs) a h, eq-eqb (arc_at g a).source x.mode q) refl

module _ (g : Automaton) (b : ℕ) (x : Gauge) where
  -- 22 does not apply exactly where the gauge matches
  pub mixed-no : (mixed_up g.modes (length g.arcs) b x ≡ false) ↔ Matches g b x
  unfolding mixed_up
  mixed-no =
      let modes = differ-no x.modes g.modes in
      let arcs = differ-no x.arcs (length g.arcs) in
      let bound = differ-no x.bound b in
      let two = or_no (not (eqb x.modes g.modes)) (not (eqb x.arcs (length g.arcs))) in
      let three = or_no (not (eqb x.modes g.modes) || not (eqb x.arcs (length g.arcs))) (not (eqb x.bound b)) in (
        λ e.
            let (both, last) = three.0 e in
            let (first, second) = two.0 both in
            record { modes = modes.0 first; arcs = arcs.0 second; bound = bound.0 last },
        λ m. three.1 (two.1 (modes.1 m.modes, arcs.1 m.arcs), bound.1 m.bound),
      )

  -- the check lets it through
  pub match-through : ◌≡◌ {A = Verdict} (refuse (mixed_up g.modes (length g.arcs) b x) MixedGauge (Ok tt)) (Ok tt) → Matches g b x
  match-through e = mixed-no.0 ((refuse-yes (mixed_up g.modes (length g.arcs) b x) MixedGauge (Ok tt)).0 e).0

module _ (g : Automaton) (b a : ℕ) (x : Gauge) where
  -- 22, and then 12, 13 and 15
  pub matched-by : (t : Bool) → mixed_up g.modes (length g.arcs) b x ≡ t
      → moved_matched g b a x ≡ refuse t MixedGauge (moved_of g b a x)
  unfolding moved_matched
  matched-by t e = ap {B = Gauged} (λ (t : Bool). refuse t MixedGauge (moved_of g b a x)) e

  -- 6, and then 22 and what follows it
  pub levelled-by : (v : Verdict) → levels_of b x.charge ≡ v → moved_levelled g b a x ≡ and_then v (moved_matched g b a x)
  unfolding moved_levelled
  levelled-by v e = ap {B = Gauged} (λ (v : Verdict). and_then v (moved_matched g b a x)) e

-- the same of the model of lists, of which the code reads the number and the one arc
module _ (n s k : ℕ) (l : Lists) (b a : ℕ) (x : Gauge) where
  abbrev g : Automaton
  g = automaton_of n s k l

  many : length g.arcs ≡ length l.sources
  many = arcs-length l (length l.sources) 0

  -- 22 applies
  pub lists_mixed : mixed_up n (length l.sources) b x ≡ true → moved_matched g b a x ≡ Err MixedGauge
  lists_mixed e = matched-by g b a x true (ap {B = Bool} (λ (m : ℕ). mixed_up n m b x) many ∙ e)

  -- it does not
  pub lists_matched : mixed_up n (length l.sources) b x ≡ false → moved_matched g b a x ≡ moved_of g b a x
  lists_matched e = matched-by g b a x false (ap {B = Bool} (λ (m : ℕ). mixed_up n m b x) many ∙ e)

  -- 12 applies
  pub lists_number : length l.sources ≤ a → moved_of g b a x ≡ Err (ArcNumber 0)
  lists_number h = moved-number g b a x (omega (arith, many))

  module _ (y : Arc) (e : y ≡ arc_of l a) (h : a < length l.sources) where
    here : arc_at g a ≡ y
    here = arcs-here l (length l.sources) a h ∙ sym e

    -- 12 does not apply to the arc y, and 13 does
    pub lists_mode : y.source ≢ x.mode → moved_of g b a x ≡ Err (OtherMode 0)
    lists_mode q = moved-mode g b a x (omega (arith, many)) (rw here q)

    -- neither does: the bounded step, which answers f, decides
    pub lists_lands : (f : Option Step) → f ≡ stepped b (move_of y) x.charge → y.source ≡ x.mode → moved_of g b a x ≡ landed x y.target f
    lists_lands f p q = moved-lands g b a x (omega (arith, many)) (rw here q) ∙ rw (here, p) refl

-- what a caller of check_fitness and check_levels answers: the refusal of the first that refuses, ..
module _ (n s k : ℕ) (l : Lists) where
  pub start_unfit : (b c : ℕ) (r : Refusal) → Err r ≡ fitness n s k l → started_of n s k l b c ≡ Err r
  unfolding started_of
  start_unfit b c r unfit = rw (sym unfit) refl

  pub step_unfit : (b a : ℕ) (x : Gauge) (r : Refusal) → Err r ≡ fitness n s k l → stepped_of n s k l b a x ≡ Err r
  unfolding stepped_of
  step_unfit b a x r unfit = rw (sym unfit) refl

  pub start_levels : (b c : ℕ) (r : Refusal) → Ok tt ≡ fitness n s k l → Err r ≡ levels_of b c → started_of n s k l b c ≡ Err r
  unfolding started_of
  start_levels b c r fit e = rw (sym fit, sym e) refl

  pub step_levels : (b a : ℕ) (x : Gauge) (r : Refusal) → Ok tt ≡ fitness n s k l → Err r ≡ levels_of b x.charge → stepped_of n s k l b a x ≡ Err r
  unfolding stepped_of
  step_levels b a x r fit e = rw (sym fit, levelled-by (automaton_of n s k l) b a x (Err r) (sym e)) refl

  -- .. or the new gauge, and 22 and what follows it
  pub start_fit : (b c : ℕ) → Ok tt ≡ fitness n s k l → Ok tt ≡ levels_of b c → started_of n s k l b c ≡ Ok (gauge s c 0 n (length l.sources) b)
  unfolding started_of
  start_fit b c fit e = rw (sym fit, sym e, arcs-length l (length l.sources) 0) refl

  pub step_fit : (b a : ℕ) (x : Gauge) → Ok tt ≡ fitness n s k l → Ok tt ≡ levels_of b x.charge
      → stepped_of n s k l b a x ≡ moved_matched (automaton_of n s k l) b a x
  unfolding stepped_of
  step_fit b a x fit e = rw (sym fit, levelled-by (automaton_of n s k l) b a x (Ok tt) (sym e)) refl
