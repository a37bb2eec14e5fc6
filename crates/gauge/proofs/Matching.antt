-- What 22 does to a step. Document 02, Ask 3: "Steps on a matching gauge follow the old rule, and a mixed-up gauge stays as found"; and no step
-- changes the three numbers that it compares. Assumes nothing.
use Rattle.std.specs.Prelude.{Ok, Err}
use mathlib.Core.Path.{◌≡◌, refl, sym, ap, ◌∙◌, subst}
use mathlib.Core.Bool.{true, false, not-eq-not}
use mathlib.Core.Logic.{◌↔◌, ⊎_elim}
use Prim.Native.Nat.{ℕ}
use Rattle.refusals.specs.declared.Refusal.TheVariants.{MixedGauge}
use Rattle.refusals.specs.Refusals.{Verdict, and_then}
use Rattle.model.specs.Automaton.{Automaton}
use Rattle.model.specs.Lists.{Lists, automaton_of}
use Rattle.model.specs.Fitness.{fitness, levels_of}
use Rattle.gauge.specs.declared.Gauge.{Gauge}
use Rattle.gauge.specs.Gauge.{Gauged, gauge_or, new_gauge, moved_to, moved_of, Matches, moved_levelled, stepped_of, old_rule}
use Rattle.gauge.proofs.Gauges.{mixed-no, matched-by}
use Rattle.gauge.proofs.Stops.{step-outcome}

module _ (n s k : ℕ) (l : Lists) (b a : ℕ) (x : Gauge) where
  abbrev g : Automaton
  g = automaton_of n s k l

  -- the old rule: 1 to 5, 6, and the step on the arc, whatever the gauge was started with
  pub old-by : (u v : Verdict) → fitness n s k l ≡ u → levels_of b x.charge ≡ v → old_rule n s k l b a x ≡ and_then u (and_then v (moved_of g b a x))
  old-by u v fit levels = rw (fit, levels) refl

  -- "Steps on a matching gauge follow the old rule"
  pub matching-step : Matches g b x → stepped_of n s k l b a x ≡ old_rule n s k l b a x
  unfolding stepped_of moved_levelled
  matching-step m = rw (matched-by g b a x false ((mixed-no g b x).1 m)) refl

  -- "a mixed-up gauge stays as found": 22, where none of 1 to 6 applies
  pub mixed-step : (Matches g b x → ⊥) → fitness n s k l ≡ Ok tt → levels_of b x.charge ≡ Ok tt
      → (stepped_of n s k l b a x ≡ Err MixedGauge) × (gauge_or x (stepped_of n s k l b a x) ≡ x)
  unfolding stepped_of moved_levelled
  mixed-step other fit levels =
      let e : stepped_of n s k l b a x ≡ Err MixedGauge =
      rw (fit, levels, matched-by g b a x true (not-eq-not.0 (λ e. other ((mixed-no g b x).0 e)))) refl
      in (e, ap {B = Gauge} (gauge_or x) e)

-- z has x's n, m and b
abbrev pub Kept : Gauge → Gauge → Type 0
Kept x z = z ≡ moved_to x z.mode z.charge z.spill

-- a step keeps them, accepted or refused
pub step_kept : (n s k : ℕ) (l : Lists) (b a : ℕ) (x : Gauge) → Kept x (gauge_or x (stepped_of n s k l b a x))
step_kept n s k l b a x = ⊎_elim (λ (r, _, e). rw e refl) (λ (t, e, u, p). rw p refl) (step-outcome n s k l b a x)

-- so the gauge of an accepted one has them
pub yes-kept : (x u : Gauge) (y : Gauged) → y ≡ Ok u → Kept x (gauge_or x y) → Kept x u
yes-kept x u y q = subst (Kept x) (ap {B = Gauge} (gauge_or x) q)

-- one step, and another
pub kept_on : (x u z : Gauge) → Kept x u → Kept u z → Kept x z
kept_on x u z first second = second ∙ ap {B = Gauge} (λ (v : Gauge). moved_to v z.mode z.charge z.spill) first

-- so the gauge matches what it matched before, and nothing else
pub kept-matches : (x z : Gauge) → Kept x z → (g : Automaton) (b : ℕ) → Matches g b x ↔ Matches g b z
kept-matches x z kept g b =
    let modes = ap {B = ℕ} (λ (y : Gauge). y.modes) kept in
    let arcs = ap {B = ℕ} (λ (y : Gauge). y.arcs) kept in
    let bound = ap {B = ℕ} (λ (y : Gauge). y.bound) kept in (
      λ m. record { modes = modes ∙ m.modes; arcs = arcs ∙ m.arcs; bound = bound ∙ m.bound },
      λ m. record { modes = sym modes ∙ m.modes; arcs = sym arcs ∙ m.arcs; bound = sym bound ∙ m.bound },
    )

-- a new gauge matches the model and the bound of its start
pub new-matches : (g : Automaton) (b c : ℕ) → Matches g b (new_gauge g b c)
new-matches g b c = record { modes = refl; arcs = refl; bound = refl }
