-- What a caller of check_model learns from the value that it answers: the verdict, and the model that the value holds. Assumes nothing.
use Rattle.std.specs.Prelude.{Ok, Err}
use Rattle.refusals.specs.Refusals.{Verdict, verdict_of}
use mathlib.Core.Path.{◌≡◌, sym, ap, ◌∙◌, subst}
use Prim.Native.Nat.{ℕ, ◌<◌}
use native.Mathlib.Omega.{arith}
use lib.ListN.{get_or}
use lib.Seq.{get_or-take}
use Rattle.refusals.specs.declared.Refusal.{Refusal}
use Rattle.model.specs.declared.Arc.{Arc}
use Rattle.model.specs.declared.Model.{Model}
use Rattle.model.specs.Automaton.{no_arc, arc_at}
use Rattle.model.specs.Lists.{Lists, automaton_of, model_of, held}
use Rattle.model.specs.Fitness.{fitness, fitted_of, ArcFits, Holds}
use Rattle.model.proofs.Fitness.{fitted-verdict, fitted-model, fitted-held, fitted-holds}

-- the arc with number a, as the code reads it
abbrev pub arc_in : Model → ℕ → Arc
arc_in g a = get_or g.arcs a no_arc

-- it is the model's arc
pub held-arc : (g : Model) (a : ℕ) → a < g.count → arc_at (held g) a ≡ arc_in g a
held-arc g a h = get_or-take g.count g.arcs a no_arc h

-- what Holds gives to code that has the value: the arc that it reads under a number below the count is one of a fit model
pub holds-arc : (g : Model) (a : ℕ) → Holds g → a < g.count → ArcFits g.modes g.colours (arc_in g a)
holds-arc g a holds h = subst (ArcFits g.modes g.colours) (held-arc g a h) (holds.fit.arcs_fit a (omega (arith, holds.count)))

-- Where check_model hands back a model ..
module _ (n s k : ℕ) (l : Lists) (g : Model) (told : Ok g ≡ fitted_of n s k l) where
  -- .. fitness is yes, ..
  pub told-yes : fitness n s k l ≡ Ok tt
  told-yes = sym (fitted-verdict n s k l) ∙ sym (ap {B = Verdict} verdict_of told)

  pub told-model : g ≡ model_of n s k l
  told-model = let e : Ok g ≡ Ok (model_of n s k l) = told ∙ fitted-model n s k l told-yes in cc

  -- .. the model is held with all its arcs, ..
  pub told-holds : Holds g
  told-holds = rw told-model (fitted-holds n s k l told-yes)

  -- .. and is the model of the lists
  pub told-held : held g ≡ automaton_of n s k l
  told-held = rw told-model (fitted-held n s k l told-yes).1

-- where it refuses, fitness does
pub told-refused : (n s k : ℕ) (l : Lists) (r : Refusal) → Err r ≡ fitted_of n s k l → fitness n s k l ≡ Err r
told-refused n s k l r told = sym (fitted-verdict n s k l) ∙ sym (ap {B = Verdict} verdict_of told)
