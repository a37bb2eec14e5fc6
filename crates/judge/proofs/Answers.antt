-- What judge_model hands back, and what a caller learns from it. Assumes nothing.
use mathlib.Core.Path.{◌≡◌, refl, sym, ap, ◌∙◌}
use mathlib.Core.List.{List}
use Prim.Native.Nat.{ℕ}
use Rattle.std.specs.Prelude.{Ok, Err}
use Rattle.refusals.specs.declared.Refusal.{Refusal}
use Rattle.refusals.specs.Refusals.{Verdict, and_then, verdict_of}
use Rattle.refusals.proofs.Verdicts.{and-then-yes}
use Rattle.model.specs.declared.Model.{Model}
use Rattle.model.specs.Lists.{Lists, automaton_of, model_of, held}
use Rattle.model.specs.Fitness.{fitness, fitted_of, levels_of, Holds}
use Rattle.model.proofs.Fitness.{fitted-held, fitted-holds}
use Rattle.model.proofs.Held as fit
use Rattle.judge.specs.Shape.{plan_of, shape}
use Rattle.judge.specs.declared.JudgedModel.{JudgedModel}
use Rattle.judge.specs.Judged.{serves_of, judged_plan, judged_levels, judged, judged_model, ArcNumbers}
use Rattle.judge.proofs.Arcs.{shape-arcs}

module _ (n s k : ℕ) (l : Lists) (x b c p q : ℕ) (w : List ℕ) where
  -- what it hands back of an unfit model ..
  pub judged-unfit : (r : Refusal) → Err r ≡ fitted_of n s k l → Err r ≡ judged_model n s k l x b c p q w
  unfolding judged_model
  judged-unfit r told = rw (fit.told-refused n s k l r told) refl

  -- .. and of a fit one, with what 6 and what follows it say
  pub judged-fit : (g : Model) (v : Verdict) → Ok g ≡ fitted_of n s k l → v ≡ judged_levels (held g) x b c p q w
      → Ok (record { verdict = v; model = g }) ≡ judged_model n s k l x b c p q w
  unfolding judged_model
  judged-fit g v told e = rw (e, fit.told-held n s k l g told, fit.told-yes n s k l g told, ← fit.told-model n s k l g told) refl

  -- it refuses what is unfit, and nothing else
  fit-verdict : verdict_of (judged_model n s k l x b c p q w) ≡ fitness n s k l
  unfolding judged_model
  fit-verdict = go (fitness n s k l)
    where
      go : (v : Verdict)
          → verdict_of {T = JudgedModel} (and_then v (Ok (record { verdict = judged_levels (automaton_of n s k l) x b c p q w; model = model_of n s k l }))) ≡ v
      go (Ok _) = refl
      go (Err r) = refl

  -- where it refuses, judging does
  pub told_unfit : (r : Refusal) → Err r ≡ judged_model n s k l x b c p q w → judged n s k l x b c p q w ≡ Err r
  unfolding judged
  told_unfit r told = let e : fitness n s k l ≡ Err r = sym fit-verdict ∙ sym (ap {B = Verdict} verdict_of told) in rw e refl

  -- where it hands back a model ..
  module _ (y : JudgedModel) (told : Ok y ≡ judged_model n s k l x b c p q w) where
    -- .. none of 1 to 5 applies, ..
    fits : fitness n s k l ≡ Ok tt
    fits = sym fit-verdict ∙ sym (ap {B = Verdict} verdict_of told)

    abbrev whole : JudgedModel
    whole = record { verdict = judged_levels (automaton_of n s k l) x b c p q w; model = model_of n s k l }

    same : y ≡ whole
    unfolding judged_model
    same = let e : Ok y ≡ Ok whole = told ∙ rw fits refl in cc

    -- .. what it says of the plan is what judging says, ..
    pub told-verdict : y.verdict ≡ judged n s k l x b c p q w
    unfolding judged
    told-verdict = rw (same, fits) refl

    same-model : y.model ≡ model_of n s k l
    same-model = ap {B = Model} (λ (z : JudgedModel). z.model) same

    -- .. the model is that of the lists, ..
    pub told-model : held y.model ≡ automaton_of n s k l
    told-model = rw same-model (fitted-held n s k l fits).1

    told-holds : Holds y.model
    told-holds = rw same-model (fitted-holds n s k l fits)

    pub told-refused : (r : Refusal) → Err r ≡ y.verdict → judged n s k l x b c p q w ≡ Err r
    told-refused r e = sym told-verdict ∙ sym e

    -- .. and where it says yes of the plan ..
    module _ (yes : Ok tt ≡ y.verdict) where
      -- .. judging says yes, ..
      pub told-judged : judged n s k l x b c p q w ≡ Ok tt
      told-judged = sym told-verdict ∙ sym yes

      -- so that none of 11 to 14 applies, ..
      shaped : shape (automaton_of n s k l) p q w ≡ Ok tt
      unfolding judged judged_levels judged_plan
      shaped =
          let g = automaton_of n s k l in
          let rest = ((and-then-yes (fitness n s k l) (judged_levels g x b c p q w)).0 told-judged).1 in
          let plan = ((and-then-yes (levels_of b c) (judged_plan g x b c p q w)).0 rest).1 in
          ((and-then-yes (shape g p q w) (serves_of g x b c (plan_of p w))).0 plan).0

      -- .. and the bytes are arcs of the model
      pub told-arcs : ArcNumbers y.model w
      told-arcs = (shape-arcs y.model told-holds p q w (rw told-model shaped)).0

pub ruleset model_answers = (judged-unfit, judged-fit)
