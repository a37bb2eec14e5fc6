-- Judging. Document 01, "What can be called" and "Where each call stops": "judging 1 to 6 and 11 to 17", top to bottom; document 02, Ask 6: 24
-- stands "after 16 and before 17".
use Rattle.std.specs.Prelude.{ℕ, ◌≤◌, ◌<◌, List, length, get_or, Result, Ok}
use Rattle.limits.specs.Ceilings.{arcs_most, bound_most}
use Rattle.refusals.specs.declared.Answer.{Answer}
use Rattle.refusals.specs.declared.Refusal.{Refusal}
use Rattle.refusals.specs.Refusals.{Verdict, and_then, answer_of}
use Rattle.model.specs.declared.Model.{Model}
use Rattle.model.specs.Automaton.{Automaton}
use Rattle.model.specs.Lists.{Lists, automaton_of, model_of}
use Rattle.model.specs.Fitness.{fitness, levels_of, EqualLists, Fit}
use Rattle.model.specs.Plans.{Plan, Serves}
use Rattle.judge.specs.declared.JudgedModel.{JudgedModel}
use Rattle.judge.specs.Shape.{plan_of, shape, Lengths}
use Rattle.judge.specs.Charges.{charges}
use Rattle.judge.specs.Colours.{accepted_of}

-- 15, 16, 24 and 17, of a plan that has its shape: none applies where it is feasible and accepted
unfoldable pub serves_of : Automaton → ℕ → ℕ → ℕ → Plan → Verdict
serves_of g x b c p = and_then (charges g b c p) (accepted_of g x p)

-- 11 to 16, 24 and 17, of p, q and the bytes of a plan
unfoldable pub judged_plan : Automaton → ℕ → ℕ → ℕ → ℕ → ℕ → List ℕ → Verdict
judged_plan g x b c p q w = and_then (shape g p q w) (serves_of g x b c (plan_of p w))

-- 6, 11 to 16, 24 and 17
unfoldable pub judged_levels : Automaton → ℕ → ℕ → ℕ → ℕ → ℕ → List ℕ → Verdict
judged_levels g x b c p q w = and_then (levels_of b c) (judged_plan g x b c p q w)

-- the verdict, for any numbers, lists and bytes
unfoldable pub judged : ℕ → ℕ → ℕ → Lists → ℕ → ℕ → ℕ → ℕ → ℕ → List ℕ → Verdict
judged n s k l x b c p q w = and_then (fitness n s k l) (judged_levels (automaton_of n s k l) x b c p q w)

-- the number and the detail of judging
abbrev pub judged_answer : ℕ → ℕ → ℕ → Lists → ℕ → ℕ → ℕ → ℕ → ℕ → List ℕ → Answer
judged_answer n s k l x b c p q w = answer_of (judged n s k l x b c p q w)

-- 1 to 5, and where none applies what judging says from 6 on, and the model as the code holds it, for calls that go on with it
unfoldable pub judged_model : ℕ → ℕ → ℕ → Lists → ℕ → ℕ → ℕ → ℕ → ℕ → List ℕ → Result JudgedModel Refusal
judged_model n s k l x b c p q w =
    and_then (fitness n s k l) (Ok (record { verdict = judged_levels (automaton_of n s k l) x b c p q w; model = model_of n s k l }))

-- What the yes says (theorem judged-yes): the model is fit, the levels are right, the plan has its lengths, and is feasible and accepted
pub record Right (n s k : ℕ) (l : Lists) (x b c p q : ℕ) (w : List ℕ) : Type 0 where
  pub equal : EqualLists l
  pub fit : Fit (automaton_of n s k l)
  pub bound : b ≤ bound_most
  pub credit : c ≤ b
  pub lengths : Lengths p q w
  pub serves : Serves (automaton_of n s k l) x b c (plan_of p w)

-- the numbers of a list are those of arcs that the value g counts: what inner functions are given once 12 does not apply
pub record ArcNumbers (g : Model) (w : List ℕ) : Type 0 where
  pub few : g.count ≤ arcs_most
  pub below : (i : ℕ) → i < length w → get_or w i 0 < g.count
