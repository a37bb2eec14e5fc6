-- One plan for a ward. Document 02, Ask 11: "Take a lent list of wearer records, each with start mode, c, b and a verdict field, and fill every
-- verdict with the number judging gives for that wearer, 0 for yes." As in judging, x is the byte of barred colours, and w the plan's bytes.
use Rattle.std.specs.Prelude.{ℕ, suc, ◌≡◌, cond, List, [], ◌∷◌, map, Ok, Err, eqb}
use Rattle.refusals.specs.declared.Answer.{Answer}
use Rattle.refusals.specs.Refusals.{Verdict, answer, numbered}
use Rattle.model.specs.Lists.{Lists}
use Rattle.model.specs.Fitness.{fitness}
use Rattle.judge.specs.Judged.{judged_answer}
use Rattle.ward.specs.declared.Wearer.{Wearer}

-- "the number judging gives for that wearer, 0 for yes"
unfoldable pub verdict_of : ℕ → ℕ → Lists → ℕ → ℕ → ℕ → List ℕ → Wearer → ℕ
verdict_of n k l x p q w y = (judged_answer n y.start k l x y.b y.c p q w).number

-- a wearer with its verdict filled: "Other fields keep their content."
abbrev pub with_verdict : Wearer → ℕ → Wearer
with_verdict y v = record { start = y.start; c = y.c; b = y.b; verdict = v }

-- "An unfit model met before any wearer (1, 3, 4, 5)": fitness with 0 for the start mode, which is below every n that 1 does not refuse, so that 2
-- is not answered. (Theorem ward-order.)
unfoldable pub ward_fitness : ℕ → ℕ → Lists → Verdict
ward_fitness n k l = fitness n 0 k l

-- "yes exactly when all are yes, so an empty list is yes, and else the first other verdict, with its wearer's place, from 0, as detail"; the list's
-- first verdict has the place i
unfoldable pub first_other : List ℕ → ℕ → Answer
first_other [] i = answer 0 0
first_other (v ∷ vs) i = cond (eqb v 0) (first_other vs (suc i)) (answer v i)

-- by the fitness of the model: it "ends the call with its number and detail", or the verdicts f of the wearers are told
abbrev pub answered_if : Verdict → (Wearer → ℕ) → List Wearer → Answer
answered_if (Ok _) f ys = first_other (map f ys) 0
answered_if (Err r) f ys = numbered r

-- "and no verdict written", or each wearer is with its verdict
abbrev pub filled_if : Verdict → (Wearer → ℕ) → List Wearer → List Wearer
filled_if (Ok _) f ys = map (λ y. with_verdict y (f y)) ys
filled_if (Err r) f ys = ys

-- What a ward's call does. ys: the wearers at entry, zs: the wearers at exit, r: the answer.
pub record WardOf (n k : ℕ) (l : Lists) (x p q : ℕ) (w : List ℕ) (ys zs : List Wearer) (r : Answer) : Type 0 where
  pub answered : r ≡ answered_if (ward_fitness n k l) (verdict_of n k l x p q w) ys
  pub filled : zs ≡ filled_if (ward_fitness n k l) (verdict_of n k l x p q w) ys
