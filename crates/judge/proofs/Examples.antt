-- Document 01's examples A to L, from the definitions: one theorem over the table of specs/Examples; and what barred colours change in some of
-- them. Assumes nothing.
use Rattle.std.specs.Prelude.{Ok}
use mathlib.Core.Path.{◌≡◌, refl, subst}
use mathlib.Core.List.{List, [], ◌∷◌}
use Prim.Native.Nat.{ℕ, zero, suc, ◌<◌}
use native.Mathlib.Omega.{arith}
use lib.Dec.{eqb}
use lib.ListN.{length, get_or}
use Rattle.walks.specs.BoundedStep.{stepped}
use Rattle.refusals.specs.declared.Answer.{Answer}
use Rattle.refusals.specs.Refusals.{answer, answer_of}
use Rattle.refusals.proofs.Verdicts.{and-then-yes}
use Rattle.model.specs.Automaton.{Automaton}
use Rattle.model.specs.Lists.{automaton_of}
use Rattle.model.specs.Fitness.{fitness, header, unfit_lists, unfit_arc, arcs_verdict, levels_of}
use Rattle.model.specs.Plans.{SomePlan}
use Rattle.judge.specs.Shape.{plan_of, shape, length_of, numbers, chain, closing}
use Rattle.judge.specs.Charges.{charges, rounds, second_round, ran}
use Rattle.judge.specs.Colours.{barred_from, colours_of, accepted_of, missing_from}
use Rattle.judge.specs.Judged.{judged, judged_levels, judged_plan, serves_of, judged_answer}
use Rattle.judge.specs.Examples.{Claim, Found, None, Judged, Example, model_in, Admitted, Says, Stands, All, of_a, of_b, of_g, of_j, examples}
use Rattle.judge.proofs.Judged.{judged-yes}
use Rattle.judge.proofs.NoPlan.{no-plan}

-- a plan to which judging says yes is one
judged-found : (x : Example) (p q : ℕ) (w : List ℕ)
    → judged x.modes 0 x.colours x.arcs 0 x.bound x.credit p q w ≡ Ok tt → SomePlan (model_in x) 0 x.bound x.credit
judged-found x p q w e = (plan_of p w, ((judged-yes x.modes 0 x.colours x.arcs 0 x.bound x.credit p q w).0 e).serves)

-- one row after the other
infixr 5 ◌and◌
◌and◌ : {A B : Type 0} → A → B → A × B
x and y = (x, y)

-- The examples. Judging's number and detail are computed. A and G: a plan to which judging says yes. B: its arc draws more than the bound. H:
-- so does the arc that leaves mode 0, and the arc that stays there has not colour 0.
pub examples-hold : All Stands examples
unfolding judged judged_levels judged_plan serves_of fitness header unfit_lists arcs_verdict unfit_arc levels_of shape length_of numbers chain closing charges rounds second_round ran stepped accepted_of barred_from colours_of missing_from
examples-hold =
    (refl, judged-found (of_a 0 0 Found) 0 1 (0 ∷ []) refl)
    and (refl, no-plan (model_in (of_b 0 0 None)) 0 0 (eqb 0) 0 refl)
    and refl
    and refl
    and refl
    and refl
    and (refl, judged-found (of_g 5 0 Found) 6 1 (0 ∷ 0 ∷ 0 ∷ 0 ∷ 0 ∷ 1 ∷ 2 ∷ []) refl)
    and (refl, no-plan (model_in (of_g 4 0 None)) 4 0 (eqb 0) 0 refl)
    and refl
    and refl
    and refl
    and refl
    and tt

-- judging's number and detail in a row's model, with a byte of barred colours
abbrev answers : Example → ℕ → ℕ → ℕ → List ℕ → Answer
answers r x p q w = judged_answer r.modes 0 r.colours r.arcs x r.bound r.credit p q w

-- Document 02, Ask 6. I's plan with its colour barred: 24 at the round's position in the plan; with bits at or above k alone: yes. J's model, c 2,
-- run-in 0, round 1: colour 0 is missing, and is passed over where it is barred, also with bits at or above k; it may stand in the run-in. L's
-- plan: with colour 0 barred yes, with colour 1 barred 24 comes before 17.
pub barred-examples :
    (answers (of_g 5 0 Found) 1 6 1 (0 ∷ 0 ∷ 0 ∷ 0 ∷ 0 ∷ 1 ∷ 2 ∷ []) ≡ answer 24 6)
    × (answers (of_g 5 0 Found) 254 6 1 (0 ∷ 0 ∷ 0 ∷ 0 ∷ 0 ∷ 1 ∷ 2 ∷ []) ≡ answer 0 0)
    × (answers (of_j 2 2 Found) 0 1 1 (0 ∷ 1 ∷ []) ≡ answer 17 0)
    × (answers (of_j 2 2 Found) 1 1 1 (0 ∷ 1 ∷ []) ≡ answer 0 0)
    × (answers (of_j 2 2 Found) 253 1 1 (0 ∷ 1 ∷ []) ≡ answer 0 0)
    × (answers (of_j 2 0 Found) 1 0 1 (1 ∷ []) ≡ answer 0 0)
    × (answers (of_j 2 0 Found) 2 0 1 (1 ∷ []) ≡ answer 24 0)
unfolding judged judged_levels judged_plan serves_of fitness header unfit_lists arcs_verdict unfit_arc levels_of shape length_of numbers chain closing charges rounds second_round ran stepped accepted_of barred_from colours_of missing_from
barred-examples = (refl, refl, refl, refl, refl, refl, refl)

-- What a row that stands says, in the words of models and judging alone; this pins each case of Says.
module _ (x : Example) (stands : Stands x) where
  abbrev model : Automaton
  model = automaton_of x.modes 0 x.colours x.arcs

  says : (k : Claim) → x.claim ≡ k → Says x k
  says k e = subst (Says x) e stands

  -- none of 1 to 6 applies
  abbrev Clear : Type 0
  Clear = (fitness x.modes 0 x.colours x.arcs ≡ Ok tt) × (levels_of x.bound x.credit ≡ Ok tt)

  clear : Admitted x → Clear
  clear a = (and-then-yes (fitness x.modes 0 x.colours x.arcs) (levels_of x.bound x.credit)).0 a

  -- "plan found"
  pub row-found : x.claim ≡ Found → Clear × SomePlan model 0 x.bound x.credit
  row-found e = let (a, some) = says Found e in (clear a, some)

  -- "10"
  pub row-none : x.claim ≡ None → Clear × (SomePlan model 0 x.bound x.credit → ⊥)
  row-none e = let (a, none) = says None e in (clear a, none)

  -- judging's number and detail
  pub row-judged : (p q : ℕ) (w : List ℕ) (r : Answer) → x.claim ≡ Judged p q w r
      → answer_of (judged x.modes 0 x.colours x.arcs 0 x.bound x.credit p q w) ≡ r
  row-judged p q w r e = says (Judged p q w r) e

-- .. and where all rows stand, the one at each place does: this pins All
pub rows-stand : (l : List Example) (d : Example) → All Stands l → (i : ℕ) → i < length l → Stands (get_or l i d)
rows-stand [] d all i h = absurd (omega arith)
rows-stand (x ∷ l) d all zero h = all.0
rows-stand (x ∷ l) d all (suc i) h = rows-stand l d all.1 i (omega arith)
