-- A ward of four wearers, and one of none whose model is unfit, from the definitions, with models of document 01's examples. Assumes nothing.
use mathlib.Core.Path.{◌≡◌}
use mathlib.Core.List.{List, [], ◌∷◌}
use Prim.Native.Nat.{ℕ}
use Rattle.walks.specs.BoundedStep.{stepped}
use Rattle.refusals.specs.declared.Answer.{Answer}
use Rattle.refusals.specs.Refusals.{answer}
use Rattle.model.specs.Fitness.{fitness, header, unfit_lists, unfit_arc, arcs_verdict, levels_of}
use Rattle.judge.specs.Shape.{shape, length_of, numbers, chain, closing}
use Rattle.judge.specs.Charges.{charges, rounds, second_round, ran}
use Rattle.judge.specs.Colours.{barred_from, colours_of, accepted_of, missing_from}
use Rattle.judge.specs.Judged.{judged, judged_levels, judged_plan, serves_of}
use Rattle.judge.specs.Examples.{Found, of_e, of_g}
use Rattle.ward.specs.declared.Wearer.{Wearer}
use Rattle.ward.specs.Ward.{verdict_of, ward_fitness, first_other, WardOf}

-- start mode, c, b, verdict
abbrev wearer : ℕ → ℕ → ℕ → ℕ → Wearer
wearer s c b v = record { start = s; c = c; b = b; verdict = v }

-- E's model and plan, with 9 in each verdict field at entry: yes as in E, 15 as in F, 2 from a mode that is not below n, and 6 with c above b. The first
-- that is not yes is the 15, at place 1.
pub ward-example : {zs : List Wearer} {r : Answer}
    → WardOf 2 0 (of_e 10 10 Found).arcs 0 0 2 (0 ∷ 1 ∷ []) (wearer 0 10 10 9 ∷ wearer 0 2 2 9 ∷ wearer 5 1 1 9 ∷ wearer 0 3 2 9 ∷ []) zs r
    → (r ≡ answer 15 1) × (zs ≡ wearer 0 10 10 0 ∷ wearer 0 2 2 15 ∷ wearer 5 1 1 2 ∷ wearer 0 3 2 6 ∷ [])
unfolding verdict_of ward_fitness first_other judged judged_levels judged_plan serves_of fitness header unfit_lists arcs_verdict unfit_arc levels_of shape length_of numbers chain closing charges rounds second_round ran stepped accepted_of barred_from colours_of missing_from
ward-example h = (h.answered, h.filled)

-- G's model with n 1: arc 1 leads to mode 1, and is unfit, "even on an empty list"
pub unfit-example : {zs : List Wearer} {r : Answer} → WardOf 1 1 (of_g 5 0 Found).arcs 0 0 1 (0 ∷ []) [] zs r → r ≡ answer 5 1
unfolding ward_fitness fitness header unfit_lists arcs_verdict unfit_arc
unfit-example h = h.answered
