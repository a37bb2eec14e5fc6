-- The model met before any wearer: the order of its checks, which are those of fitness without 2; and of a wearer then only 2 is left of them.
-- Assumes nothing.
use Rattle.std.specs.Prelude.{Ok}
use mathlib.Core.Path.{◌≡◌, refl, sym, ◌∙◌}
use mathlib.Core.Bool.{Bool, true, false, ◌||◌}
use mathlib.Core.List.{List}
use mathlib.Core.Logic.{◌↔◌}
use Prim.Native.Nat.{ℕ, zero, suc, ◌^◌, ◌<◌, ◌≤◌}
use native.Mathlib.Omega.{arith}
use native.Mathlib.Decide.{dec_le}
use lib.Dec.{leb, ltb, eqb}
use lib.ListN.{length}
use borrow.Author.Tests.{le-leb, lt-leb}
use Rattle.limits.specs.Ceilings.{modes_most, colours_most, bound_most}
use Rattle.refusals.specs.declared.Refusal.TheVariants.{ModeCount, StartMode, ArcLists, ColourCount, Levels}
use Rattle.refusals.specs.Refusals.{Verdict, answer, answer_of, refuse, and_then}
use Rattle.refusals.proofs.Verdicts.{refuse-yes}
use Rattle.refusals.proofs.Tests.{or_no, lt_no}
use Rattle.model.specs.Lists.{Lists, automaton_of}
use Rattle.model.specs.Fitness.{unfit_lists, header, arcs_fitness, fitness, levels_of, EqualLists, Fit}
use Rattle.model.proofs.Fitness.{fitness-yes}
use Rattle.judge.specs.Judged.{judged_plan, judged_levels, judged, judged_answer}
use Rattle.ward.specs.Ward.{ward_fitness}

-- four rows and what is checked after them, top to bottom
rows : (a b c d : Bool) (v : Verdict)
    → and_then (refuse a ModeCount (refuse b StartMode (refuse c ArcLists (refuse d ColourCount (Ok tt))))) v
    ≡ refuse a ModeCount (refuse b StartMode (refuse c ArcLists (refuse d ColourCount v)))
rows true b c d v = refl
rows false true c d v = refl
rows false false true d v = refl
rows false false false true v = refl
rows false false false false v = refl

module _ (n k : ℕ) (l : Lists) where
  -- whether 1 and 3 apply
  abbrev modes_unfit : Bool
  modes_unfit = eqb n 0 || ltb modes_most n

  abbrev lists_unfit : Bool
  lists_unfit =
      unfit_lists (length l.sources) (length l.targets) (length l.draws) (length l.gains) (length l.colours) (length l.actions)

  -- 1 to 5
  fitness-order : (s : ℕ)
      → fitness n s k l
      ≡ refuse modes_unfit ModeCount
      (refuse (leb n s) StartMode
      (refuse lists_unfit ArcLists
      (refuse (ltb colours_most k) ColourCount
      (arcs_fitness n (2 ^ k) l))))
  unfolding fitness header
  fitness-order s = rows modes_unfit (leb n s) lists_unfit (ltb colours_most k) (arcs_fitness n (2 ^ k) l)

  -- the row of 2 with start mode 0 never applies, where 1 does not
  no_start : (m : ℕ) (v : Verdict)
      → refuse (eqb m 0 || ltb modes_most m) ModeCount (refuse (leb m 0) StartMode v) ≡ refuse (eqb m 0 || ltb modes_most m) ModeCount v
  no_start zero v = refl
  no_start (suc m) v = rw (lt-leb (suc m) 0 (omega arith)) refl

  -- "An unfit model met before any wearer (1, 3, 4, 5)": these, in this order, and not 2
  pub ward-order : ward_fitness n k l
      ≡ refuse modes_unfit ModeCount
      (refuse lists_unfit ArcLists
      (refuse (ltb colours_most k) ColourCount
      (arcs_fitness n (2 ^ k) l)))
  unfolding ward_fitness
  ward-order = fitness-order 0 ∙ no_start n (refuse lists_unfit ArcLists (refuse (ltb colours_most k) ColourCount (arcs_fitness n (2 ^ k) l)))

  -- in the words of the model
  pub ward-fitness-yes : (ward_fitness n k l ≡ Ok tt) ↔ (EqualLists l × Fit (automaton_of n 0 k l))
  unfolding ward_fitness
  ward-fitness-yes = fitness-yes n 0 k l

  -- it is unfit, by the same number and detail, as judging says of every wearer whose start mode is below n
  pub ward-fitness-same : (s : ℕ) → s < n → ward_fitness n k l ≡ fitness n s k l
  ward-fitness-same s below = ward-order ∙ sym (rw (fitness-order s, lt-leb n s below) refl)

  -- a model that is fit with some start mode is so for a ward
  pub fit-ward : (s : ℕ) → fitness n s k l ≡ Ok tt → ward_fitness n k l ≡ Ok tt
  fit-ward s e = ward-fitness-same s ((fitness-yes n s k l).0 e).1.starts ∙ e

  -- "2 and 6 are verdicts": where the model is fit, of 1 to 5 only 2 is left for a wearer; 6 and what judging checks of a plan follow
  pub ward-wearer : ward_fitness n k l ≡ Ok tt → (s x b c p q : ℕ) (w : List ℕ)
      → judged n s k l x b c p q w ≡ refuse (leb n s) StartMode (judged_levels (automaton_of n s k l) x b c p q w)
  unfolding judged
  ward-wearer e s x b c p q w =
      let modes = ((refuse-yes modes_unfit ModeCount _).0 (sym ward-order ∙ e)).0 in
      elim (dec_le n s) [
        | yes h ↦ rw (fitness-order s, modes, le-leb n s h) refl
        | no h ↦
            let below : s < n = omega arith in
            rw (lt-leb n s below, sym (ward-fitness-same s below) ∙ e) refl
      ]

  -- .. 2 for a start mode that is not below n, whatever b, c and the plan are,
  pub ward-start : ward_fitness n k l ≡ Ok tt → (s x b c p q : ℕ) (w : List ℕ) → n ≤ s → judged_answer n s k l x b c p q w ≡ answer 2 0
  ward-start e s x b c p q w high = rw (ward-wearer e s x b c p q w, le-leb n s high) refl

  -- .. and else 6 for b above 8,191, or c above b, whatever the plan is
  pub ward-levels : ward_fitness n k l ≡ Ok tt → (s x b c p q : ℕ) (w : List ℕ) → s < n → ((b ≤ bound_most) × (c ≤ b) → ⊥)
      → judged_answer n s k l x b c p q w ≡ answer 6 0
  unfolding judged_levels levels_of
  ward-levels e s x b c p q w below wrong =
      rw (ward-wearer e s x b c p q w, lt-leb n s below) (go (ltb bound_most b || ltb b c) refl)
    where
      go : (t : Bool) → (ltb bound_most b || ltb b c) ≡ t
          → answer_of (and_then (refuse t Levels (Ok tt)) (judged_plan (automaton_of n s k l) x b c p q w)) ≡ answer 6 0
      go true f = refl
      go false f =
          let no = (or_no (ltb bound_most b) (ltb b c)).0 f in
          absurd (wrong ((lt_no bound_most b).0 no.0, (lt_no b c).0 no.1))
