-- Where none of 1 to 6 and 8 applies, and in which order they are looked at. Assumes nothing.
use Rattle.std.specs.Prelude.{Ok, Err}
use mathlib.Core.Path.{◌≡◌, refl, ap, ◌∙◌}
use mathlib.Core.Logic.{◌↔◌}
use Prim.Native.Nat.{ℕ, ◌+◌, ◌*◌, ◌≤◌, ◌<◌}
use native.Mathlib.Nat.{mul_assoc, add-mul, mul-le-mul}
use native.Mathlib.Omega.{arith}
use lib.Dec.{ltb}
use Rattle.limits.specs.Ceilings.{work_levels, decide_bound_most, decide_words, decide_space}
use Rattle.refusals.specs.declared.Refusal.{Refusal}
use Rattle.refusals.specs.declared.Refusal.TheVariants.{WorkingSpace}
use Rattle.refusals.specs.Refusals.{Verdict, and_then}
use Rattle.refusals.proofs.Verdicts.{clash, refuse-yes, and-then-yes}
use Rattle.refusals.proofs.Tests.{lt_no}
use Rattle.model.specs.Automaton.{Automaton}
use Rattle.model.specs.declared.Model.{Model}
use Rattle.model.specs.Lists.{Lists, model_of, automaton_of, held}
use Rattle.model.specs.Fitness.{fitness, levels_within, fitted_of, EqualLists, Fit}
use Rattle.model.proofs.Fitness.{fitness-yes, levels-within-yes, fitted-held, fitted-holds}
use Rattle.decide.specs.Decide.{space_of, levels_and_space, decidable}
use Rattle.decide.specs.Within.{checked_with, checked_of, Answerable}

-- 8 does not apply
pub space-yes : (n k words : ℕ) → (space_of n k words ≡ Ok tt) ↔ (decide_space k n ≤ words)
unfolding space_of
space-yes n k words =
    let row = refuse-yes (ltb words (decide_space k n)) WorkingSpace (Ok tt) in
    let eight = lt_no words (decide_space k n) in
    (λ e. eight.0 (row.0 e).0, λ h. row.1 (eight.1 h, refl))

-- none of 1 to 6 and 8 applies
pub record Admitted (n s k : ℕ) (l : Lists) (b c words : ℕ) : Type 0 where
  pub equal : EqualLists l
  pub fit : Fit (automaton_of n s k l)
  pub low : b ≤ decide_bound_most
  pub credit : c ≤ b
  pub space : decide_space k n ≤ words

pub decidable-yes : (n s k : ℕ) (l : Lists) (b c words : ℕ) → (decidable n s k l b c words ≡ Ok tt) ↔ Admitted n s k l b c words
unfolding decidable levels_and_space
decidable-yes n s k l b c words =
    let outer = and-then-yes (fitness n s k l) (levels_and_space n k b c words) in
    let inner = and-then-yes (levels_within decide_bound_most b c) (space_of n k words) in (
      λ e.
          let (equal, fit) = (fitness-yes n s k l).0 (outer.0 e).0 in
          let (low, credit) = (levels-within-yes decide_bound_most b c).0 (inner.0 (outer.0 e).1).0 in
          record { equal = equal; fit = fit; low = low; credit = credit; space = (space-yes n k words).0 (inner.0 (outer.0 e).1).1 },
      λ a.
          outer.1 (
            (fitness-yes n s k l).1 (a.equal, a.fit),
            inner.1 ((levels-within-yes decide_bound_most b c).1 (a.low, a.credit), (space-yes n k words).1 a.space),
          ),
    )

-- the order: 1 to 5, then 6, then 8
module _ (n s k : ℕ) (l : Lists) (b c words : ℕ) where
  pub decidable-unfit : (y : Refusal) → fitness n s k l ≡ Err y → decidable n s k l b c words ≡ Err y
  unfolding decidable
  decidable-unfit y e = rw e refl

  pub decidable-levels : (y : Refusal) → fitness n s k l ≡ Ok tt → levels_within decide_bound_most b c ≡ Err y → decidable n s k l b c words ≡ Err y
  unfolding decidable levels_and_space
  decidable-levels y e h = ap {B = Verdict} (λ (v : Verdict). and_then v (levels_and_space n k b c words)) e ∙ ap {B = Verdict} (λ (v : Verdict). and_then v (space_of n k words)) h

  pub decidable-space : fitness n s k l ≡ Ok tt → levels_within decide_bound_most b c ≡ Ok tt → decidable n s k l b c words ≡ space_of n k words
  unfolding decidable levels_and_space
  decidable-space e h = ap {B = Verdict} (λ (v : Verdict). and_then v (levels_and_space n k b c words)) e ∙ ap {B = Verdict} (λ (v : Verdict). and_then v (space_of n k words)) h

-- A model is handed back where a check says yes, ..
pub handed-yes : (v : Verdict) (h : Model) {g : Model} → Ok g ≡ and_then v (Ok h) → (v ≡ Ok tt) × (g ≡ h)
handed-yes (Ok _) h e = (refl, cc)
handed-yes (Err r) h e = clash (cc)

-- .. and else its refusal
pub handed-refused : (v : Verdict) (h : Model) {r : Refusal} → Err r ≡ and_then v (Ok h) → v ≡ Err r
handed-refused (Ok _) h e = clash (cc)
handed-refused (Err q) h e = cc

-- what 1 to 5 and a further check of the model hand back
pub checked-handed : (n s k : ℕ) (l : Lists) (check : Model → Verdict)
    → checked_with check (fitted_of n s k l) ≡ and_then (and_then (fitness n s k l) (check (model_of n s k l))) (Ok (model_of n s k l))
unfolding fitted_of
checked-handed n s k l check = go (fitness n s k l)
  where
    go : (v : Verdict) → checked_with check (and_then v (Ok (model_of n s k l))) ≡ and_then (and_then v (check (model_of n s k l))) (Ok (model_of n s k l))
    go (Ok _) = refl
    go (Err r) = refl

module _ (n s k : ℕ) (l : Lists) (b c words : ℕ) where
  told : checked_of n s k l b c words ≡ and_then (decidable n s k l b c words) (Ok (model_of n s k l))
  unfolding decidable levels_and_space
  told = checked-handed n s k l (λ g. and_then (levels_within decide_bound_most b c) (space_of g.modes g.colours words))

  -- as the code looks at them: one of 1 to 6 and 8 applies, ..
  pub told-refused : {r : Refusal} → Err r ≡ checked_of n s k l b c words → decidable n s k l b c words ≡ Err r
  told-refused e = handed-refused (decidable n s k l b c words) (model_of n s k l) (e ∙ told)

  -- .. or the model that the code is handed is fit, and neither 6 nor 8 applies
  module _ {g : Model} (e : Ok g ≡ checked_of n s k l b c words) where
    pub told-yes : decidable n s k l b c words ≡ Ok tt
    told-yes = (handed-yes (decidable n s k l b c words) (model_of n s k l) (e ∙ told)).0

    fitness-told : fitness n s k l ≡ Ok tt
    unfolding decidable
    fitness-told = ((and-then-yes (fitness n s k l) (levels_and_space n k b c words)).0 told-yes).0

    model-told : g ≡ model_of n s k l
    model-told = (handed-yes (decidable n s k l b c words) (model_of n s k l) (e ∙ told)).1

    pub told-held : held g ≡ automaton_of n s k l
    told-held = ap {B = Automaton} held model-told ∙ (fitted-held n s k l fitness-told).1

    pub told-answerable : Answerable g b c words
    told-answerable =
        let a = (decidable-yes n s k l b c words).0 told-yes in
        rw model-told (record { holds = fitted-holds n s k l fitness-told; credit = a.credit; low = a.low; space = a.space })

-- the product of the test fits its word
pub space-low : (n k : ℕ) → n < 256 → k < 256 → decide_space k n ≤ decide_words * 256 * 256
space-low n k h i =
    let levels : decide_words * (k + work_levels) ≤ decide_words * 256 = omega arith in
    let modes : n ≤ 256 = omega arith in
    mul-le-mul levels modes

-- the space has a word for each mode
pub space-modes : (k n words : ℕ) → decide_space k n ≤ words → n ≤ words
space-modes k n words h = omega (arith, mul_assoc decide_words (k + work_levels) n, add-mul k work_levels n)
