-- Where none of 1 to 8 applies, and in which order they are looked at. Assumes nothing.
use Rattle.std.specs.Prelude.{Ok, Err}
use mathlib.Core.Path.{◌≡◌, refl, ap, ◌∙◌}
use mathlib.Core.Logic.{◌↔◌}
use Prim.Native.Nat.{ℕ, ◌+◌, ◌*◌, ◌≤◌}
use native.Mathlib.Omega.{arith}
use lib.Dec.{ltb}
use Rattle.limits.specs.Ceilings.{bound_most, product_most, work_space}
use Rattle.refusals.specs.declared.Refusal.{Refusal}
use Rattle.refusals.specs.declared.Refusal.TheVariants.{Product, WorkingSpace}
use Rattle.refusals.specs.Refusals.{Verdict, and_then}
use Rattle.refusals.proofs.Verdicts.{refuse-yes, and-then-yes}
use Rattle.refusals.proofs.Tests.{lt_no}
use Rattle.model.specs.Automaton.{Automaton}
use Rattle.model.specs.declared.Model.{Model}
use Rattle.model.specs.Lists.{Lists, model_of, automaton_of, held}
use Rattle.model.specs.Fitness.{fitness, EqualLists, Fit}
use Rattle.model.proofs.Fitness.{fitness-yes, levels-yes, fitted-held, fitted-holds}
use Rattle.decide.proofs.Decidable.{handed-yes, handed-refused, checked-handed}
use Rattle.least.specs.declared.Sought.{Sought}
use Rattle.least.specs.declared.Sought.TheVariants.{Credit, Bound}
use Rattle.least.specs.Least.{level_of, largest_tried, space_of, seekable}
use Rattle.least.specs.Within.{checked_of, Answerable}
use Rattle.least.proofs.Levels.{factor-low}

-- neither 7 nor 8 applies
pub space-yes : (s : Sought) (n k given words : ℕ) → (space_of s n k given words ≡ Ok tt)
    ↔ ((n * (given + 1) ≤ product_most) × (work_space k n (largest_tried s n given) ≤ words))
unfolding space_of
space-yes s n k given words =
    let product = ltb product_most (n * (given + 1)) in
    let short = ltb words (work_space k n (largest_tried s n given)) in
    let seven = lt_no product_most (n * (given + 1)) in
    let eight = lt_no words (work_space k n (largest_tried s n given)) in (
      λ e.
          let r7 = (refuse-yes product Product _).0 e in
          let r8 = (refuse-yes short WorkingSpace (Ok tt)).0 r7.1 in
          (seven.0 r7.0, eight.0 r8.0),
      λ h. (refuse-yes product Product _).1 (seven.1 h.0, (refuse-yes short WorkingSpace (Ok tt)).1 (eight.1 h.1, refl)),
    )

-- 6 does not apply: to a given bound by its ceiling, to a given credit never
pub level-yes : (s : Sought) (given : ℕ) → given ≤ bound_most → level_of s given ≡ Ok tt
level-yes Credit b h = (levels-yes b 0).1 (h, omega arith)
level-yes Bound c h = refl

-- none of 1 to 8 applies; where 7 does not, 6 does not either
pub record Admitted (s : Sought) (n start k : ℕ) (l : Lists) (given words : ℕ) : Type 0 where
  pub equal : EqualLists l
  pub fit : Fit (automaton_of n start k l)
  pub product : n * (given + 1) ≤ product_most
  pub space : work_space k n (largest_tried s n given) ≤ words

module _ (s : Sought) (n start k : ℕ) (l : Lists) (given words : ℕ) where
  pub seekable-yes : (seekable s n start k l given words ≡ Ok tt) ↔ Admitted s n start k l given words
  unfolding seekable
  seekable-yes =
      let outer = and-then-yes (fitness n start k l) (and_then (level_of s given) (space_of s n k given words)) in
      let inner = and-then-yes (level_of s given) (space_of s n k given words) in (
        λ e.
            let (equal, fit) = (fitness-yes n start k l).0 (outer.0 e).0 in
            let (product, space) = (space-yes s n k given words).0 (inner.0 (outer.0 e).1).1 in
            record { equal = equal; fit = fit; product = product; space = space },
        λ a.
            outer.1 (
              (fitness-yes n start k l).1 (a.equal, a.fit),
              inner.1 (level-yes s given (factor-low n given a.fit.some-mode a.product), (space-yes s n k given words).1 (a.product, a.space)),
            ),
      )

  -- the order: 1 to 5, then 6, then 7 and 8
  pub seekable-unfit : (y : Refusal) → fitness n start k l ≡ Err y → seekable s n start k l given words ≡ Err y
  unfolding seekable
  seekable-unfit y e = rw e refl

  pub seekable-level : (y : Refusal) → fitness n start k l ≡ Ok tt → level_of s given ≡ Err y → seekable s n start k l given words ≡ Err y
  unfolding seekable
  seekable-level y e h =
      ap {B = Verdict} (λ (v : Verdict). and_then v (and_then (level_of s given) (space_of s n k given words))) e
      ∙ ap {B = Verdict} (λ (v : Verdict). and_then v (space_of s n k given words)) h

  pub seekable-space : fitness n start k l ≡ Ok tt → level_of s given ≡ Ok tt → seekable s n start k l given words ≡ space_of s n k given words
  unfolding seekable
  seekable-space e h =
      ap {B = Verdict} (λ (v : Verdict). and_then v (and_then (level_of s given) (space_of s n k given words))) e
      ∙ ap {B = Verdict} (λ (v : Verdict). and_then v (space_of s n k given words)) h

  told : checked_of s n start k l given words ≡ and_then (seekable s n start k l given words) (Ok (model_of n start k l))
  unfolding seekable
  told = checked-handed n start k l (λ g. and_then (level_of s given) (space_of s g.modes g.colours given words))

  -- as the code looks at them: one of 1 to 8 applies, ..
  pub told-refused : {r : Refusal} → Err r ≡ checked_of s n start k l given words → seekable s n start k l given words ≡ Err r
  told-refused e = handed-refused (seekable s n start k l given words) (model_of n start k l) (e ∙ told)

  -- .. or the model that the code is handed is fit, and 7 does not apply
  module _ {g : Model} (e : Ok g ≡ checked_of s n start k l given words) where
    pub told-yes : seekable s n start k l given words ≡ Ok tt
    told-yes = (handed-yes (seekable s n start k l given words) (model_of n start k l) (e ∙ told)).0

    fitness-told : fitness n start k l ≡ Ok tt
    unfolding seekable
    fitness-told = ((and-then-yes (fitness n start k l) (and_then (level_of s given) (space_of s n k given words))).0 told-yes).0

    model-told : g ≡ model_of n start k l
    model-told = (handed-yes (seekable s n start k l given words) (model_of n start k l) (e ∙ told)).1

    pub told-held : held g ≡ automaton_of n start k l
    told-held = ap {B = Automaton} held model-told ∙ (fitted-held n start k l fitness-told).1

    pub told-answerable : Answerable g given
    told-answerable =
        rw model-told (record { holds = fitted-holds n start k l fitness-told; product = (seekable-yes.0 told-yes).product })
