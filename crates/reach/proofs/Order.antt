-- When starting a table and switching an arc are refused, and by what: 1 to 5, then 6, then 12 with detail 0. Assumes nothing.
use Rattle.std.specs.Prelude.{Ok, Err}
use mathlib.Core.Path.{◌≡◌, refl, ap, ◌∙◌}
use mathlib.Core.List.{List}
use mathlib.Core.Logic.{◌↔◌}
use Prim.Native.Nat.{ℕ, ◌≤◌, ◌<◌}
use native.Mathlib.Omega.{arith}
use lib.Dec.{leb}
use lib.ListN.{length, get_or, get_or-replicate}
use borrow.Author.Tests.{le-leb, lt-leb, leb-false}
use Rattle.limits.specs.Ceilings.{modes_most, bound_most}
use Rattle.refusals.specs.declared.Refusal.{Refusal}
use Rattle.refusals.specs.declared.Refusal.TheVariants.{ArcNumber}
use Rattle.refusals.specs.Refusals.{Verdict, refuse, and_then}
use Rattle.refusals.proofs.Verdicts.{refuse-yes, and-then-yes}
use Rattle.model.specs.Automaton.{Automaton}
use Rattle.model.specs.Lists.{Lists, automaton_of}
use Rattle.model.specs.Fitness.{fitness, levels_of, EqualLists, Fit}
use Rattle.model.proofs.Fitness.{fitness-yes, levels-yes}
use Rattle.reach.specs.Table.{unreached}
use Rattle.reach.specs.Reach.{Reached, levelled, switchable, FreshTable}

module _ (n s k : ℕ) (l : Lists) (b c : ℕ) where
  -- none of 1 to 6 applies exactly where the lists are equal, the model is fit and the levels are right
  pub levelled-yes : (levelled n s k l b c ≡ Ok tt) ↔ ((EqualLists l × Fit (automaton_of n s k l)) × ((b ≤ bound_most) × (c ≤ b)))
  unfolding levelled
  levelled-yes =
      let both = and-then-yes (fitness n s k l) (levels_of b c) in (
        λ e. ((fitness-yes n s k l).0 (both.0 e).0, (levels-yes b c).0 (both.0 e).1),
        λ (fit, low). both.1 ((fitness-yes n s k l).1 fit, (levels-yes b c).1 low),
      )

  -- 1 to 5 are looked at first, then 6
  pub levelled-unfit : (y : Refusal) → fitness n s k l ≡ Err y → levelled n s k l b c ≡ Err y
  unfolding levelled
  levelled-unfit y e = ap {B = Verdict} (λ (v : Verdict). and_then v (levels_of b c)) e

  pub levelled-levels : fitness n s k l ≡ Ok tt → levelled n s k l b c ≡ levels_of b c
  unfolding levelled
  levelled-levels e = ap {B = Verdict} (λ (v : Verdict). and_then v (levels_of b c)) e

  module _ (a : ℕ) where
    -- then 12, "detail 0", where there is no such arc
    pub switchable-first : (y : Refusal) → levelled n s k l b c ≡ Err y → switchable n s k l b c a ≡ Err y
    unfolding switchable
    switchable-first y e = ap {B = Verdict} (λ (v : Verdict). and_then v (refuse (leb (length l.sources) a) (ArcNumber 0) (Ok tt))) e

    pub switchable-twelve : levelled n s k l b c ≡ Ok tt → length l.sources ≤ a → switchable n s k l b c a ≡ Err (ArcNumber 0)
    unfolding switchable
    switchable-twelve e h =
        ap {B = Verdict} (λ (v : Verdict). and_then v (refuse (leb (length l.sources) a) (ArcNumber 0) (Ok tt))) e
        ∙ rw (le-leb (length l.sources) a h) refl

    pub switchable-yes : (switchable n s k l b c a ≡ Ok tt) ↔ ((levelled n s k l b c ≡ Ok tt) × (a < length l.sources))
    unfolding switchable
    switchable-yes =
        let m = length l.sources in
        let both = and-then-yes (levelled n s k l b c) (refuse (leb m a) (ArcNumber 0) (Ok tt)) in
        let known = refuse-yes (leb m a) (ArcNumber 0) (Ok tt) in (
          λ e. let (first, then) = both.0 e in (first, omega (arith, leb-false m a (known.0 then).0)),
          λ (first, h). both.1 (first, known.1 (lt-leb m a h, refl)),
        )

-- "A fresh table refused by 1 to 6 is all 'unreached'.", mode by mode
pub fresh-unreached : {g : Automaton} {on : List ℕ} {b c : ℕ} {y : Refusal} {r : Reached} → FreshTable (Err y) g on b c r
    → (s : ℕ) → s < modes_most → get_or r.reach.charges s 0 ≡ unreached
fresh-unreached {y = y} h s low = ap {B = ℕ} (λ (u : List ℕ). get_or u s 0) (h.refused y refl) ∙ get_or-replicate {A = ℕ} modes_most s unreached 0 low
