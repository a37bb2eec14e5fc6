-- The arcs of six lists: as a list, as the array that is filled from it, and the verdict on them. Assumes nothing.
use Rattle.std.specs.Prelude.{Ok, Err}
use mathlib.Core.Path.{◌≡◌, refl, sym, ap, ◌∙◌}
use mathlib.Core.Bool.{true, false}
use mathlib.Core.List.{List, ◌∷◌}
use Prim.Native.Nat.{ℕ, zero, suc, ◌+◌, ◌-◌, ◌^◌, ◌≤◌, ◌<◌}
use native.Mathlib.Nat.{add-zero}
use native.Mathlib.Numerals.{add-one}
use native.Mathlib.Omega.{arith}
use native.Mathlib.Decide.{dec_le, ℕ_discrete}
use lib.ListN.{length, get_or, set, take, replicate, length-set, length-replicate, get_or-replicate, get_or-eq_default}
use lib.Seq.{get_or-set_same, get_or-set_other, ext_get_or}
use Rattle.limits.specs.Ceilings.{arcs_most}
use Rattle.model.specs.declared.Arc.{Arc}
use Rattle.refusals.specs.declared.Refusal.{Refusal}
use Rattle.refusals.specs.declared.Refusal.TheVariants.{UnfitArc}
use Rattle.model.specs.Automaton.{no_arc}
use Rattle.refusals.specs.Refusals.{refuse}
use Rattle.model.specs.Lists.{Lists, arc_of, arcs_from}
use Rattle.model.specs.Fitness.{unfit_arc, arcs_verdict, arcs_fitness, EqualLists, fitted_arcs}

module _ (l : Lists) where
  pub arcs-length : (m i : ℕ) → length (arcs_from l m i) ≡ m
  arcs-length zero i = refl
  arcs-length (suc m) i = ap suc (arcs-length m (suc i))

  -- arc a of m arcs from i on
  pub arcs-at : (m i a : ℕ) → a < m → get_or (arcs_from l m i) a no_arc ≡ arc_of l (i + a)
  arcs-at zero i a h = absurd (omega arith)
  arcs-at (suc m) i zero h = ap {B = Arc} (arc_of l) (sym (add-zero i))
  arcs-at (suc m) i (suc a) h = arcs-at m (suc i) a (omega arith) ∙ ap {B = Arc} (arc_of l) (omega arith)

  pub arcs-here : (m a : ℕ) → a < m → get_or (arcs_from l m 0) a no_arc ≡ arc_of l a
  arcs-here m a h = arcs-at m 0 a h ∙ ap {B = Arc} (arc_of l) (omega arith)

  -- the first m of more arcs
  pub arcs-take : (m r i : ℕ) → take m (arcs_from l (m + r) i) ≡ arcs_from l m i
  arcs-take zero r i = refl
  arcs-take (suc m) r i =
      let e : suc m + r ≡ suc (m + r) = omega arith in
      rw e (ap {B = List Arc} (λ x. arc_of l i ∷ x) (arcs-take m r (suc i)))

  -- past the last arc nothing stands
  pub arc-none : (a : ℕ) → length l.sources ≤ a → length l.targets ≤ a → length l.draws ≤ a → length l.gains ≤ a
      → length l.colours ≤ a → length l.actions ≤ a → arc_of l a ≡ no_arc
  arc-none a hs ht hd hg hc hx =
      simp (
        get_or-eq_default l.sources 0 hs,
        get_or-eq_default l.targets 0 ht,
        get_or-eq_default l.draws 0 hd,
        get_or-eq_default l.gains 0 hg,
        get_or-eq_default l.colours 0 hc,
        get_or-eq_default l.actions 0 hx,
      )

  -- an array whose first i places have the arcs, and whose others are blank
  pub record Filled (i : ℕ) (arcs : List Arc) : Type 0 where
    pub long : length arcs ≡ arcs_most
    pub done : (a : ℕ) → a < i → get_or arcs a no_arc ≡ arc_of l a
    pub blank : (a : ℕ) → i ≤ a → a < arcs_most → get_or arcs a no_arc ≡ no_arc

  pub filled_none : Filled 0 (replicate arcs_most no_arc)
  filled_none =
      record {
        long = length-replicate arcs_most no_arc;
        done = λ a h. absurd (omega arith);
        blank = λ a h q. get_or-replicate arcs_most a no_arc no_arc q;
      }

  pub filled_more : (i : ℕ) (arcs : List Arc) (x : Arc) → i < arcs_most → x ≡ arc_of l i → Filled i arcs → Filled (i + 1) (set arcs i x)
  filled_more i arcs x hi e f =
      record {
        long = length-set arcs i x ∙ f.long;
        done = λ a h.
            elim (ℕ_discrete a i) [
              | yes q ↦ rw q (get_or-set_same arcs i x no_arc (omega (arith, f.long)) ∙ e)
              | no q ↦ get_or-set_other arcs i a x no_arc q ∙ f.done a (omega arith)
            ];
        blank = λ a h q. get_or-set_other arcs i a x no_arc (λ z. omega arith) ∙ f.blank a (omega arith) q;
      }

  -- an array that is filled to the end has every arc, and no other
  pub filled-all : (arcs : List Arc) → EqualLists l → Filled (length l.sources) arcs → arcs ≡ arcs_from l arcs_most 0
  filled-all arcs equal f =
      ext_get_or no_arc arcs (arcs_from l arcs_most 0) (f.long ∙ sym (arcs-length arcs_most 0)) λ a h.
      let q : a < arcs_most = omega (arith, f.long) in
      elim (dec_le (length l.sources) a) [
        | yes p ↦
            f.blank a p q
            ∙ sym (arc-none a p (omega (arith, equal.targets)) (omega (arith, equal.draws)) (omega (arith, equal.gains))
            (omega (arith, equal.colours)) (omega (arith, equal.actions)))
            ∙ sym (arcs-here arcs_most a q)
        | no p ↦ f.done a (omega arith) ∙ sym (arcs-here arcs_most a q)
      ]

  module _ (n power : ℕ) where
    -- what is left of the arcs from i on, by one arc
    pub verdict-more : (m i : ℕ) → i < m → arcs_verdict n power (arcs_from l (m - i) i) i
        ≡ refuse (unfit_arc n power (arc_of l i)) (UnfitArc i) (arcs_verdict n power (arcs_from l (m - (i + 1)) (i + 1)) (i + 1))
    unfolding arcs_verdict
    verdict-more m i h =
        let e : m - i ≡ suc (m - (i + 1)) = omega arith in
        rw (e, add-one i) refl

    pub verdict-none : (m i : ℕ) → m ≤ i → arcs_verdict n power (arcs_from l (m - i) i) i ≡ Ok tt
    unfolding arcs_verdict
    verdict-none m i h = let e : m - i ≡ 0 = omega arith in rw e refl

-- the state of a pass at arc i: i arcs are fit, and the verdict is that on the others
pub record Checking (n power : ℕ) (l : Lists) (i : ℕ) : Type 0 where
  pub within : i ≤ length l.sources
  pub verdict : arcs_fitness n power l ≡ arcs_verdict n power (arcs_from l (length l.sources - i) i) i

-- the state of the pass that copies: the i arcs are in the array too
pub record Copying (n power : ℕ) (l : Lists) (arcs : List Arc) (i : ℕ) : Type 0 where
  pub checked : Checking n power l i
  pub filled : Filled l i arcs

module _ (n power : ℕ) (l : Lists) where
  pub checking-none : Checking n power l 0
  checking-none =
      let e : length l.sources - 0 ≡ length l.sources = omega arith in
      record { within = omega arith; verdict = rw e refl }

  module _ (i : ℕ) (state : Checking n power l i) where
    -- an arc that is fit lets the pass go on
    pub checking-more : (x : Arc) → i < length l.sources → x ≡ arc_of l i → unfit_arc n power x ≡ false → Checking n power l (i + 1)
    checking-more x h e fit =
        record { within = omega arith; verdict = state.verdict ∙ verdict-more l n power (length l.sources) i h ∙ rw (sym e, fit) refl }

    -- the first that is unfit is the verdict
    pub checking-unfit : (x : Arc) → i < length l.sources → x ≡ arc_of l i → unfit_arc n power x ≡ true → arcs_fitness n power l ≡ Err (UnfitArc i)
    checking-unfit x h e unfit = state.verdict ∙ verdict-more l n power (length l.sources) i h ∙ rw (sym e, unfit) refl

    -- past the last arc the verdict is yes
    pub checking-done : length l.sources ≤ i → arcs_fitness n power l ≡ Ok tt
    checking-done h = state.verdict ∙ verdict-none l n power (length l.sources) i h

  pub copying-none : Copying n power l (replicate arcs_most no_arc) 0
  copying-none = record { checked = checking-none; filled = filled_none l }

  module _ (arcs : List Arc) (i : ℕ) (state : Copying n power l arcs i) where
    -- an arc that is fit is copied
    pub copying-more : (x : Arc) → i < length l.sources → length l.sources ≤ arcs_most → x ≡ arc_of l i → unfit_arc n power x ≡ false
        → Copying n power l (set arcs i x) (i + 1)
    copying-more x h few e fit =
        record { checked = checking-more i state.checked x h e fit; filled = filled_more l i arcs x (omega arith) e state.filled }

    -- the first that is unfit is the verdict
    pub copying-unfit : (x : Arc) → i < length l.sources → x ≡ arc_of l i → unfit_arc n power x ≡ true
        → arcs_fitness n power l ≡ Err (UnfitArc i)
    copying-unfit = checking-unfit i state.checked

    -- past the last arc the verdict is yes, and the array has every arc
    pub copying-done : length l.sources ≤ i → EqualLists l → (arcs_fitness n power l ≡ Ok tt) × (arcs ≡ arcs_from l arcs_most 0)
    copying-done h equal =
        let e : i ≡ length l.sources = omega (arith, state.checked.within) in
        (checking-done i state.checked h, filled-all l arcs equal (rw e at state.filled))

-- what the pass hands back is what the definition says
module _ (n s k power : ℕ) (l : Lists) (two-to-k : power ≡ 2 ^ k) where
  pub fitted-refused : (r : Refusal) → arcs_fitness n power l ≡ Err r → Err r ≡ fitted_arcs n s k l
  fitted-refused r e = rw (← two-to-k, e) refl

  pub fitted-yes : (arcs : List Arc) → arcs_fitness n power l ≡ Ok tt → arcs ≡ arcs_from l arcs_most 0
      → Ok (record { modes = n; start = s; colours = k; count = length l.sources; arcs = arcs }) ≡ fitted_arcs n s k l
  fitted-yes arcs e f = rw (← two-to-k, e, f) refl
