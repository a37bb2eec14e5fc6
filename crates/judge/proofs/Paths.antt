-- The scan for 12 to 14: at every position, what is left to be said of the plan and the mode that the rest leads to; and where the cycle
-- begins, as the code reads it. Assumes nothing.
use Rattle.std.specs.Prelude.{Ok, Err}
use mathlib.Core.Path.{◌≡◌, refl, sym, ap, ◌∙◌}
use mathlib.Core.Bool.{Bool, not}
use mathlib.Core.List.{List}
use mathlib.Core.Logic.{◌≢◌}
use Prim.Native.Nat.{ℕ, ◌+◌, ◌≤◌, ◌<◌}
use native.Mathlib.Numerals.{add-one}
use native.Mathlib.Omega.{arith}
use borrow.Author.Tests.{eq-eqb, ne_eqb}
use lib.Dec.{eqb}
use lib.ListN.{length, get_or, take, drop, drop_of_length-le}
use lib.Seq.{drop-cons}
use Rattle.limits.specs.Ceilings.{arcs_most}
use Rattle.refusals.specs.declared.Refusal.TheVariants.{ArcNumber, OtherMode, OpenCycle}
use Rattle.refusals.specs.Refusals.{refuse, and_then}
use Rattle.refusals.proofs.Verdicts.{and-then-yes, and-then-stop, and-then-last}
use Rattle.refusals.proofs.Tests.{differ-no}
use Rattle.refusals.proofs.Scan.{scan-yes}
use Rattle.model.specs.declared.Arc.{Arc}
use Rattle.model.specs.declared.Model.{Model}
use Rattle.model.specs.Automaton.{Automaton, arc_at}
use Rattle.model.specs.Fitness.{Holds}
use Rattle.model.specs.Lists.{held}
use Rattle.model.proofs.Held.{arc_in, held-arc}
use Rattle.judge.specs.Shape.{numbers, chain, numbers_then_chain, mode_after, closing, path}
use Rattle.judge.proofs.Arcs.{path-arcs}
use Rattle.judge.proofs.Firsts.{leaves_other, chain-scan}
use Rattle.judge.proofs.Scans.{numbers-stop, numbers_on, numbers-end}

-- 13 at position i, in mode s, where the arc there is one of the model
chain-at : (g : Model) (s : ℕ) (w : List ℕ) (i : ℕ) → i < length w → get_or w i 0 < g.count → chain (held g) s (drop i w) i
    ≡ refuse (not (eqb (arc_in g (get_or w i 0)).source s)) (OtherMode i) (chain (held g) (arc_in g (get_or w i 0)).target (drop (i + 1) w) (i + 1))
unfolding chain
chain-at g s w i h q = rw (drop-cons w i 0 h, add-one i, held-arc g (get_or w i 0) q) refl

-- the arc at position p leaves the mode that the arcs before it lead to
chain-source : (g : Automaton) (w : List ℕ) (s p : ℕ) → p < length w → chain g s w 0 ≡ Ok tt → (arc_at g (get_or w p 0)).source ≡ mode_after g s (take p w)
chain-source g w s p h e =
    let none = (scan-yes (leaves_other g s w) OtherMode (length w) (λ k. chain g (mode_after g s (take k w)) (drop k w) k) (chain-scan g s w)).0 e in
    (differ-no (arc_at g (get_or w p 0)).source (mode_after g s (take p w))).0 (none p h)

-- the scan at position i, in mode s: the verdict on 12 and 13 is that on the rest, and the plan leads where the rest does
pub record Following (g : Model) (w : List ℕ) (s i : ℕ) : Type 0 where
  pub within : i ≤ length w
  pub verdict : numbers_then_chain (held g) g.start w 0 ≡ numbers_then_chain (held g) s (drop i w) i
  pub leads : mode_after (held g) g.start w ≡ mode_after (held g) s (drop i w)

pub following-none : (g : Model) (w : List ℕ) → Following g w g.start 0
following-none g w = record { within = omega arith; verdict = refl; leads = refl }

module _ (g : Model) (holds : Holds g) (w : List ℕ) (s i : ℕ) (state : Following g w s i) (p : ℕ) where
  -- 12 applies at position i
  pub following-number : i < length w → g.count ≤ get_or w i 0 → Err (ArcNumber i) ≡ path (held g) p w
  following-number h q =
      let stop = numbers-stop (length (held g).arcs) w i h (omega (arith, holds.count)) in
      and-then-stop _ _ _ (state.verdict ∙ rw stop refl)

  module _ (h : i < length w) (below : get_or w i 0 < g.count) where
    on : numbers (length (held g).arcs) (drop i w) i ≡ numbers (length (held g).arcs) (drop (i + 1) w) (i + 1)
    on = numbers_on (length (held g).arcs) w i h (omega (arith, holds.count))

    -- the arc leaves another mode: 12 in the rest comes first
    pub following-other : (arc_in g (get_or w i 0)).source ≢ s
        → and_then (numbers g.count (drop (i + 1) w) (i + 1)) (Err (OtherMode i)) ≡ path (held g) p w
    following-other d =
        let here : numbers_then_chain (held g) s (drop i w) i ≡ and_then (numbers g.count (drop (i + 1) w) (i + 1)) (Err (OtherMode i)) =
        rw (on, chain-at g s w i h below, ne_eqb (arc_in g (get_or w i 0)).source s d, holds.count) refl
        in
        rw (state.verdict ∙ here) (and-then-last (numbers g.count (drop (i + 1) w) (i + 1)) (closing (held g) p w) (OtherMode i))

    -- it leaves this mode, and the scan goes on in the mode that it enters
    pub following-on : (arc_in g (get_or w i 0)).source ≡ s → Following g w (arc_in g (get_or w i 0)).target (i + 1)
    following-on e =
        let here : numbers_then_chain (held g) s (drop i w) i ≡ numbers_then_chain (held g) (arc_in g (get_or w i 0)).target (drop (i + 1) w) (i + 1) =
        rw (on, chain-at g s w i h below, eq-eqb (arc_in g (get_or w i 0)).source s e) refl
        in
        let enters : mode_after (held g) s (drop i w) ≡ mode_after (held g) (arc_at (held g) (get_or w i 0)).target (drop (i + 1) w) =
        rw (drop-cons w i 0 h, add-one i) refl
        in
        let same = ap {B = ℕ} (λ (a : Arc). mode_after (held g) a.target (drop (i + 1) w)) (held-arc g (get_or w i 0) below) in
        record { within = omega arith; verdict = state.verdict ∙ here; leads = state.leads ∙ enters ∙ same }

  -- past the last position neither 12 nor 13 applies
  pub following-done : length w ≤ i → numbers_then_chain (held g) g.start w 0 ≡ Ok tt
  unfolding chain
  following-done h = state.verdict ∙ rw (numbers-end (length (held g).arcs) w i h, drop_of_length-le w {i = i} h) refl

  -- the arc at position p is one of the model
  pub following-inside : length w ≤ i → p < length w → get_or w p 0 < arcs_most
  following-inside h inside =
      let arcs = path-arcs g holds w g.start (following-done h) in
      omega (arith, arcs.few, arcs.below p inside)

  -- 14, by the source of the arc at position p and the mode at the end
  following-closes : length w ≤ i → p < length w → (t : Bool) → eqb (arc_in g (get_or w p 0)).source s ≡ t
      → refuse (not t) OpenCycle (Ok tt) ≡ path (held g) p w
  unfolding closing
  following-closes h inside t e =
      let done = following-done h in
      let follows = ((and-then-yes (numbers (length (held g).arcs) w 0) (chain (held g) g.start w 0)).0 done).1 in
      let arc = held-arc g (get_or w p 0) ((path-arcs g holds w g.start done).below p inside) in
      let begins = ap {B = ℕ} (λ (a : Arc). a.source) (sym arc) ∙ chain-source (held g) w g.start p inside follows in
      let ends : mode_after (held g) g.start w ≡ s = state.leads ∙ rw (drop_of_length-le w {i = i} h) refl in
      rw (done, ← begins, ends, e) refl

  pub following-open : length w ≤ i → p < length w → (arc_in g (get_or w p 0)).source ≢ s → Err OpenCycle ≡ path (held g) p w
  following-open h inside e = following-closes h inside _ (ne_eqb _ _ e)

  pub following-shut : length w ≤ i → p < length w → (arc_in g (get_or w p 0)).source ≡ s → Ok tt ≡ path (held g) p w
  following-shut h inside e = following-closes h inside _ (eq-eqb _ _ e)

pub ruleset path_turns = (following-none, following-number, following-other, following-on, following-inside, following-open, following-shut)
