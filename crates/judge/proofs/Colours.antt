-- What the yes of refusals 24 and 17 says: every required colour stands on some arc of the cycle, and no barred one; what they say with nothing
-- barred; and that they ignore the bits at or above k. Assumes nothing.
use Rattle.std.specs.Prelude.{Ok}
use mathlib.Core.Path.{◌≡◌, refl, sym, ◌∙◌}
use mathlib.Core.Bool.{Bool, true, false, true≢false, not, ◌||◌}
use mathlib.Core.List.{List, [], ◌∷◌}
use mathlib.Core.Logic.{◌↔◌, inl, inr, ⊎_elim}
use Prim.Native.Nat.{ℕ, zero, suc, ◌+◌, ◌-◌, ◌<◌}
use native.Mathlib.Nat.{sub-zero}
use native.Mathlib.Omega.{arith}
use lib.ListN.{length}
use borrow.Author.Tests.{not-false}
use Rattle.refusals.specs.declared.Refusal.TheVariants.{MissingColour, BarredColour}
use Rattle.refusals.proofs.Verdicts.{clash, refuse-yes, and-then-yes, and-then-on}
use Rattle.refusals.proofs.Tests.{or_yes, is-no}
use Rattle.refusals.proofs.Scan.{scan-yes}
use Rattle.model.specs.Automaton.{Automaton, arc_at, bit, meets, has_barred}
use Rattle.model.specs.Plans.{Plan, SomeArc, Meets, Accepted}
use Rattle.model.proofs.Bits.{bit-zero}
use Rattle.model.proofs.Barred.{common-none, barred-ignored}
use Rattle.judge.specs.Colours.{some_arc, missing_from, barred_from, colours_of, accepted_of}
use Rattle.judge.proofs.Firsts.{missing-scan}

-- the computed test is the fact
pub has_arc : (test : ℕ → Bool) (w : List ℕ) → (some_arc test w ≡ true) ↔ SomeArc test w
has_arc test [] = (λ e. clash (cc), λ h. absurd h)
has_arc test (a ∷ w) =
    let ih = has_arc test w in
    let here = or_yes (test a) (some_arc test w) in (
      λ e. ⊎_elim (λ q. inl q) (λ q. inr (ih.0 q)) (here.0 e),
      λ h. here.1 (⊎_elim (λ q. inl q) (λ q. inr (ih.1 q)) h),
    )

-- 17 does not apply exactly where every required colour stands on some arc of the cycle
pub colours-yes : (g : Automaton) (x : ℕ) (w : List ℕ) → (colours_of g x w ≡ Ok tt) ↔ ((j : ℕ) → j < g.colours → bit x j ≡ false → Meets g j w)
unfolding colours_of
colours-yes g x w =
    let k = g.colours in
    let has : ℕ → Bool = λ j. bit x j || some_arc (meets g j) w in
    let all = rw (sub-zero k) at (scan-yes (λ j. not (has j)) MissingColour k (λ i. missing_from has (k - i) i) (missing-scan has k)) in (
      λ e j h q. (has_arc (meets g j) w).0 (rw q at (not-false (has j) (all.0 e j h))),
      λ f. all.1 (λ j h. either j (bit x j) (λ q. (has_arc (meets g j) w).1 (f j h q))),
    )
  where
    either : (j : ℕ) (t : Bool) → (t ≡ false → some_arc (meets g j) w ≡ true) → not (t || some_arc (meets g j) w) ≡ false
    either j true q = refl
    either j false q = rw (q refl) refl

-- 24 does not apply exactly where no barred colour stands on an arc of the cycle
pub barred-yes : (g : Automaton) (x : ℕ) (w : List ℕ) (i : ℕ)
    → (barred_from g x w i ≡ Ok tt) ↔ ((j : ℕ) → j < g.colours → bit x j ≡ true → Meets g j w → ⊥)
unfolding barred_from
barred-yes g x [] i = (λ e j h q m. m, λ f. refl)
barred-yes g x (a ∷ w) i =
    let row = refuse-yes (has_barred g x a) (BarredColour i) (barred_from g x w (suc i)) in
    let here = common-none x (arc_at g a).colours g.colours in
    let ih = barred-yes g x w (suc i) in (
      λ e j h q m. ⊎_elim (λ t. true≢false (sym t ∙ here.0 (row.0 e).0 j h q)) (ih.0 (row.0 e).1 j h q) m,
      λ f. row.1 (here.1 (λ j h q. is-no (meets g j a) (λ t. f j h q (inl t))), ih.1 (λ j h q m. f j h q (inr m))),
    )

-- with nothing barred 24 does not apply
pub barred-zero : (g : Automaton) (w : List ℕ) (i : ℕ) → barred_from g 0 w i ≡ Ok tt
barred-zero g w i = (barred-yes g 0 w i).1 (λ j h q m. true≢false (sym q ∙ bit-zero j))

-- neither applies exactly where the plan is accepted
pub accepted-yes : (g : Automaton) (x : ℕ) (p : Plan) → (accepted_of g x p ≡ Ok tt) ↔ Accepted g x p
unfolding accepted_of
accepted-yes g x p =
    let both = and-then-yes (barred_from g x p.cycle (length p.prefix)) (colours_of g x p.cycle) in
    let clean = barred-yes g x p.cycle (length p.prefix) in
    let met = colours-yes g x p.cycle in (
      λ e. record { required = met.0 (both.0 e).1; barred = clean.0 (both.0 e).0 },
      λ a. both.1 (clean.1 a.barred, met.1 a.required),
    )

-- 17, by a test that says the same of every colour looked at
missing-same : {f h : ℕ → Bool} (n i : ℕ) → ((j : ℕ) → j < i + n → f j ≡ h j) → missing_from f n i ≡ missing_from h n i
unfolding missing_from
missing-same zero i e = refl
missing-same (suc n) i e = rw (e i (omega arith), missing-same n (suc i) (λ j q. e j (omega arith))) refl

-- with nothing barred 17 is what it was before document 02: the lowest-numbered of all k colours that is missing
pub accepted-unbarred : (g : Automaton) (p : Plan) → accepted_of g 0 p ≡ missing_from (λ j. some_arc (meets g j) p.cycle) g.colours 0
unfolding accepted_of colours_of
accepted-unbarred g p =
    sym (and-then-on _ _ (barred-zero g p.cycle (length p.prefix))) ∙ missing-same g.colours 0 (λ j h. rw (bit-zero j) refl)

-- "its bits at or above k are ignored": bytes with the same bits below k are answered the same
module _ (g : Automaton) (x y : ℕ) (same : (j : ℕ) → j < g.colours → bit x j ≡ bit y j) where
  barred-same : (w : List ℕ) (i : ℕ) → barred_from g x w i ≡ barred_from g y w i
  unfolding barred_from
  barred-same [] i = refl
  barred-same (a ∷ w) i = rw (barred-ignored g a x y same, barred-same w (suc i)) refl

  colours-same : (w : List ℕ) → colours_of g x w ≡ colours_of g y w
  unfolding colours_of
  colours-same w = missing-same g.colours 0 (λ j h. rw (same j (omega arith)) refl)

  pub accepted-same : (p : Plan) → accepted_of g x p ≡ accepted_of g y p
  unfolding accepted_of
  accepted-same p = rw (barred-same p.cycle (length p.prefix), colours-same p.cycle) refl
