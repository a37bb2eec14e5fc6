-- The first verdict that is not yes: where there is none, and which it is with its place. Assumes nothing.
use mathlib.Core.Path.{◌≡◌, refl, sym, ap, ◌∙◌}
use mathlib.Core.Logic.{◌↔◌, ◌≢◌}
use mathlib.Core.Bool.{Bool, true, false, cond}
use mathlib.Core.List.{List, [], ◌∷◌}
use Prim.Native.Nat.{ℕ, zero, suc, ◌+◌, ◌<◌}
use native.Mathlib.Nat.{not-suc-le-zero, le_of_suc-le-suc}
use native.Mathlib.Omega.{arith}
use lib.Dec.{eqb}
use lib.ListN.{length, get_or}
use borrow.Author.Tests.{eqb-true, eqb-false, eq-eqb, ne_eqb}
use Rattle.refusals.specs.declared.Answer.{Answer}
use Rattle.refusals.specs.Refusals.{answer}
use Rattle.ward.specs.Ward.{first_other}

-- all verdicts are yes
abbrev pub AllYes : List ℕ → Type 0
AllYes vs = (j : ℕ) → j < length vs → get_or vs j 0 ≡ 0

all_yes : (v : ℕ) (vs : List ℕ) → v ≡ 0 → AllYes vs → AllYes (v ∷ vs)
all_yes v vs e f zero h = e
all_yes v vs e f (suc j) h = f j (le_of_suc-le-suc h)

-- "the answer is yes exactly when all are yes", with detail 0
pub first-yes : (vs : List ℕ) (i : ℕ) → (first_other vs i ≡ answer 0 0) ↔ AllYes vs
unfolding first_other
first-yes [] i = (λ e j h. absurd (not-suc-le-zero h), λ f. refl)
first-yes (v ∷ vs) i = go (eqb v 0) refl (first-yes vs (suc i))
  where
    go : (t : Bool) → eqb v 0 ≡ t → (first_other vs (suc i) ≡ answer 0 0) ↔ AllYes vs
        → (cond t (first_other vs (suc i)) (answer v i) ≡ answer 0 0) ↔ AllYes (v ∷ vs)
    go true e ih = (λ z. all_yes v vs (eqb-true v 0 e) (ih.0 z), λ f. ih.1 (λ j h. f (suc j) (omega arith)))
    go false e ih = (λ z. absurd (eqb-false v 0 e (ap (λ (r : Answer). r.number) z)), λ f. absurd (eqb-false v 0 e (f 0 (omega arith))))

-- number 0 is the yes alone
pub first-zero : (vs : List ℕ) (i : ℕ) → (first_other vs i).number ≡ 0 → first_other vs i ≡ answer 0 0
unfolding first_other
first-zero [] i e = refl
first-zero (v ∷ vs) i e = go (eqb v 0) refl e (first-zero vs (suc i))
  where
    go : (t : Bool) → eqb v 0 ≡ t → (cond t (first_other vs (suc i)) (answer v i)).number ≡ 0
        → ((first_other vs (suc i)).number ≡ 0 → first_other vs (suc i) ≡ answer 0 0) → cond t (first_other vs (suc i)) (answer v i) ≡ answer 0 0
    go true z e ih = ih e
    go false z e ih = absurd (eqb-false v 0 z e)

-- d is the place of the first verdict that is not yes, and v is that verdict
pub record FirstAt (vs : List ℕ) (d v : ℕ) : Type 0 where
  pub within : d < length vs
  pub here : get_or vs d 0 ≡ v
  pub other : v ≢ 0
  pub before : (j : ℕ) → j < d → get_or vs j 0 ≡ 0

-- what is answered where some verdict is not yes: the first of them, and its place, counted from i
record OtherFrom (vs : List ℕ) (i : ℕ) (r : Answer) : Type 0 where
  place : ℕ
  told : r.detail ≡ i + place
  first : FirstAt vs place r.number

later : (v : ℕ) (vs : List ℕ) (d : ℕ) → v ≡ 0 → ((j : ℕ) → j < d → get_or vs j 0 ≡ 0) → (j : ℕ) → j < suc d → get_or (v ∷ vs) j 0 ≡ 0
later v vs d e f zero h = e
later v vs d e f (suc j) h = f j (le_of_suc-le-suc h)

other_from : (vs : List ℕ) (i : ℕ) → (first_other vs i).number ≢ 0 → OtherFrom vs i (first_other vs i)
unfolding first_other
other_from [] i other = absurd (other refl)
other_from (v ∷ vs) i other = go (eqb v 0) refl other (other_from vs (suc i))
  where
    go : (t : Bool) → eqb v 0 ≡ t → (cond t (first_other vs (suc i)) (answer v i)).number ≢ 0
        → ((first_other vs (suc i)).number ≢ 0 → OtherFrom vs (suc i) (first_other vs (suc i)))
        → OtherFrom (v ∷ vs) i (cond t (first_other vs (suc i)) (answer v i))
    go true e other ih =
        let o = ih other in
        let f = o.first in
        record {
          place = suc o.place;
          told = omega (arith, o.told);
          first = record {
            within = omega (arith, f.within);
            here = f.here;
            other = f.other;
            before = later v vs o.place (eqb-true v 0 e) f.before;
          };
        }
    go false e other ih = record {
      place = 0;
      told = omega arith;
      first = record { within = omega arith; here = refl; other = other; before = λ j h. absurd (not-suc-le-zero h) };
    }

at_first : (vs : List ℕ) (i d v : ℕ) → FirstAt vs d v → first_other vs i ≡ answer v (i + d)
unfolding first_other
at_first [] i d v f = absurd (not-suc-le-zero f.within)
at_first (u ∷ vs) i zero v f =
    let other : u ≢ 0 = λ e. f.other (sym f.here ∙ e) in
    rw (ne_eqb u 0 other) (ap (λ (x : ℕ). answer x i) f.here ∙ ap (λ (x : ℕ). answer v x) (omega arith))
at_first (u ∷ vs) i (suc d) v f =
    rw (eq-eqb u 0 (f.before 0 (omega arith)))
    (at_first vs (suc i) d v record {
      within = le_of_suc-le-suc f.within;
      here = f.here;
      other = f.other;
      before = λ j h. f.before (suc j) (omega arith);
    } ∙ ap (λ (x : ℕ). answer v x) (omega arith))

-- "else the first other verdict, with its wearer's place, from 0, as detail"
pub first-other : (vs : List ℕ) (d v : ℕ) → v ≢ 0 → (first_other vs 0 ≡ answer v d) ↔ FirstAt vs d v
first-other vs d v other = (
  λ e.
      let o = other_from vs 0 (λ z. other (sym (ap (λ (r : Answer). r.number) e) ∙ z)) in
      let place : o.place ≡ d = omega (arith, o.told, ap (λ (r : Answer). r.detail) e) in
      let number : (first_other vs 0).number ≡ v = ap (λ (r : Answer). r.number) e in
      rw (place, number) at o.first,
  λ f. at_first vs 0 d v f ∙ ap (λ (x : ℕ). answer v x) (omega arith),
)
