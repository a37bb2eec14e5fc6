-- The first pass: the loop over a row and the loop over rows. Assumes nothing.
use Rattle.std.specs.Prelude.{Result, Ok, Err}
use mathlib.Core.Path.{◌≡◌, refl, sym, ap, ◌∙◌}
use mathlib.Core.Bool.{Bool, true, false, ◌||◌}
use mathlib.Core.List.{List, [], ◌∷◌, ◌++◌}
use Prim.Native.Nat.{ℕ, suc, ◌+◌, ◌*◌, ◌≤◌, ◌<◌}
use native.Mathlib.Nat.{add-zero}
use native.Mathlib.Numerals.{add-one}
use native.Mathlib.Omega.{arith}
use lib.Dec.{eqb}
use lib.ListN.{length, get_or}
use borrow.Author.Tests.{eq-eqb, ne_eqb}
use Rattle.limits.specs.Ceilings.{arcs_most}
use Rattle.refusals.specs.declared.Refusal.{Refusal}
use Rattle.refusals.specs.declared.Refusal.TheVariants.{JoinSize}
use Rattle.refusals.specs.Refusals.{refuse}
use Rattle.model.specs.declared.Arc.{Arc}
use Rattle.model.specs.Automaton.{no_arc}
use Rattle.join.specs.Joined.{join_arc, keep, join_row, join_arcs}
use Rattle.join.specs.Joining.{sum_above, some_sum_above}
use Rattle.join.specs.Within.{counted}
use Rattle.join.proofs.Rows.{row_from, row-turn, row-end, row-length, rows_from, rows-turn, rows-end}

-- all are counted, where no sum is above
pub counted-is : (m : ℕ) (l : List Arc) → counted m l ≡ refuse (some_sum_above l) JoinSize (Ok (m + length l))
unfolding counted
counted-is m [] = rw (add-zero m) refl
counted-is m (a ∷ l) = go (sum_above a) (counted-is (suc m) l)
  where
    go : (t : Bool) → counted (suc m) l ≡ refuse (some_sum_above l) JoinSize (Ok (suc m + length l))
        → refuse t JoinSize (counted (suc m) l) ≡ refuse (t || some_sum_above l) JoinSize (Ok (m + suc (length l)))
    go true e = refl
    go false e = let same : m + suc (length l) ≡ suc m + length l = omega arith in rw same e

-- so many in the first of two lists, and the second behind them
pub counted-append : (m c : ℕ) (u v : List Arc) → Ok c ≡ counted m u → counted m (u ++ v) ≡ counted c v
unfolding counted
counted-append m c [] v e = let same : c ≡ m = cc in rw same refl
counted-append m c (a ∷ u) v e = go (sum_above a) e (λ f. counted-append (suc m) c u v f)
  where
    go : (t : Bool) → Ok c ≡ refuse t JoinSize (counted (suc m) u) → (Ok c ≡ counted (suc m) u → counted (suc m) (u ++ v) ≡ counted c v)
        → refuse t JoinSize (counted (suc m) (u ++ v)) ≡ counted c v
    go true f later = absurd (cc)
    go false f later = later f

-- a sum of the first is above
pub counted-stops : (m : ℕ) (r : Refusal) (u v : List Arc) → Err r ≡ counted m u → Err r ≡ counted m (u ++ v)
unfolding counted
counted-stops m r [] v e = absurd (cc)
counted-stops m r (a ∷ u) v e = go (sum_above a) e (λ f. counted-stops (suc m) r u v f)
  where
    go : (t : Bool) → Err r ≡ refuse t JoinSize (counted (suc m) u) → (Err r ≡ counted (suc m) u → Err r ≡ counted (suc m) (u ++ v))
        → Err r ≡ refuse t JoinSize (counted (suc m) (u ++ v))
    go true f later = f
    go false f later = later f

counted-none : (m : ℕ) → Ok m ≡ counted m []
unfolding counted
counted-none m = refl

-- a count has no more than there are
pub counted-few : (m c : ℕ) (l : List Arc) → Ok c ≡ counted m l → c ≤ m + length l
counted-few m c l e = go (some_sum_above l) (e ∙ counted-is m l)
  where
    go : (t : Bool) → Ok c ≡ refuse t JoinSize (Ok (m + length l)) → c ≤ m + length l
    go true f = absurd (cc)
    go false f = let same : c ≡ m + length l = cc in omega arith

-- of the row of a knee's arc x, the arcs before the habit's arc j are counted
pub record RowCounting (n : ℕ) (x : Arc) (ys : List Arc) (old now j : ℕ) : Type 0 where
  pub few : now ≤ old + j
  pub same : (k : ℕ) → counted old (join_row n k x ys) ≡ counted now (row_from n k x ys j)

module _ (n : ℕ) (x : Arc) (ys : List Arc) (old now j : ℕ) (state : RowCounting n x ys old now j) where
  module _ (y : Arc) (lt : j < length ys) (here : y ≡ get_or ys j no_arc) where
    -- the rest of the row, by whether the habit's arc j has the action; the sums of a joined arc do not depend on modes and colours
    rest-is : (k : ℕ) (t : Bool) → eqb x.action y.action ≡ t
        → counted old (join_row n k x ys) ≡ counted now (keep t (join_arc n k x y) (row_from n k x ys (suc j)))
    rest-is k t e =
        state.same k
        ∙ ap {B = Result ℕ Refusal} (counted now) (rw (← here) at (row-turn n k x ys j lt))
        ∙ ap {B = Result ℕ Refusal} (λ (q : Bool). counted now (keep q (join_arc n k x y) (row_from n k x ys (suc j)))) e

    -- it has another
    pub row-counting-skip : (x.action ≡ y.action → ⊥) → RowCounting n x ys old now (j + 1)
    row-counting-skip ne =
        rw (add-one j) (record { few = omega (arith, state.few); same = λ k. rest-is k false (ne_eqb x.action y.action ne) })

    module _ (eq : x.action ≡ y.action) where
      -- and no sum is above
      pub row-counting-more : sum_above (join_arc 0 0 x y) ≡ false → RowCounting n x ys old (now + 1) (j + 1)
      unfolding counted
      row-counting-more none =
          rw (add-one j, add-one now)
          record { few = omega (arith, state.few); same = λ k. rest-is k true (eq-eqb x.action y.action eq) ∙ rw none refl }

      -- or one is
      pub row-counting-above : sum_above (join_arc 0 0 x y) ≡ true → (k : ℕ) → Err JoinSize ≡ counted old (join_row n k x ys)
      unfolding counted
      row-counting-above above k = sym (rest-is k true (eq-eqb x.action y.action eq) ∙ rw above refl)

  pub row-counting-done : length ys ≤ j → (k : ℕ) → Ok now ≡ counted old (join_row n k x ys)
  row-counting-done ge k = counted-none now ∙ sym (state.same k ∙ ap {B = Result ℕ Refusal} (counted now) (row-end n k x ys j ge))

-- the rows of the knee's arcs before arc i are counted
pub record Counting (n k : ℕ) (xs ys : List Arc) (now i : ℕ) : Type 0 where
  pub few : now ≤ arcs_most * i
  pub same : counted 0 (join_arcs n k xs ys) ≡ counted now (rows_from n k xs ys i)

module _ (n k : ℕ) (xs ys : List Arc) (now i : ℕ) (state : Counting n k xs ys now i) where
  module _ (x : Arc) (lt : i < length xs) (here : x ≡ get_or xs i no_arc) where
    rows-next : counted 0 (join_arcs n k xs ys) ≡ counted now (join_row n k x ys ++ rows_from n k xs ys (suc i))
    rows-next = state.same ∙ ap {B = Result ℕ Refusal} (counted now) (rw (← here) at (rows-turn n k xs ys i lt))

    pub counting-more : (next : ℕ) → length ys ≤ arcs_most → ((c : ℕ) → Ok next ≡ counted now (join_row n c x ys))
        → Counting n k xs ys next (i + 1)
    counting-more next habit e =
        rw (add-one i)
        record {
          few = omega (arith, state.few, counted-few now next (join_row n k x ys) (e k), row-length n k x ys, habit);
          same = rows-next ∙ counted-append now next (join_row n k x ys) (rows_from n k xs ys (suc i)) (e k);
        }

    pub counting-stops : (r : Refusal) → ((c : ℕ) → Err r ≡ counted now (join_row n c x ys)) → Err r ≡ counted 0 (join_arcs n k xs ys)
    counting-stops r e = counted-stops now r (join_row n k x ys) (rows_from n k xs ys (suc i)) (e k) ∙ sym rows-next

  pub counting-done : length xs ≤ i → Ok now ≡ counted 0 (join_arcs n k xs ys)
  counting-done ge = counted-none now ∙ sym (state.same ∙ ap {B = Result ℕ Refusal} (counted now) (rows-end n k xs ys i ge))
