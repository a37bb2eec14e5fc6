-- The second pass: the loop over a row and the loop over rows. Assumes nothing.
use mathlib.Core.Path.{◌≡◌, sym, ap, ◌∙◌, subst}
use mathlib.Core.Bool.{Bool, true, false}
use mathlib.Core.List.{List, ◌∷◌, ◌++◌}
use Prim.Native.Nat.{ℕ, suc, ◌+◌, ◌≤◌, ◌<◌}
use native.Mathlib.Numerals.{add-one}
use native.Mathlib.Omega.{arith}
use lib.Dec.{eqb}
use lib.ListN.{length, get_or, length-append}
use borrow.Author.Tests.{eq-eqb, ne_eqb}
use Rattle.limits.specs.Ceilings.{arcs_most}
use Rattle.model.specs.declared.Arc.{Arc}
use Rattle.model.specs.declared.Model.{Model}
use Rattle.model.specs.Automaton.{no_arc, arc_at}
use Rattle.model.specs.Lists.{Lists, held}
use Rattle.model.specs.Fitness.{Holds}
use Rattle.model.proofs.Bits.{colours-below}
use Rattle.filling.specs.Filling.{Narrow, AllNarrow, put, Written}
use Rattle.filling.proofs.Widths.{narrow-first, narrow-others, narrow-left, narrow-right}
use Rattle.filling.proofs.Writing.{Writing, writing-rest, writing-put, writing-append, writing-done}
use Rattle.join.specs.Joined.{join_arc, keep, join_row, join_arcs}
use Rattle.join.specs.Within.{Below}
use Rattle.join.proofs.Rows.{row_from, row-turn, row-end, rows_from, rows-turn, rows-end}

-- of the row of a knee's arc x, to be written from place `from` on, the arcs before the habit's arc j are written, and place i is next
pub record RowWriting (n k : ℕ) (x : Arc) (ys : List Arc) (from : ℕ) (old now : Lists) (i j : ℕ) : Type 0 where
  pub narrow : AllNarrow (row_from n k x ys j)
  pub writing : Writing (join_row n k x ys) (row_from n k x ys j) from i old now

module _ (n k : ℕ) (x : Arc) (ys : List Arc) (from : ℕ) (old : Lists) where
  abbrev row : List Arc
  row = join_row n k x ys

  module _ (now : Lists) (i j : ℕ) (state : RowWriting n k x ys from old now i j) where
    module _ (y : Arc) (lt : j < length ys) (here : y ≡ get_or ys j no_arc) where
      abbrev later : List Arc
      later = row_from n k x ys (suc j)

      -- the rest of the row, by whether the habit's arc j has the action
      rest-is : (t : Bool) → eqb x.action y.action ≡ t → row_from n k x ys j ≡ keep t (join_arc n k x y) later
      rest-is t e =
          rw (← here) at (row-turn n k x ys j lt) ∙ ap {B = List Arc} (λ (q : Bool). keep q (join_arc n k x y) later) e

      -- it has another
      pub row-writing-skip : (x.action ≡ y.action → ⊥) → RowWriting n k x ys from old now i (j + 1)
      row-writing-skip ne =
          let e = rest-is false (ne_eqb x.action y.action ne) in
          rw (add-one j)
          record { narrow = subst AllNarrow e state.narrow; writing = writing-rest row from i old now _ _ e state.writing }

      module _ (eq : x.action ≡ y.action) where
        abbrev arc : Arc
        arc = join_arc n k x y

        next : row_from n k x ys j ≡ arc ∷ later
        next = rest-is true (eq-eqb x.action y.action eq)

        pub row-writing-narrow : Narrow arc
        row-writing-narrow = narrow-first arc later (subst AllNarrow next state.narrow)

        -- by the arc that the code makes
        pub row-writing-put : {made : Arc} (left : Lists) → made ≡ arc → left ≡ put now i made → RowWriting n k x ys from old left (i + 1) (j + 1)
        row-writing-put left same e =
            rw (add-one i, add-one j)
            record {
              narrow = narrow-others arc later (subst AllNarrow next state.narrow);
              writing =
                  subst (λ (l : Lists). Writing row later from (suc i) old l) (sym (e ∙ ap {B = Lists} (put now i) same))
                  (writing-put row from i old now arc later (writing-rest row from i old now _ _ next state.writing));
            }

    pub row-writing-done : length ys ≤ j → Written row from old i now
    row-writing-done ge = writing-done row from i old now (writing-rest row from i old now _ _ (row-end n k x ys j ge) state.writing)

-- an arc of a fit knee has no colour at or above k
pub arc-below : (g : Model) → Holds g → (xs : List Arc) → xs ≡ (held g).arcs → (i : ℕ) → i < length xs → Below g.colours (get_or xs i no_arc)
arc-below g holds xs same i =
    subst (λ (l : List Arc). i < length l → Below g.colours (get_or l i no_arc)) (sym same) λ h.
    record {
      few = holds.fit.few_colours;
      colours = (colours-below (arc_at (held g) i).colours g.colours).1 (holds.fit.arcs_fit i h).colours;
    }

-- the rows of the knee's arcs before arc i are written, up to place `at`
pub record AllWriting (n k : ℕ) (xs ys : List Arc) (old now : Lists) (at i : ℕ) : Type 0 where
  pub narrow : AllNarrow (rows_from n k xs ys i)
  pub writing : Writing (join_arcs n k xs ys) (rows_from n k xs ys i) 0 at old now

module _ (n k : ℕ) (xs ys : List Arc) (old : Lists) where
  abbrev rows : List Arc
  rows = join_arcs n k xs ys

  module _ (now : Lists) (at i : ℕ) (state : AllWriting n k xs ys old now at i) where
    module _ (x : Arc) (lt : i < length xs) (here : x ≡ get_or xs i no_arc) where
      abbrev first : List Arc
      first = join_row n k x ys

      abbrev others : List Arc
      others = rows_from n k xs ys (suc i)

      rows-next : rows_from n k xs ys i ≡ first ++ others
      rows-next = rw (← here) at (rows-turn n k xs ys i lt)

      both : AllNarrow (first ++ others)
      both = subst AllNarrow rows-next state.narrow

      pub row-narrow : AllNarrow first
      row-narrow = narrow-left first others both

      pub row-few : length rows ≤ arcs_most → at + length first ≤ arcs_most
      row-few few =
          let long = ap {B = ℕ} length rows-next ∙ length-append first others in
          omega (arith, few, state.writing.place, long)

      pub all-writing-more : (end : ℕ) (left : Lists) → Written first at now end left → AllWriting n k xs ys old left end (i + 1)
      all-writing-more end left w =
          rw (add-one i)
          record {
            narrow = narrow-right first others both;
            writing = writing-append rows 0 at old now first others (writing-rest rows 0 at old now _ _ rows-next state.writing) end left w;
          }

    pub all-writing-done : length xs ≤ i → Written rows 0 old at now
    all-writing-done ge = writing-done rows 0 at old now (writing-rest rows 0 at old now _ _ (rows-end n k xs ys i ge) state.writing)
