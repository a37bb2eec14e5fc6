-- Writing the arcs of the two texts, one after the other. Assumes nothing.
use mathlib.Core.Path.{◌≡◌, refl, subst}
use mathlib.Core.List.{List, [], ◌∷◌, map}
use mathlib.Core.Logic.{◌⊎◌, inl, inr}
use Prim.Native.Nat.{ℕ, ◌+◌}
use native.Mathlib.Numerals.{add-one}
use Rattle.model.specs.declared.Arc.{Arc}
use Rattle.model.specs.Lists.{Lists}
use Rattle.fields.specs.declared.SplitAfter.{SplitAfter}
use Rattle.fields.specs.Fields.{pieces_left}
use Rattle.hoa.specs.Text.{Edge}
use Rattle.dimacs.specs.Text.{text_arc_on}
use Rattle.filling.specs.Filling.{Narrow, AllNarrow, put, written_from}
use Rattle.filling.proofs.Widths.{narrow-first, narrow-others}
use Rattle.filling.proofs.Writing.{Writing, writing-rest, writing-put, writing-done}
use Rattle.reading.specs.declared.Edges.{Edges}
use Rattle.reading.specs.ModelRead.{arc_read, arcs_read}
use Rattle.reading.specs.Within.{edges_left}

-- the arcs of the edges and `a` lines that two walks have left
abbrev pub arcs_left : Edges → SplitAfter → List Arc
arcs_left es ls = arcs_read (edges_left es) (map text_arc_on (pieces_left ls))

-- the next edge and the next line are those of the next arc;
pub arcs-next : (es es' : Edges) (ls ls' : SplitAfter) (e : Edge) (l : List ℕ) → edges_left es ≡ e ∷ edges_left es'
    → pieces_left ls ≡ l ∷ pieces_left ls' → arcs_left es ls ≡ arc_read e (text_arc_on l) ∷ arcs_left es' ls'
unfolding arcs_read
arcs-next es es' ls ls' e l p q = rw (p, q) refl

-- where one walk is over there is none
pub arcs-end : (es : Edges) (ls : SplitAfter)
    → ((u : Edges) × ((edges_left es ≡ []) × (edges_left u ≡ []))) ⊎ ((u : SplitAfter) × ((pieces_left ls ≡ []) × (pieces_left u ≡ [])))
    → arcs_left es ls ≡ []
unfolding arcs_read
arcs-end es ls (inl (u, e)) = rw e.0 refl
arcs-end es ls (inr (u, e)) = rw e.0 (none (edges_left es))
  where
    none : (l : List Edge) → arcs_read l [] ≡ []
    none [] = refl
    none (x ∷ l) = refl

-- of all arcs, to be written from place 0 on, the rest is left, and place i is next
pub record TextsWriting (all rest : List Arc) (i : ℕ) (old now : Lists) : Type 0 where
  pub narrow : AllNarrow rest
  pub writing : Writing all rest 0 i old now

module _ (all rest : List Arc) (i : ℕ) (old now : Lists) (state : TextsWriting all rest i old now) where
  module _ (a : Arc) (others : List Arc) (next : rest ≡ a ∷ others) where
    pub texts-narrow : Narrow a
    texts-narrow = narrow-first a others (subst AllNarrow next state.narrow)

    pub texts-more : (made : Arc) (left : Lists) → made ≡ a → left ≡ put now i made → TextsWriting all others (i + 1) old left
    texts-more made left same e =
        rw (e, same, add-one i)
        record {
          narrow = narrow-others a others (subst AllNarrow next state.narrow);
          writing = writing-put all 0 i old now a others (writing-rest all 0 i old now _ _ next state.writing);
        }

  pub texts-done : rest ≡ [] → now ≡ written_from 0 all old
  texts-done e = (writing-done all 0 i old now (writing-rest all 0 i old now _ _ e state.writing)).puts
