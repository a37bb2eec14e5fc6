-- Arcs of one source that stand together are printed in one block each, and arcs that are read from a text that is right stand so. Assumes nothing.
use mathlib.Core.Path.{◌≡◌, refl, sym, ◌∙◌}
use mathlib.Core.Bool.{Bool, true, false, ◌||◌}
use mathlib.Core.List.{List, [], ◌∷◌, map}
use Prim.Native.Nat.{ℕ, zero, suc, ◌<◌}
use native.Mathlib.Decide.{ℕ_discrete}
use native.Mathlib.Omega.{arith}
use lib.Dec.{eqb}
use lib.ListN.{length, get_or}
use borrow.Author.Tests.{eqb-true, eqb-false}
use Rattle.refusals.proofs.Verdicts.{clash}
use Rattle.model.specs.declared.Arc.{Arc}
use Rattle.model.specs.Automaton.{no_arc}
use Rattle.fields.specs.Fields.{lines_of}
use Rattle.hoa.specs.Text.{Edge, contains, hoa_wrong, edges_of}
use Rattle.hoa.specs.Edges.{no_edge}
use Rattle.hoa.proofs.PrintBody.{Together, TogetherAll}
use Rattle.hoa.proofs.SourcesTogether.{sources-together}
use Rattle.dimacs.specs.Text.{TextArc, text_arcs_of}
use Rattle.reading.specs.ModelRead.{arcs_read, model_read}
use Rattle.reading.specs.Texts.{StandTogether}
use Rattle.reading.proofs.Printed.{edge_for}

-- the source of arc a of a list
abbrev source_at : List Arc → ℕ → ℕ
source_at l a = (get_or l a no_arc).source

-- the arcs of one source stand together, as StandTogether says of a model
abbrev ArcsTogether : List Arc → Type 0
ArcsTogether l = (a b c : ℕ) → a < b → b < c → c < length l → source_at l a ≡ source_at l c → source_at l b ≡ source_at l a

either : (x y : ℕ) (t : Bool) → (eqb x y || t) ≡ true → (x ≡ y → ⊥) → t ≡ true
either x y t e h = go (eqb x y) refl e
  where
    go : (u : Bool) → eqb x y ≡ u → (u || t) ≡ true → t ≡ true
    go true z f = absurd (h (eqb-true x y z))
    go false z f = f

not-true : (t : Bool) → (t ≡ true → ⊥) → t ≡ false
not-true true f = absurd (f refl)
not-true false f = refl

-- the arcs after p, where no source in v but that of p comes again
arcs-after : (v : List ℕ) (p : Arc) (l : List Arc) → ArcsTogether (p ∷ l)
    → ((x : ℕ) → contains x v ≡ true → (x ≡ p.source → ⊥) → (a : ℕ) → a < length l → source_at l a ≡ x → ⊥)
    → Together v p.source (map edge_for l)
unfolding contains
arcs-after v p [] f g = tt
arcs-after v p (q ∷ l) f g = (
  λ e. not-true (contains q.source v) (λ h. g q.source h (eqb-false q.source p.source e) 0 (omega arith) refl),
  arcs-after (q.source ∷ v) q l (λ a b c h i j. f (suc a) (suc b) (suc c) (omega arith) (omega arith) (omega arith)) again,
)
  where
    again : (x : ℕ) → (eqb x q.source || contains x v) ≡ true → (x ≡ q.source → ⊥) → (a : ℕ) → a < length l → source_at l a ≡ x → ⊥
    again x e other a h z =
        elim (ℕ_discrete x p.source) [
          | yes y ↦ other (y ∙ sym (f 0 1 (suc (suc a)) (omega arith) (omega arith) (omega arith) (sym y ∙ sym z)))
          | no y ↦ g x (either x q.source (contains x v) e other) y (suc a) (omega arith) z
        ]

-- so do the edges that are printed
pub printed-together : (l : List Arc) → ArcsTogether l → TogetherAll (map edge_for l)
unfolding contains
printed-together [] f = tt
printed-together (p ∷ l) f = arcs-after (p.source ∷ []) p l f (λ x e other. clash (cc (either x p.source false e other)))

-- the arcs that are read are edges, with their sources
read-edge : (es : List Edge) (ts : List TextArc) (a : ℕ) → a < length (arcs_read es ts)
    → (a < length es) × (source_at (arcs_read es ts) a ≡ (get_or es a no_edge).source)
unfolding arcs_read
read-edge [] ts a h = absurd (omega arith)
read-edge (e ∷ es) [] a h = absurd (omega arith)
read-edge (e ∷ es) (t ∷ ts) zero h = (omega arith, refl)
read-edge (e ∷ es) (t ∷ ts) (suc a) h = let (low, same) = read-edge es ts a (omega arith) in (omega arith, same)

-- a model that is read from a right HOA text has its arcs of one source together
pub read-stands : (hoa dimacs : List ℕ) → hoa_wrong (lines_of hoa) ≡ 0 → StandTogether (model_read hoa dimacs)
read-stands hoa dimacs right a b c p q h same =
    let edge = read-edge (edges_of (lines_of hoa)) (text_arcs_of (lines_of dimacs)) in
    let (_, at_a) = edge a (omega arith) in
    let (_, at_b) = edge b (omega arith) in
    let (low, at_c) = edge c h in
    at_b ∙ sources-together (lines_of hoa) right a b c p q low (sym at_a ∙ same ∙ at_c) ∙ sym at_a
