-- Two texts that are in the forms agree exactly where there is a model of which both say what it is. Document 02, Ask 1: "texts that disagree in n, m
-- or an edge's ends are 21". Assumes nothing.
use mathlib.Core.Path.{◌≡◌, refl, sym, ap, subst, ◌∙◌}
use mathlib.Core.Bool.{true}
use mathlib.Core.List.{List, [], ◌∷◌}
use mathlib.Core.Logic.{◌↔◌}
use Prim.Native.Nat.{ℕ, suc, ◌≤◌, ◌<◌}
use native.Mathlib.Omega.{arith}
use lib.ListN.{length, get_or, length-map}
use borrow.Author.Tests.{eq-eqb}
use Rattle.limits.specs.Ceilings.{colours_most}
use Rattle.model.specs.Automaton.{Automaton, arc_at}
use Rattle.hoa.specs.Text.{Edge, hoa_wrong, edges_of}
use Rattle.hoa.specs.Text as hoa
use Rattle.hoa.specs.Edges.{no_edge}
use Rattle.hoa.proofs.Edges.{edge-said, edge_count}
use Rattle.hoa.proofs.EdgeOne.{edge-one}
use Rattle.dimacs.specs.Text.{TextArc, text_arc_on, text_arcs_of, arc_lines, dimacs_wrong}
use Rattle.dimacs.specs.Text as dimacs
use Rattle.dimacs.proofs.Arcs.{no_text_arc, arc-said, dimacs-right}
use Rattle.reading.specs.Agreement.{same_ends, all_same, agree}
use Rattle.reading.specs.ModelRead.{model_in}
use Rattle.reading.specs.Said.{arc_line, Said}
use Rattle.reading.proofs.Said.{model_in_lem}

-- the same ends, by the two numbers
ends_same : (e : Edge) (a : TextArc) → suc e.source ≡ a.from → suc e.target ≡ a.to → same_ends e a ≡ true
ends_same e a from to = rw (eq-eqb (suc e.source) a.from from, eq-eqb (suc e.target) a.to to) refl

-- as many edges as `a` lines, with the same ends at each place
all_same_lem : (es : List Edge) (ts : List TextArc) → length es ≡ length ts
    → ((i : ℕ) → i < length es → same_ends (get_or es i no_edge) (get_or ts i no_text_arc) ≡ true) → all_same es ts ≡ true
unfolding all_same
all_same_lem [] [] long f = refl
all_same_lem [] (t ∷ ts) long f = absurd (omega (arith, long))
all_same_lem (e ∷ es) [] long f = absurd (omega (arith, long))
all_same_lem (e ∷ es) (t ∷ ts) long f =
    rw (f 0 (omega arith), all_same_lem es ts (omega (arith, long)) λ i h. f (suc i) (omega arith)) refl

module _ (h d : List (List ℕ)) (right : hoa_wrong h ≡ 0) (too : dimacs_wrong d ≡ 0) where
  -- texts that say of one model what it is
  module _ (g : Automaton) (said : Said h d g) where
    -- have as many edges as it has arcs,
    edges-said : length (edges_of h) ≡ length g.arcs
    edges-said = edge_count h right ∙ sym said.edges

    -- as many `a` lines,
    lines-said : length (text_arcs_of d) ≡ length g.arcs
    lines-said = length-map (arc_lines d) text_arc_on ∙ (dimacs-right d too).0 ∙ sym said.count

    -- the same ends at each place,
    ends-said : (i : ℕ) → i < length (edges_of h) → same_ends (get_or (edges_of h) i no_edge) (get_or (text_arcs_of d) i no_text_arc) ≡ true
    ends-said i q =
        let e = get_or (edges_of h) i no_edge in
        let arc = said.arcs i (omega (arith, edges-said)) in
        let edge : arc.edge ≡ e = edge-one h i arc.edge e arc.at (edge-said h right i q) in
        let source : (arc_at g i).source ≡ e.source = arc.source ∙ ap {B = ℕ} (λ (x : Edge). x.source) edge in
        let target : (arc_at g i).target ≡ e.target = arc.target ∙ ap {B = ℕ} (λ (x : Edge). x.target) edge in
        subst (λ (t : TextArc). same_ends e t ≡ true) (sym (arc-said d i))
        (ends_same e (text_arc_on (arc_line d i)) (ap suc (sym source) ∙ arc.from) (ap suc (sym target) ∙ arc.to))

    -- and agree
    agree-said : agree h d ≡ true
    unfolding agree
    agree-said =
        rw (
          eq-eqb (hoa.modes_of h) (dimacs.modes_of d) (sym said.modes ∙ said.modes_too),
          all_same_lem (edges_of h) (text_arcs_of d) (edges-said ∙ sym lines-said) ends-said,
        ) refl

  -- texts that agree say it of the model in them
  pub said-agree : hoa.colours_of h ≤ colours_most → (agree h d ≡ true) ↔ ((g : Automaton) × Said h d g)
  said-agree few = (λ same. (model_in h d, model_in_lem h d right too same few), λ (g, said). agree-said g said)
