-- A model that is read is fit, and is what the two texts say, line by line. Assumes nothing.
use Rattle.std.specs.Prelude.{Ok}
use mathlib.Core.Path.{◌≡◌, refl, sym, ap, subst, ◌∙◌}
use mathlib.Core.Bool.{Bool, true, false, ◌&&◌}
use mathlib.Core.List.{List, [], ◌∷◌}
use Prim.Native.Nat.{ℕ, zero, suc, ◌≤◌, ◌<◌}
use native.Mathlib.Omega.{arith}
use lib.Dec.{ltb, eqb}
use lib.ListN.{length, get_or, length-map}
use borrow.Author.Tests.{ltb-false, eqb-true}
use Rattle.limits.specs.Ceilings.{colours_most}
use Rattle.refusals.proofs.Verdicts.{clash}
use Rattle.model.specs.declared.Arc.{Arc}
use Rattle.model.specs.Automaton.{arc_at, bit, no_arc}
use Rattle.model.specs.Lists.{Lists}
use Rattle.model.specs.Fitness.{Fit}
use Rattle.fields.specs.Fields.{lines_of}
use Rattle.fields.proofs.Numbers.{both}
use Rattle.hoa.specs.Text.{Edge, edges_of, contains, colour_byte}
use Rattle.hoa.specs.Text as hoa
use Rattle.hoa.specs.Edges.{Below, EdgeFits, EdgesFit, no_edge}
use Rattle.hoa.proofs.Colours.{colour-bit}
use Rattle.hoa.proofs.Edges.{edges-right, edge-said, edge_count}
use Rattle.dimacs.specs.Text.{TextArc, text_arc_on, text_arcs_of, arc_lines}
use Rattle.dimacs.specs.Text as dimacs
use Rattle.dimacs.proofs.Arcs.{arc-said}
use Rattle.dimacs.proofs.Arcs as dimacs-arcs
use Rattle.filling.specs.Filling.{room_in}
use Rattle.reading.specs.Agreement.{same_ends, all_same, agree}
use Rattle.reading.specs.ModelRead.{arc_read, arcs_read, model_in, model_read}
use Rattle.reading.specs.Reading.{read_verdict}
use Rattle.reading.specs.Said.{arc_line, ArcSaid, Said}
use Rattle.reading.proofs.Arcs.{none_above}
use Rattle.reading.proofs.Verdicts.{edges-count, arcs-count, readable-yes}

-- arc i is that of edge i and `a` line i
read_at : (es : List Edge) (ts : List TextArc) (i : ℕ) → i < length es → i < length ts
    → get_or (arcs_read es ts) i no_arc ≡ arc_read (get_or es i no_edge) (get_or ts i dimacs-arcs.no_text_arc)
unfolding arcs_read
read_at [] ts i h q = absurd (omega arith)
read_at (e ∷ es) [] i h q = absurd (omega arith)
read_at (e ∷ es) (t ∷ ts) zero h q = refl
read_at (e ∷ es) (t ∷ ts) (suc i) h q = read_at es ts i (omega arith) (omega arith)

-- whose ends are the same
same_at : (es : List Edge) (ts : List TextArc) (i : ℕ) → all_same es ts ≡ true → i < length es
    → same_ends (get_or es i no_edge) (get_or ts i dimacs-arcs.no_text_arc) ≡ true
unfolding all_same
same_at [] ts i e h = absurd (omega arith)
same_at (x ∷ es) [] i e h = clash (cc)
same_at (x ∷ es) (t ∷ ts) zero e h = (both (same_ends x t) (all_same es ts) e).0
same_at (x ∷ es) (t ∷ ts) (suc i) e h = same_at es ts i (both (same_ends x t) (all_same es ts) e).1 (omega arith)

-- an edge of edges that are fit
fit_at : (n k : ℕ) (es : List Edge) (i : ℕ) → EdgesFit n k es → i < length es → EdgeFits n k (get_or es i no_edge)
fit_at n k [] i f h = absurd (omega arith)
fit_at n k (e ∷ es) zero f h = f.0
fit_at n k (e ∷ es) (suc i) f h = fit_at n k es i f.1 (omega arith)

-- every bit of a colour byte, where the colours are below k, and k at most four
every-bit : (k : ℕ) (cs : List ℕ) → k ≤ colours_most → Below k cs → (j : ℕ) → bit (colour_byte cs) j ≡ contains j cs
every-bit k cs few low j = colour-bit cs j ∙ go (ltb j colours_most) refl
  where
    go : (t : Bool) → ltb j colours_most ≡ t → (t && contains j cs) ≡ contains j cs
    go true e = refl
    go false e = sym (none_above k j cs low (omega (arith, ltb-false j colours_most e)))

module _ (h d : List (List ℕ)) (right : hoa.hoa_wrong h ≡ 0) (too : dimacs.dimacs_wrong d ≡ 0) (same : agree h d ≡ true) (few : hoa.colours_of h ≤ colours_most) where
  -- arc i as the two texts say
  arc-in : (i : ℕ) → i < length (edges_of h) → ArcSaid h d i (arc_at (model_in h d) i)
  unfolding agree
  arc-in i q =
      let es = edges_of h in
      let ts = text_arcs_of d in
      let e = get_or es i no_edge in
      let long : i < length ts = omega (arith, edges-count h d same, length-map (arc_lines d) text_arc_on) in
      let line : get_or ts i dimacs-arcs.no_text_arc ≡ text_arc_on (arc_line d i) = arc-said d i in
      let arc : arc_at (model_in h d) i ≡ arc_read e (text_arc_on (arc_line d i)) =
      read_at es ts i q long ∙ ap {B = Arc} (arc_read e) line in
      let ends : same_ends e (text_arc_on (arc_line d i)) ≡ true =
      subst (λ (t : TextArc). same_ends e t ≡ true) line
      (same_at es ts i (both (eqb (hoa.modes_of h) (dimacs.modes_of d)) (all_same es ts) same).1 q) in
      let (from, to) = both (eqb (suc e.source) (text_arc_on (arc_line d i)).from) (eqb (suc e.target) (text_arc_on (arc_line d i)).to) ends in
      let said : ArcSaid h d i (arc_read e (text_arc_on (arc_line d i))) =
      record {
        edge = e;
        at = edge-said h right i q;
        source = refl;
        target = refl;
        colours = every-bit (hoa.colours_of h) e.colours few (fit_at (hoa.modes_of h) (hoa.colours_of h) es i (edges-right h right) q).colours;
        from = eqb-true (suc e.source) (text_arc_on (arc_line d i)).from from;
        to = eqb-true (suc e.target) (text_arc_on (arc_line d i)).to to;
        draw = refl;
        gain = refl;
        action = refl;
      } in
      subst (ArcSaid h d i) (sym arc) said

  -- the whole model
  pub model_in_lem : Said h d (model_in h d)
  unfolding agree
  model_in_lem =
      let all : length (model_in h d).arcs ≡ length (edges_of h) = arcs-count h d too same ∙ sym (dimacs-arcs.dimacs-right d too).0 ∙ sym (edges-count h d same) in
      record {
        modes = refl;
        start = refl;
        colours = refl;
        modes_too = eqb-true (hoa.modes_of h) (dimacs.modes_of d) (both (eqb (hoa.modes_of h) (dimacs.modes_of d)) (all_same (edges_of h) (text_arcs_of d)) same).0;
        edges = all ∙ edge_count h right;
        count = arcs-count h d too same;
        arcs = λ i q. arc-in i (omega (arith, all));
      }

module _ (hoa dimacs : List ℕ) (l : Lists) (yes : read_verdict hoa dimacs l ≡ Ok tt) where
  -- a model that is read is fit
  pub read-fit : Fit (model_read hoa dimacs)
  read-fit = let (_, _, _, _, fit) = (readable-yes (lines_of hoa) (lines_of dimacs) (room_in l)).0 yes in fit

  -- and is what the texts say
  pub read-says : Said (lines_of hoa) (lines_of dimacs) (model_read hoa dimacs)
  read-says =
      let (right, too, same, _, fit) = (readable-yes (lines_of hoa) (lines_of dimacs) (room_in l)).0 yes in
      model_in_lem (lines_of hoa) (lines_of dimacs) right too same fit.few_colours
