-- The models that have texts are exactly the fit ones whose arcs of one source stand together and none of whose arcs has both a draw and a gain, or
-- an action other than 0. Document 02, Asks 1, 4 and 5. Assumes nothing.
use Rattle.std.specs.Prelude.{Ok}
use mathlib.Core.Path.{◌≡◌, refl, sym, subst, ◌∙◌}
use mathlib.Core.Bool.{true}
use mathlib.Core.List.{List, [], ◌∷◌, map}
use mathlib.Core.Logic.{◌⊎◌, inl, inr, ◌↔◌}
use Prim.Native.Nat.{ℕ, zero, suc, ◌≤◌, ◌<◌}
use native.Mathlib.Omega.{arith}
use lib.IntN.{ℤ, pos, negsuc}
use lib.ListN.{length, get_or, replicate, length-map, length-replicate}
use borrow.Author.Tests.{eq-eqb}
use Rattle.refusals.specs.Refusals.{verdict_of}
use Rattle.walks.specs.Weights.{draw_of, gain_of}
use Rattle.model.specs.declared.Arc.{Arc}
use Rattle.model.specs.Automaton.{Automaton, no_arc}
use Rattle.model.specs.Lists.{Lists, lists, automaton_of}
use Rattle.model.specs.Fitness.{Fit}
use Rattle.fields.specs.Fields.{lines_of}
use Rattle.hoa.specs.Text.{Edge, edges_of}
use Rattle.hoa.proofs.PrintText.{hoa_text, SaysHoa, hoa-back}
use Rattle.dimacs.specs.Text.{TextArc, text_arcs_of}
use Rattle.dimacs.proofs.PrintText.{dimacs_text, SaysDimacs, dimacs-back}
use Rattle.filling.specs.Filling.{room_in, numbers_in, first_places}
use Rattle.filling.proofs.Filled.{verdict-if}
use Rattle.reading.specs.Agreement.{agree}
use Rattle.reading.specs.ModelRead.{arc_read, arcs_read, model_in, model_read}
use Rattle.reading.specs.Reading.{readable, read_verdict, read_of, lists_read}
use Rattle.reading.specs.Texts.{StandTogether, OnePartArcs, NoActions, Gives}
use Rattle.reading.proofs.Verdicts.{readable-yes}
use Rattle.reading.proofs.ListsRead.{read-model}
use Rattle.reading.proofs.Printed.{edge_for, text_arc_for, printed-same, edges_fit, text-arcs-fit, arcs-back}
use Rattle.reading.proofs.Together.{printed-together, read-stands}

-- lines that say the numbers, edges and `a` lines of a model
module _ (g : Automaton) (fit : Fit g) (one : OnePartArcs g) (none : NoActions g) (h d : List (List ℕ))
    (says : SaysHoa h g.modes g.start g.colours (map edge_for g.arcs)) (tells : SaysDimacs d g.modes (map text_arc_for g.arcs)) where
  agree-back : agree h d ≡ true
  unfolding agree
  agree-back = rw (says.modes, says.edges, tells.modes, tells.arcs, eq-eqb g.modes g.modes refl) (printed-same g.arcs)

  model-back : model_in h d ≡ g
  model-back =
      rw (
        says.modes,
        says.start,
        says.colours,
        says.edges,
        tells.arcs,
        arcs-back g.modes g.colours g.arcs fit.few_colours fit.arcs_fit one none,
      ) refl

  accepted-back : (room : ℕ) → length g.arcs ≤ room → readable h d room ≡ Ok tt
  accepted-back room enough =
      (readable-yes h d room).1 (
        says.right,
        tells.right,
        agree-back,
        subst (λ (x : Automaton). length x.arcs ≤ room) (sym model-back) enough,
        subst Fit (sym model-back) fit,
      )

-- "every fit model whose arcs of one source stand together has a pair of texts that gives it", of the models without both parts and
-- with action 0 alone
pub texts-give : (g : Automaton) → Fit g → StandTogether g → OnePartArcs g → NoActions g → (hoa : List ℕ) × (dimacs : List ℕ) × Gives hoa dimacs g
texts-give g fit together one none =
    let n = g.modes in
    let k = g.colours in
    let es = map edge_for g.arcs in
    let ts = map text_arc_for g.arcs in
    let count : length ts ≡ length g.arcs = length-map g.arcs text_arc_for in
    let says =
    hoa-back n g.start k es (omega (arith, fit.few_modes)) (omega (arith, fit.starts, fit.few_modes)) (omega (arith, fit.few_colours))
    (printed-together g.arcs together) (edges_fit n k g.arcs fit.arcs_fit) in
    let tells =
    dimacs-back n ts (omega (arith, fit.few_modes)) (omega (arith, count, fit.few_arcs))
    (text-arcs-fit n k g.arcs fit.arcs_fit) in
    let h = lines_of (hoa_text n g.start k es) in
    let d = lines_of (dimacs_text n ts) in (
      hoa_text n g.start k es,
      dimacs_text n ts,
      record {
        accepted = λ l enough. accepted-back g fit one none h d says tells (room_in l) enough;
        model = model-back g fit one none h d says tells;
      },
    )

-- what holds of the arc of any edge and `a` line holds of every arc that is read
read-each : (P : Arc → Type 0) → ((e : Edge) (t : TextArc) → P (arc_read e t))
    → (es : List Edge) (ts : List TextArc) (a : ℕ) → a < length (arcs_read es ts) → P (get_or (arcs_read es ts) a no_arc)
unfolding arcs_read
read-each P f [] ts a h = absurd (omega arith)
read-each P f (e ∷ es) [] a h = absurd (omega arith)
read-each P f (e ∷ es) (t ∷ ts) zero h = f e t
read-each P f (e ∷ es) (t ∷ ts) (suc a) h = read-each P f es ts a (omega arith)

-- a weight has one part
weight-one : (w : ℤ) → (draw_of w ≡ 0) ⊎ (gain_of w ≡ 0)
weight-one (pos x) = inl refl
weight-one (negsuc x) = inr refl

-- so has every arc that is read, and action 0
module _ (hoa dimacs : List ℕ) where
  pub read-one-part : OnePartArcs (model_read hoa dimacs)
  read-one-part =
      read-each (λ x. (x.draw ≡ 0) ⊎ (x.gain ≡ 0)) (λ e t. weight-one t.weight) (edges_of (lines_of hoa)) (text_arcs_of (lines_of dimacs))

  pub read-no-actions : NoActions (model_read hoa dimacs)
  read-no-actions = read-each (λ x. x.action ≡ 0) (λ e t. refl) (edges_of (lines_of hoa)) (text_arcs_of (lines_of dimacs))

-- "so only such models have texts", "so other models have no texts": a model that two texts give is fit, has its arcs of one source together, and
-- none with both parts or an action other than 0
pub given-only : (hoa dimacs : List ℕ) (g : Automaton) → Gives hoa dimacs g → Fit g × StandTogether g × OnePartArcs g × NoActions g
given-only hoa dimacs g gives =
    let m = length g.arcs in
    let zeros : List ℕ = replicate m 0 in
    let size : length zeros ≡ m = length-replicate m 0 in
    let room : Lists = lists zeros zeros zeros zeros zeros zeros in
    let yes = gives.accepted room (omega (arith, size)) in
    let (right, _, _, _, fit) = (readable-yes (lines_of hoa) (lines_of dimacs) (room_in room)).0 yes in
    subst (λ (x : Automaton). Fit x × StandTogether x × OnePartArcs x × NoActions x) gives.model
    (fit, read-stands hoa dimacs right, read-one-part hoa dimacs, read-no-actions hoa dimacs)

-- what a reading of such texts answers and leaves is the model
pub given-read : (hoa dimacs : List ℕ) (g : Automaton) → Gives hoa dimacs g → (l : Lists) → length g.arcs ≤ room_in l
    → let r = read_of hoa dimacs l in let n = numbers_in r in
    (verdict_of r ≡ Ok tt) × (automaton_of n.modes n.start n.colours (first_places n.count (lists_read hoa dimacs l)) ≡ g)
given-read hoa dimacs g gives l enough =
    let yes = gives.accepted l enough in
    (verdict-if (read_verdict hoa dimacs l) (model_read hoa dimacs) ∙ yes, read-model hoa dimacs l yes ∙ gives.model)

-- exactly these models have texts
pub texts-exactly : (g : Automaton) → ((hoa : List ℕ) × (dimacs : List ℕ) × Gives hoa dimacs g)
    ↔ (Fit g × StandTogether g × OnePartArcs g × NoActions g)
texts-exactly g = (λ (hoa, dimacs, gives). given-only hoa dimacs g gives, λ (fit, together, one, none). texts-give g fit together one none)
