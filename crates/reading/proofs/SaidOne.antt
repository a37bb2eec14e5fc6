-- Two texts define at most one model, and of texts that are read it is the model read. Document 02, Ask 1: "The model read is the one the two texts
-- define". Assumes nothing.
use Rattle.std.specs.Prelude.{Ok}
use mathlib.Core.Path.{◌≡◌, refl, sym, ap, ◌∙◌}
use mathlib.Core.Bool.{Bool}
use mathlib.Core.List.{List}
use Prim.Native.Nat.{ℕ}
use native.Mathlib.Omega.{arith}
use lib.ListN.{length}
use lib.Seq.{ext_get_or}
use Rattle.model.specs.declared.Arc.{Arc}
use Rattle.model.specs.Automaton.{Automaton, arc_at, no_arc}
use Rattle.model.specs.Lists.{Lists}
use Rattle.model.proofs.Bits.{bits-same}
use Rattle.fields.specs.Fields.{lines_of}
use Rattle.hoa.specs.Text.{Edge, contains}
use Rattle.hoa.proofs.EdgeOne.{edge-one}
use Rattle.filling.proofs.Filled.{arc-by}
use Rattle.reading.specs.ModelRead.{model_read}
use Rattle.reading.specs.Reading.{read_verdict}
use Rattle.reading.specs.Said.{ArcSaid, Said}
use Rattle.reading.proofs.Said.{read-says}

-- a model by its parts
model-by : {m s c : ℕ} {l : List Arc} (g : Automaton) → m ≡ g.modes → s ≡ g.start → c ≡ g.colours → l ≡ g.arcs
    → ◌≡◌ {A = Automaton} (record { modes = m; start = s; colours = c; arcs = l }) g
model-by g em es ec ea = rw (em, es, ec, ea) refl

-- the lines say of arc i only one thing
pub arc-said-one : (h d : List (List ℕ)) (i : ℕ) (a b : Arc) → ArcSaid h d i a → ArcSaid h d i b → a ≡ b
arc-said-one h d i a b p q =
    arc-by b
    (omega (arith, p.from, q.from))
    (omega (arith, p.to, q.to))
    (p.draw ∙ sym q.draw)
    (p.gain ∙ sym q.gain)
    (bits-same a.colours b.colours λ j. p.colours j ∙ ap {B = Bool} (λ (e : Edge). contains j e.colours) edges ∙ sym (q.colours j))
    (p.action ∙ sym q.action)
  where
    edges : p.edge ≡ q.edge
    edges = edge-one h i p.edge q.edge p.at q.at

-- and of the whole model
pub said-one : (h d : List (List ℕ)) (g g' : Automaton) → Said h d g → Said h d g' → g ≡ g'
said-one h d g g' p q =
    let long : length g.arcs ≡ length g'.arcs = p.count ∙ sym q.count in
    model-by g'
    (p.modes ∙ sym q.modes)
    (p.start ∙ sym q.start)
    (p.colours ∙ sym q.colours)
    (ext_get_or no_arc g.arcs g'.arcs long λ i r.
    arc-said-one h d i (arc_at g i) (arc_at g' i) (p.arcs i r) (q.arcs i (omega (arith, long))))

-- it is the model that is read
pub said_read : (hoa dimacs : List ℕ) (l : Lists) (g : Automaton) → read_verdict hoa dimacs l ≡ Ok tt → Said (lines_of hoa) (lines_of dimacs) g
    → g ≡ model_read hoa dimacs
said_read hoa dimacs l g e p = said-one (lines_of hoa) (lines_of dimacs) g (model_read hoa dimacs) p (read-says hoa dimacs l e)
