-- The rows and groups of a value stand for the model that it holds: the net read from the rows is the net of the model. Assumes nothing.
use mathlib.Core.Path.{◌≡◌, sym, ap, subst, fun_ext, ◌∙◌}
use mathlib.Core.Bool.{Bool, false, not, ◌&&◌}
use mathlib.Core.List.{List}
use Prim.Native.Nat.{ℕ, ◌^◌, ◌<◌}
use native.Mathlib.Omega.{arith}
use native.Mathlib.Decide.{dec_lt}
use lib.Bits.{and_zero_l}
use lib.Dec.{eqb, ltb}
use lib.ListN.{length, get_or, get_or-eq_default}
use lib.Pow.{pow_pos}
use borrow.Author.Tests.{lt-ltb, le-ltb}
use Rattle.limits.specs.Ceilings.{colours_most}
use Rattle.model.specs.declared.Arc.{Arc}
use Rattle.model.specs.declared.Model.{Model}
use Rattle.model.specs.Automaton.{no_arc, arc_at, has_barred}
use Rattle.model.specs.Required.{required, compressed}
use Rattle.model.specs.Lists.{held}
use Rattle.model.specs.Fitness.{Holds}
use Rattle.model.proofs.Bits.{colours-below}
use Rattle.model.proofs.Barred.{common-mask}
use Rattle.model.proofs.Required.{compressed-zero}
use Rattle.model.proofs.Held.{held-arc}
use Rattle.switches.specs.Switches.{is_on}
use Rattle.nets.specs.Net.{Net, Fits}
use Rattle.nets.specs.Whole.{whole}
use Rattle.nets.proofs.Whole.{whole-fits}
use Rattle.groups.specs.Groups.{places_of}
use Rattle.groups.specs.declared.Row.{Row}
use Rattle.groups.specs.Rows.{no_row, barred_in, row_of, rows_of, arc_in, source_at, target_at, draw_at, gain_at, colours_at, barred_at, on_at}
use Rattle.groups.specs.Grouped.{arc_count, Grouped}
use Rattle.groups.proofs.Rows.{row_at, row-none}
use Rattle.groups.proofs.Grouping.{given-numbers, holds-grouped, all-counted, grouped-same}
use Rattle.passes.specs.RowsNet.{fields_net, rows_net}

module _ (g : Model) (x : ℕ) (on : List ℕ) (h : Holds g) where
  -- no arc, no row
  row_none : row_of x false no_arc ≡ no_row
  row_none =
      ap {B = Row} (λ (w : ℕ). record no_row { colours = w; barred = barred_in x 0 }) (compressed-zero x colours_most)
      ∙ ap {B = Row} (λ (w : ℕ). record no_row { barred = not (eqb w 0) }) (and_zero_l x)

  -- arc a is there and on
  abbrev stands : ℕ → Bool
  stands a = ltb a (length (held g).arcs) && is_on on a

  -- the row of arc a is what is read of the model's arc, for every number a: past the last arc both are blank
  row-arc : (a : ℕ) → get_or (rows_of g x on) a no_row ≡ row_of x (stands a) (arc_at (held g) a)
  row-arc a = go (dec_lt a g.count)
    where
      go : Dec (a < g.count) → get_or (rows_of g x on) a no_row ≡ row_of x (stands a) (arc_at (held g) a)
      go (yes l) =
          let there : stands a ≡ is_on on a =
          ap {B = Bool} (λ (t : Bool). t && is_on on a) (lt-ltb a (length (held g).arcs) (omega (arith, h.count))) in
          row_at x on (arc_in g) g.count a l
          ∙ ap {B = Row} (row_of x (is_on on a)) (sym (held-arc g a l))
          ∙ ap {B = Row} (λ (o : Bool). row_of x o (arc_at (held g) a)) (sym there)
      go (no l) =
          let none : arc_at (held g) a ≡ no_arc = get_or-eq_default (held g).arcs no_arc {n = a} (omega (arith, h.count)) in
          let off : stands a ≡ false =
          ap {B = Bool} (λ (t : Bool). t && is_on on a) (le-ltb a (length (held g).arcs) (omega (arith, h.count))) in
          row-none x on (arc_in g) g.count a (omega arith)
          ∙ sym (
          ap {B = Row} (row_of x (stands a)) none ∙ ap {B = Row} (λ (o : Bool). row_of x o no_arc) off ∙ row_none
          )

  row-source : (a : ℕ) → source_at (rows_of g x on) a ≡ (arc_at (held g) a).source
  row-source a = ap {B = ℕ} (λ (r : Row). r.source) (row-arc a)

  -- the colours of every arc are below 2 ^ k, past the last arc too
  colours-low : (a : ℕ) → (arc_at (held g) a).colours < 2 ^ g.colours
  colours-low a = go (dec_lt a (length (held g).arcs))
    where
      go : Dec (a < length (held g).arcs) → (arc_at (held g) a).colours < 2 ^ g.colours
      go (yes l) = (colours-below (arc_at (held g) a).colours g.colours).1 (h.fit.arcs_fit a l).colours
      go (no l) =
          let none : arc_at (held g) a ≡ no_arc = get_or-eq_default (held g).arcs no_arc {n = a} (omega arith) in
          subst (λ (y : Arc). y.colours < 2 ^ g.colours) (sym none) (pow_pos g.colours)

  -- what is read of the colours
  row-colours : (a : ℕ) → colours_at (rows_of g x on) a ≡ compressed x (arc_at (held g) a).colours
  row-colours a = ap {B = ℕ} (λ (r : Row). r.colours) (row-arc a)

  pub row-barred : (a : ℕ) → barred_at (rows_of g x on) a ≡ has_barred (held g) x a
  row-barred a =
      ap {B = Bool} (λ (r : Row). r.barred) (row-arc a) ∙ sym (common-mask x (arc_at (held g) a).colours g.colours (colours-low a))

  -- and of the switch
  row_on : (a : ℕ) → on_at (rows_of g x on) a ≡ stands a
  row_on a = ap {B = Bool} (λ (r : Row). r.on) (row-arc a)

  -- the number of arcs that the groups have is the model's
  pub count_same : arc_count (places_of g on) g.modes ≡ g.count
  count_same = all-counted g on (omega (arith, h.fit.few_modes))

  -- the net read from the rows is the model's
  pub net-same : rows_net (rows_of g x on) g.modes g.start (required x g.colours) (arc_count (places_of g on) g.modes) ≡ whole (held g) x on
  net-same =
      let w = rows_of g x on in
      let arc : (ℕ → Arc) = λ a. arc_at (held g) a in
      let source : (ℕ → ℕ) = λ a. (arc a).source in
      let target : (ℕ → ℕ) = λ a. (arc a).target in
      let draw : (ℕ → ℕ) = λ a. (arc a).draw in
      let gain : (ℕ → ℕ) = λ a. (arc a).gain in
      let colours : (ℕ → ℕ) = λ a. compressed x (arc a).colours in
      let barred : (ℕ → Bool) = λ a. has_barred (held g) x a in
      let n = g.modes in
      let s = g.start in
      let k = required x g.colours in
      let m = arc_count (places_of g on) g.modes in
      ap {B = Net} (λ (f : ℕ → ℕ). fields_net f (target_at w) (draw_at w) (gain_at w) (colours_at w) (barred_at w) (on_at w) n s k m) (fun_ext row-source)
      ∙ ap {B = Net} (λ (f : ℕ → ℕ). fields_net source f (draw_at w) (gain_at w) (colours_at w) (barred_at w) (on_at w) n s k m)
      (fun_ext (λ a. ap {B = ℕ} (λ (r : Row). r.target) (row-arc a)))
      ∙ ap {B = Net} (λ (f : ℕ → ℕ). fields_net source target f (gain_at w) (colours_at w) (barred_at w) (on_at w) n s k m)
      (fun_ext (λ a. ap {B = ℕ} (λ (r : Row). r.draw) (row-arc a)))
      ∙ ap {B = Net} (λ (f : ℕ → ℕ). fields_net source target draw f (colours_at w) (barred_at w) (on_at w) n s k m)
      (fun_ext (λ a. ap {B = ℕ} (λ (r : Row). r.gain) (row-arc a)))
      ∙ ap {B = Net} (λ (f : ℕ → ℕ). fields_net source target draw gain f (barred_at w) (on_at w) n s k m) (fun_ext row-colours)
      ∙ ap {B = Net} (λ (f : ℕ → Bool). fields_net source target draw gain colours f (on_at w) n s k m) (fun_ext row-barred)
      ∙ ap {B = Net} (λ (f : ℕ → Bool). fields_net source target draw gain colours barred f n s k m) (fun_ext row_on)
      ∙ ap {B = Net} (λ (y : ℕ). fields_net source target draw gain colours barred stands n s k y) (count_same ∙ sym h.count)

  -- so it fits, and the groups are those of its arcs that are on
  pub rows_fit : Fits (rows_net (rows_of g x on) g.modes g.start (required x g.colours) (arc_count (places_of g on) g.modes))
  rows_fit = subst Fits (sym net-same) (whole-fits (held g) x on h.fit)

  pub rows-grouped : Grouped (λ a. source_at (rows_of g x on) a) (λ a. on_at (rows_of g x on) a) g.modes (arc_count (places_of g on) g.modes) (places_of g on)
  rows-grouped =
      subst (λ (m : ℕ). Grouped (λ a. source_at (rows_of g x on) a) (λ a. on_at (rows_of g x on) a) g.modes m (places_of g on)) (sym count_same)
      (grouped-same (λ a. (arc_in g a).source) (λ a. source_at (rows_of g x on) a) (is_on on) (λ a. on_at (rows_of g x on) a) g.modes g.count
      (places_of g on) (λ a l. sym (given-numbers g x on a l).source) (λ a l. sym (given-numbers g x on a l).on) (holds-grouped g on h))
