-- `model::check_arcs` meets its contract: the loop keeps `CopyingInto`, and its two ways out are its two ends. Assumes nothing.
use Rattle.std.specs.Prelude.{Result, Ok}
use mathlib.Core.Path.{refl, sym, ap, ◌∙◌}
use Rattle.refusals.specs.declared.Refusal.{Refusal}
use Rattle.model.specs.declared.Model.{Model}
use Rattle.model.specs.Lists.{lists_of}
use Rattle.model.proofs.Arcs.{copying-none, copying-more, copying-unfit, copying-done, fitted-refused, fitted-yes}
use Rattle.model.proofs.check_arcs.Goals as goal

pub loop-i-init : goal.loop-i-init
loop-i-init c =
    record { copying = copying-none c.args.given.now.n c.two_to-power.result (lists_of c.args.given.now.lists); same = refl }

pub returns-then-unfit_arc : goal.returns-then-unfit_arc
returns-then-unfit_arc c =
    let g = c.args.given.now in
    let l = lists_of g.lists in
    fitted-refused g.n g.start g.k c.two_to-power.result l c.two_to-power.ensures _
    (copying-unfit g.n c.two_to-power.result l c.loop-i.model.arcs c.loop-i.i c.loop-i.invariant.copying _ c.loop-i-test.true c.arc_at-arc.ensures
    (sym c.unfit_arc.ensures ∙ c.if-unfit_arc.true))

pub loop-i-preserved : goal.loop-i-preserved
loop-i-preserved c =
    let g = c.args.given.now in
    let l = lists_of g.lists in
    record {
      copying =
          copying-more g.n c.two_to-power.result l c.loop-i.model.arcs c.loop-i.i c.loop-i.invariant.copying _ c.loop-i-test.true
          c.requires.few_arcs c.arc_at-arc.ensures (sym c.unfit_arc.ensures ∙ c.if-unfit_arc.false);
      same = rw c.loop-i.invariant.same refl;
    }

pub returns : goal.returns
returns c =
    let g = c.args.given.now in
    let l = lists_of g.lists in
    let (e, f) = copying-done g.n c.two_to-power.result l c.loop-i.model.arcs c.loop-i.i c.loop-i.invariant.copying c.loop-i-test.false c.requires.equal in
    ap {B = Result Model Refusal} Ok c.loop-i.invariant.same
    ∙ fitted-yes g.n g.start g.k c.two_to-power.result l c.two_to-power.ensures c.loop-i.model.arcs e f
