-- `Pass::relax` meets its contract. Assumes nothing.
use mathlib.Core.Path.{◌≡◌, sym, ◌∙◌}
use mathlib.Core.Bool.{false, ◌&&◌}
use native.Mathlib.Omega.{arith}
use Rattle.groups.specs.Rows.{barred_at}
use Rattle.groups.specs.Grouped.{arc_placed}
use Rattle.passes.specs.Pass.{Along}
use Rattle.passes.specs.Queue.{node_at, charge_at}
use Rattle.passes.specs.Tasks.{pass_in}
use Rattle.passes.proofs.Trying.{Reads, relax-target, relax-impossible, relax-along, relax-levels, relax-arrives, relax-arrived}
use Rattle.passes.proofs.pass.Pass.relax.Goals as goal

-- used: the pass may use the arc. reads: what is read of it. along: the step that the arc takes.
pub entered-node-requires : goal.entered-node-requires
entered-node-requires c =
    let f = c.requires in
    let low = relax-levels f in
    (low.0, low.1, low.2, relax-target f c.arc_placed-arc.ensures c.target_of.ensures)

pub overflow_cast-words : goal.overflow_cast-words
overflow_cast-words c =
    let s = c.args in
    let arc = c.arc_placed-arc.result in
    let reads : Reads s.self.now.groups.now.rows s.self.now.groups.now.places s.i arc c.draw_of.result c.gain_of.result =
    record { arc = c.arc_placed-arc.ensures; draw = c.draw_of.ensures; gain = c.gain_of.ensures } in
    let used : (s.self.now.aim.lasting && barred_at s.self.now.groups.now.rows arc) ≡ false = sym c.is_left_out.ensures ∙ c.if-is_left_out.false in
    let along : Along (pass_in s.self.now) (arc_placed s.self.now.groups.now.places s.i)
    (node_at s.work.now s.entry.index) (charge_at s.work.now s.entry.index) c.entered-node.result c.in-Some.step.charge =
    relax-along c.requires reads used (sym c.bounded_step.ensures ∙ c.in-Some.is) c.colours_of.ensures c.target_of.ensures
    c.entered-node.ensures in
    let arrives = relax-arrives c.requires c.arc_placed-arc.ensures along in
    omega (arith, arrives.inside, arrives.few)

pub overflow_cast-words-in-Some : goal.overflow_cast-words-in-Some
overflow_cast-words-in-Some c =
    let s = c.args in
    let arc = c.arc_placed-arc.result in
    let reads : Reads s.self.now.groups.now.rows s.self.now.groups.now.places s.i arc c.draw_of.result c.gain_of.result =
    record { arc = c.arc_placed-arc.ensures; draw = c.draw_of.ensures; gain = c.gain_of.ensures } in
    let used : (s.self.now.aim.lasting && barred_at s.self.now.groups.now.rows arc) ≡ false = sym c.is_left_out.ensures ∙ c.if-is_left_out.false in
    let along : Along (pass_in s.self.now) (arc_placed s.self.now.groups.now.places s.i)
    (node_at s.work.now s.entry.index) (charge_at s.work.now s.entry.index) c.entered-node.result c.in-Some.step.charge =
    relax-along c.requires reads used (sym c.bounded_step.ensures ∙ c.in-Some.is) c.colours_of.ensures c.target_of.ensures
    c.entered-node.ensures in
    let arrives = relax-arrives c.requires c.arc_placed-arc.ensures along in
    omega (arith, arrives.parent)

pub arrive-requires : goal.arrive-requires
arrive-requires c =
    let s = c.args in
    let arc = c.arc_placed-arc.result in
    let reads : Reads s.self.now.groups.now.rows s.self.now.groups.now.places s.i arc c.draw_of.result c.gain_of.result =
    record { arc = c.arc_placed-arc.ensures; draw = c.draw_of.ensures; gain = c.gain_of.ensures } in
    let used : (s.self.now.aim.lasting && barred_at s.self.now.groups.now.rows arc) ≡ false = sym c.is_left_out.ensures ∙ c.if-is_left_out.false in
    let along : Along (pass_in s.self.now) (arc_placed s.self.now.groups.now.places s.i)
    (node_at s.work.now s.entry.index) (charge_at s.work.now s.entry.index) c.entered-node.result c.in-Some.step.charge =
    relax-along c.requires reads used (sym c.bounded_step.ensures ∙ c.in-Some.is) c.colours_of.ensures c.target_of.ensures
    c.entered-node.ensures in
    relax-arrives c.requires c.arc_placed-arc.ensures along

pub returns-in-Some : goal.returns-in-Some
returns-in-Some c =
    let s = c.args in
    let arc = c.arc_placed-arc.result in
    let reads : Reads s.self.now.groups.now.rows s.self.now.groups.now.places s.i arc c.draw_of.result c.gain_of.result =
    record { arc = c.arc_placed-arc.ensures; draw = c.draw_of.ensures; gain = c.gain_of.ensures } in
    let used : (s.self.now.aim.lasting && barred_at s.self.now.groups.now.rows arc) ≡ false = sym c.is_left_out.ensures ∙ c.if-is_left_out.false in
    let along : Along (pass_in s.self.now) (arc_placed s.self.now.groups.now.places s.i)
    (node_at s.work.now s.entry.index) (charge_at s.work.now s.entry.index) c.entered-node.result c.in-Some.step.charge =
    relax-along c.requires reads used (sym c.bounded_step.ensures ∙ c.in-Some.is) c.colours_of.ensures c.target_of.ensures
    c.entered-node.ensures in
    relax-arrived c.requires c.arc_placed-arc.ensures along c.arrive.ensures

pub returns-in-None : goal.returns-in-None
returns-in-None c =
    let s = c.args in
    let arc = c.arc_placed-arc.result in
    let reads : Reads s.self.now.groups.now.rows s.self.now.groups.now.places s.i arc c.draw_of.result c.gain_of.result =
    record { arc = c.arc_placed-arc.ensures; draw = c.draw_of.ensures; gain = c.gain_of.ensures } in
    relax-impossible c.requires reads (sym c.bounded_step.ensures ∙ c.in-None.is)
