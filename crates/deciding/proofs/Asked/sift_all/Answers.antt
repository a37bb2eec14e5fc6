-- `Asked::sift_all` meets its contract: at every turn the set has every peak that a cycle keeps, and each turn but the last takes some members out. Assumes
-- nothing.
use mathlib.Core.Path.{refl, sym, ◌∙◌}
use lib.ListN.{length}
use Rattle.deciding.specs.Deciding.{Decidable}
use Rattle.deciding.proofs.Kept.{deciding-first, deciding-next, deciding-none, deciding-same, decidable-size, sifted-size, kept-size}
use Rattle.deciding.proofs.Asked.sift_all.Goals as goal

pub loop-init : goal.loop-init
loop-init c = (refl, deciding-first c.find_peaks.ensures)

pub returns-in-Empty : goal.returns-in-Empty
returns-in-Empty c =
    let a = c.args in
    let able : Decidable a.self.now.groups.now.rows a.self.now.groups.now.places a.self.now.question (length c.find_peaks.new.best) =
    decidable-size a.self.now.groups.now.rows a.self.now.groups.now.places a.self.now.question _ _ (sym c.find_peaks.auto.best) c.requires in
    let turned = sifted-size a.self.now.groups.now.rows a.self.now.groups.now.places a.self.now.question _ _ c.loop.invariant.0 c.in-Empty.ensures in
    kept-size a.self.now.groups.now.rows a.self.now.groups.now.places a.self.now.question _ _ c.find_peaks.auto.best
    (deciding-none c.loop.invariant.1 turned able.fits able.credit refl)

pub returns-in-Same : goal.returns-in-Same
returns-in-Same c =
    let a = c.args in
    let able : Decidable a.self.now.groups.now.rows a.self.now.groups.now.places a.self.now.question (length c.find_peaks.new.best) =
    decidable-size a.self.now.groups.now.rows a.self.now.groups.now.places a.self.now.question _ _ (sym c.find_peaks.auto.best) c.requires in
    let turned = sifted-size a.self.now.groups.now.rows a.self.now.groups.now.places a.self.now.question _ _ c.loop.invariant.0 c.in-Same.ensures in
    kept-size a.self.now.groups.now.rows a.self.now.groups.now.places a.self.now.question _ _ c.find_peaks.auto.best
    (deciding-same c.loop.invariant.1 turned able.fits able.credit refl)

pub loop-preserved : goal.loop-preserved
loop-preserved c =
    let a = c.args in
    let k = c.loop.invariant in
    (c.sift_once.auto.set ∙ k.0, deciding-next k.1 (sifted-size a.self.now.groups.now.rows a.self.now.groups.now.places a.self.now.question _ _ k.0 c.in-Fewer.ensures))
