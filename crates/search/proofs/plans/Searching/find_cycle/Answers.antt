-- `Searching::find_cycle` meets its contract. Assumes nothing.
use mathlib.Core.Path.{refl}
use native.Mathlib.Omega.{arith}
use Rattle.passes.specs.Pass.{node}
use Rattle.search.proofs.Tasks.{pass-asked, cycle-left, table-blank}
use Rattle.search.proofs.plans.Searching.find_cycle.Goals as goal

pub run-requires : goal.run-requires
run-requires c =
    let able = c.requires.searchable.0 in
    let low = c.requires.within in
    let asked = pass-asked able c.requires.searchable.1 (omega arith) refl (table-blank able) c.args.self.now.task.barred low.0 low.1 in
    record { ready = asked.0; begins = asked.1 }

pub returns : goal.returns
unfolding node
returns c =
    let able = c.requires.searchable.0 in
    cycle-left able c.requires.searchable.1 c.requires.within.0 (table-blank able) c.run.auto.best c.run.auto.work c.run.ensures
