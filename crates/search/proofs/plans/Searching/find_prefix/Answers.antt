-- `Searching::find_prefix` meets its contract. Assumes nothing.
use mathlib.Core.Path.{sym}
use mathlib.Core.Bool.{false}
use native.Mathlib.Nat.{one-mul}
use native.Mathlib.Omega.{arith}
use Rattle.search.proofs.Peaks.{lent-zeros}
use Rattle.search.proofs.Tasks.{pass-asked, prefix-left}
use Rattle.search.proofs.plans.Searching.find_prefix.Goals as goal

pub run-outcome-requires : goal.run-outcome-requires
run-outcome-requires c =
    let able = c.requires.searchable.0 in
    let asked = pass-asked able c.requires.searchable.1 (omega arith) (sym (one-mul _)) (lent-zeros able) false able.fits.starts able.credit in
    record { ready = asked.0; begins = asked.1 }

pub unwrap-requires : goal.unwrap-requires
unwrap-requires c =
    let able = c.requires.searchable.0 in
    (prefix-left able c.requires.searchable.1 c.requires.peak.0 c.requires.peak.1 (lent-zeros able) c.run-outcome.auto.best c.run-outcome.auto.work c.run-outcome.ensures).0

pub returns : goal.returns
returns c =
    let able = c.requires.searchable.0 in
    rw c.unwrap.ensures at
    (prefix-left able c.requires.searchable.1 c.requires.peak.0 c.requires.peak.1 (lent-zeros able) c.run-outcome.auto.best c.run-outcome.auto.work c.run-outcome.ensures).1
