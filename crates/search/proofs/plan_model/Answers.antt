-- `search::plan_model` meets its contract: the rows and groups stand for the model. Assumes nothing.
use mathlib.Core.Path.{ap, ◌∙◌}
use Prim.Native.Nat.{ℕ}
use Rattle.model.specs.Required.{required}
use Rattle.refusals.proofs.Tests.{differ-no}
use Rattle.search.proofs.Standing.{solvable-searchable, solved-none, solved-answered}
use Rattle.search.proofs.plan_model.Goals as goal

pub make_plan-requires : goal.make_plan-requires
make_plan-requires c =
    let duties = c.count_required-required.ensures ∙ ap {B = ℕ} (required c.args.barred) c.from.ensures in
    let asked = solvable-searchable c.args.barred c.args.on c.requires c.group-groups.ensures duties (differ-no c.args.barred 0).0 in
    rw (c.from-2.ensures, c.from-3.ensures) (record { searchable = (asked.0, asked.1); fits = asked.2 })

pub returns : goal.returns
returns c =
    let x = c.args.barred in
    let on = c.args.on in
    let able = c.requires in
    let duties = c.count_required-required.ensures ∙ ap {B = ℕ} (required c.args.barred) c.from.ensures in
    let zero = (differ-no x 0).0 in
    record {
      no_plan = solved-none x on able c.group-groups.ensures duties zero (rw (c.from-2.ensures, c.from-3.ensures) at c.make_plan.ensures.no_plan);
      answered = solved-answered x on able c.group-groups.ensures duties zero (rw (c.from-2.ensures, c.from-3.ensures) at c.make_plan.ensures.answered);
    }
