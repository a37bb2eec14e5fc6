-- `Searching::make_plan` meets its contract: where no peak is kept there is no plan, and else the prefix to the first peak that is kept, and the
-- cycle behind it, are one. Assumes nothing.
use mathlib.Core.Path.{refl}
use native.Mathlib.Omega.{arith}
use Rattle.search.specs.Tasks.{net_of, none}
use Rattle.search.proofs.Spaces.{plan-held, buffer-short, prefix-held, cycle-held}
use Rattle.search.proofs.Written.{plan-found, lasso-answered}
use Rattle.search.proofs.Peaks.{no-plan, some-first, first-peak}
use Rattle.search.proofs.plans.Searching.make_plan.Goals as goal

pub returns-then-not-find_kept : goal.returns-then-not-find_kept
returns-then-not-find_kept c =
    let no = no-plan c.requires.searchable.0 c.question-question.ensures c.find_kept.auto.set c.find_kept.ensures c.if-not-find_kept.true in
    record { no_plan = (λ e. no, λ e. refl); answered = none refl }

pub unwrap-mode-requires : goal.unwrap-mode-requires
unwrap-mode-requires c =
    some-first c.requires.searchable.0 c.question-question.ensures c.find_kept.auto.set c.find_kept.ensures _ c.if-not-find_kept.false c.first_kept.ensures

pub write_prefix-p-requires : goal.write_prefix-p-requires
write_prefix-p-requires c =
    let t = c.args.self.now.task in
    let kept = first-peak c.requires.searchable.0 c.question-question.ensures c.find_kept.auto.set c.find_kept.ensures c.if-not-find_kept.false c.unwrap-mode.ensures c.first_kept.ensures in
    record {
      searchable = c.requires.searchable;
      peak = kept.peak;
      fits = prefix-held t.duties t.modes t.bound _ c.requires.fits;
    }

pub slice_bounds-write_cycle-count : goal.slice_bounds-write_cycle-count
slice_bounds-write_cycle-count c =
    let t = c.args.self.now.task in
    let p = c.write_prefix-p in
    omega (arith, p.ensures.few, p.auto.plan, prefix-held t.duties t.modes t.bound _ c.requires.fits)

pub slice_bounds-write_cycle-start : goal.slice_bounds-write_cycle-start
slice_bounds-write_cycle-start c =
    let t = c.args.self.now.task in
    let p = c.write_prefix-p in
    omega (arith, p.ensures.few, p.auto.plan, prefix-held t.duties t.modes t.bound _ c.requires.fits)

pub write_cycle-q-requires : goal.write_cycle-q-requires
write_cycle-q-requires c =
    let kept = first-peak c.requires.searchable.0 c.question-question.ensures c.find_kept.auto.set c.find_kept.ensures c.if-not-find_kept.false c.unwrap-mode.ensures c.first_kept.ensures in
    let t = c.args.self.now.task in
    let p = c.write_prefix-p in
    record {
      searchable = (c.requires.searchable.0, rw p.auto.work c.requires.searchable.1);
      kept = (kept.peak.mode, kept.low, kept.cycle);
      fits =
          cycle-held t.duties t.modes t.bound p.result p.new.plan p.ensures.few
          (omega (arith, p.auto.plan, c.requires.fits));
    }

pub overflow_cast-lengths : goal.overflow_cast-lengths
overflow_cast-lengths c =
    let t = c.args.self.now.task in
    let able = c.requires.searchable.0 in
    let short = buffer-short t.duties t.modes t.bound able.few_duties able.product in
    omega (arith, short, prefix-held t.duties t.modes t.bound _ short, c.write_prefix-p.ensures.few)

pub overflow_cast-lengths-2 : goal.overflow_cast-lengths-2
overflow_cast-lengths-2 c =
    let t = c.args.self.now.task in
    let able = c.requires.searchable.0 in
    let p = c.write_prefix-p in
    let q = c.write_cycle-q in
    let held = plan-held t.duties t.modes t.bound p.result q.result p.ensures.few q.ensures.few in
    omega (arith, held, buffer-short t.duties t.modes t.bound able.few_duties able.product)

pub returns : goal.returns
returns c =
    let able = c.requires.searchable.0 in
    let p = c.write_prefix-p in
    let q = c.write_cycle-q in
    let told = lasso-answered
    (plan-found {g = net_of c.args.self.now} able.few_duties able.product
    c.requires.fits p.ensures p.auto.plan q.ensures q.auto.part) in
    record { no_plan = told.0; answered = told.1 }
