-- The rows and groups of a value stand for the model that it holds: what the search over them asks and answers, in the words of the model. Assumes
-- nothing.
use mathlib.Core.Path.{◌≡◌, sym, subst, ◌∙◌}
use mathlib.Core.Bool.{Bool, false}
use mathlib.Core.List.{List}
use mathlib.Core.Logic.{◌↔◌}
use Prim.Native.Nat.{ℕ, ◌+◌, ◌*◌, ◌≤◌}
use native.Mathlib.Nat.{mul-le-mul_right}
use native.Mathlib.Omega.{arith}
use Rattle.limits.specs.Ceilings.{work_words, work_levels, plan_levels, work_space, plan_buffer}
use Rattle.model.specs.declared.Model.{Model}
use Rattle.model.specs.Required.{required}
use Rattle.model.specs.Lists.{held}
use Rattle.model.proofs.Barred.{none-barred}
use Rattle.model.proofs.Required.{required-le, required-room}
use Rattle.switches.specs.PlansOn.{SomePlanOn}
use Rattle.nets.specs.Net.{Net, Fits, AcceptedLasso}
use Rattle.nets.specs.Whole.{whole}
use Rattle.nets.proofs.Whole.{whole-fits, whole-lasso}
use Rattle.groups.specs.declared.Groups.{Groups}
use Rattle.groups.specs.Groups.{groups_of}
use Rattle.passes.specs.declared.pass.Task.{Task}
use Rattle.passes.specs.Tasks.{task_net}
use Rattle.passes.proofs.RowsNet.{row-barred, count_same, net-same, rows-grouped}
use Rattle.search.specs.Search.{Searched, no_plan, Answered}
use Rattle.search.specs.Tasks.{Solvable, Searchable, Written}
use Rattle.search.proofs.Written.{written-answered}

-- the task of a model with d duties; some: whether a colour may be barred
abbrev pub model_task : Model → ℕ → Bool → ℕ → ℕ → Task
model_task g d some b c = record { modes = g.modes; start = g.start; duties = d; barred = some; credit = c; bound = b }

-- fewer colours ask for less
fewer : (x k n b : ℕ) → (work_space (required x k) n b ≤ work_space k n b) × (plan_buffer (required x k) n b ≤ plan_buffer k n b)
fewer x k n b =
    let works : work_words * (required x k + work_levels) ≤ work_words * (k + work_levels) = omega (arith, required-le x k) in
    (mul-le-mul_right (b + 1) (mul-le-mul_right n works), required-room x k plan_levels n (b + 1))

module _ {g : Model} (x : ℕ) (on : List ℕ) {d b c words bytes : ℕ} {some : Bool} {groups : Groups} (able : Solvable g b c words bytes)
    (same : groups ≡ groups_of g x on) (duties : d ≡ required x g.colours) (zero : some ≡ false → x ≡ 0) where
  task-net : task_net groups.rows groups.places (model_task g d some b c) ≡ whole (held g) x on
  task-net = rw (same, duties) (net-same g x on able.holds)

  able-searchable : Searchable groups.rows groups.places (model_task g d some b c)
  able-searchable =
      let fit = able.holds.fit in
      record {
        some-mode = fit.some-mode;
        few_modes = fit.few_modes;
        few_arcs = rw same (omega (arith, fit.few_arcs, able.holds.count, count_same g x on able.holds));
        few_duties = omega (arith, duties, fit.few_colours, required-le x g.colours);
        unbarred = λ e a. rw same (row-barred g x on able.holds a ∙ rw (zero e) (none-barred (held g) a));
        fits = subst Fits (sym task-net) (whole-fits (held g) x on fit);
        grouped = rw same (rows-grouped g x on able.holds);
        credit = able.credit;
        low = able.low;
        product = able.product;
      }

  -- what the search over rows and groups asks
  pub solvable-searchable : Searchable groups.rows groups.places (model_task g d some b c) × (work_space d g.modes b ≤ words) × (plan_buffer d g.modes b ≤ bytes)
  solvable-searchable =
      let less = fewer x g.colours g.modes b in
      (able-searchable, rw duties (omega (arith, able.space, less.0)), rw duties (omega (arith, able.buffer, less.1)))

  -- what it answers, in the words of the model
  pub solved-none : {r : Searched} → ((r ≡ no_plan) ↔ (AcceptedLasso (task_net groups.rows groups.places (model_task g d some b c)) b c → ⊥))
      → (r ≡ no_plan) ↔ (SomePlanOn (held g) x on b c → ⊥)
  solved-none {r} d =
      let e : (r ≡ no_plan) ↔ (AcceptedLasso (whole (held g) x on) b c → ⊥) =
      subst (λ (y : Net). (r ≡ no_plan) ↔ (AcceptedLasso y b c → ⊥)) task-net d in
      let w = whole-lasso (held g) x on b c able.holds.fit.few_colours in
      (λ q p. e.0 q (w.0 p), λ n. e.1 (λ l. n (w.1 l)))

  pub solved-answered : {plan plan' : List ℕ} {r : Searched} → Written (task_net groups.rows groups.places (model_task g d some b c)) b c plan plan' r
      → Answered (held g) x on b c plan plan' r
  solved-answered {plan} {plan'} {r} d =
      written-answered (held g) x on able.holds.fit.few_colours (subst (λ (y : Net). Written y b c plan plan' r) task-net d)
