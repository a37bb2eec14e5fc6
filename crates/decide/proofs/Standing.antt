-- The rows and groups of a value stand for the model that it holds: what the decision over them asks and answers, in the words of the model. Assumes
-- nothing.
use mathlib.Core.Path.{◌≡◌, sym, subst}
use mathlib.Core.Bool.{Bool, true}
use mathlib.Core.List.{List}
use mathlib.Core.Logic.{◌↔◌}
use Prim.Native.Nat.{ℕ}
use native.Mathlib.Omega.{arith}
use lib.ListN.{length, take}
use lib.Seq.{length-take-le}
use Rattle.model.specs.declared.Model.{Model}
use Rattle.model.specs.Required.{required}
use Rattle.model.specs.Lists.{held}
use Rattle.model.proofs.Required.{required-le}
use Rattle.switches.specs.PlansOn.{SomePlanOn}
use Rattle.nets.specs.Net.{Net, Fits, AcceptedLasso}
use Rattle.nets.specs.Whole.{whole}
use Rattle.nets.proofs.Whole.{whole-fits, whole-lasso}
use Rattle.groups.specs.declared.Groups.{Groups}
use Rattle.groups.specs.Groups.{groups_of}
use Rattle.passes.proofs.RowsNet.{count_same, net-same, rows-grouped}
use Rattle.deciding.specs.declared.Question.{Question}
use Rattle.deciding.specs.Deciding.{asked_net, Decidable, KeptFound}
use Rattle.deciding.proofs.Kept.{kept-lasso}
use Rattle.decide.specs.Within.{Answerable}
use Rattle.decide.proofs.Decidable.{space-modes}

-- what is asked of a model with d duties
abbrev pub model_question : Model → ℕ → ℕ → ℕ → Question
model_question g d b c = record { start = g.start; duties = d; credit = c; bound = b }

-- a word for each mode is lent of the space
pub part-lent : {g : Model} {b c : ℕ} (work : List ℕ) → Answerable g b c (length work) → g.modes ≡ length (take g.modes work)
part-lent {g} work able = sym (length-take-le g.modes work (space-modes g.colours g.modes (length work) able.space))

module _ {g : Model} (x : ℕ) (on : List ℕ) {d b c words : ℕ} {groups : Groups} (able : Answerable g b c words)
    (same : groups ≡ groups_of g x on) (duties : d ≡ required x g.colours) where
  asked-net : asked_net groups.rows groups.places (model_question g d b c) g.modes ≡ whole (held g) x on
  asked-net = rw (same, duties) (net-same g x on able.holds)

  asked : Decidable groups.rows groups.places (model_question g d b c) g.modes
  asked =
      let fit = able.holds.fit in
      record {
        few_modes = fit.few_modes;
        few_arcs = rw same (omega (arith, fit.few_arcs, able.holds.count, count_same g x on able.holds));
        few_duties = omega (arith, duties, fit.few_colours, required-le x g.colours);
        fits = subst Fits (sym asked-net) (whole-fits (held g) x on fit);
        grouped = rw same (rows-grouped g x on able.holds);
        credit = able.credit;
        low = omega (arith, able.low);
      }

  -- what the decision over rows and groups asks, with as many modes as words are lent
  pub answerable-decidable : (n : ℕ) → g.modes ≡ n → Decidable groups.rows groups.places (model_question g d b c) n
  answerable-decidable n e = subst (λ (m : ℕ). Decidable groups.rows groups.places (model_question g d b c) m) e asked

  -- an accepted lasso of the net that is asked about is a plan of the model
  pub asked-lasso : (n : ℕ) → g.modes ≡ n
      → AcceptedLasso (asked_net groups.rows groups.places (model_question g d b c) n) b c ↔ SomePlanOn (held g) x on b c
  asked-lasso n e =
      let w = whole-lasso (held g) x on b c able.holds.fit.few_colours in
      let Lasso : ℕ → Type 0 = λ m. AcceptedLasso (asked_net groups.rows groups.places (model_question g d b c) m) b c in (
        λ l. w.1 (subst (λ (y : Net). AcceptedLasso y b c) asked-net (subst Lasso (sym e) l)),
        λ p. subst Lasso e (subst (λ (y : Net). AcceptedLasso y b c) (sym asked-net) (w.0 p)),
      )

  -- what it answers, in the words of the model
  pub answered : (n : ℕ) → g.modes ≡ n → {kept : List ℕ} {some : Bool}
      → KeptFound (asked_net groups.rows groups.places (model_question g d b c) n) b c kept some
      → (some ≡ true) ↔ SomePlanOn (held g) x on b c
  answered n e {some = some} k = let l = kept-lasso some k in let w = asked-lasso n e in (λ h. w.0 (l.0 h), λ p. l.1 (w.1 p))
