-- The rows and groups of a value stand for the model that it holds: what halving asks and answers, in the words of the model. Assumes nothing.
use mathlib.Core.Path.{◌≡◌, sym}
use mathlib.Core.List.{List}
use mathlib.Core.Logic.{◌↔◌}
use Prim.Native.Nat.{ℕ, ◌≤◌}
use native.Mathlib.Omega.{arith}
use Rattle.limits.specs.Ceilings.{decide_space}
use Rattle.model.specs.declared.Model.{Model}
use Rattle.model.specs.Required.{required}
use Rattle.model.specs.Lists.{held}
use Rattle.groups.specs.Groups.{groups_of}
use Rattle.nets.proofs.Cycles.{lasso-wider}
use Rattle.deciding.specs.Deciding.{asked_net}
use Rattle.decide.specs.Within as decide
use Rattle.decide.proofs.Standing.{answerable-decidable, asked-lasso}
use Rattle.least.specs.declared.Sought.{Sought}
use Rattle.least.specs.declared.Sought.TheVariants.{Credit, Bound}
use Rattle.least.specs.declared.Problem.{Problem}
use Rattle.least.specs.Least.{LeastFound, bound_at, credit_at, Allowed, HasPlan, largest_tried}
use Rattle.least.specs.Within.{Answerable, lowest_tried, question_at, LassoAt, InRange, Decidables, Answered, value, none}
use Rattle.least.proofs.Halving.{Monotone, least-alike, none_alike}
use Rattle.least.proofs.Levels.{bound-grows, credit-grows, factor-low, largest-bound, allowed-range}

-- a lasso stays one at a higher level
pub lasso-grows : (p : Problem) → Monotone (LassoAt p)
unfolding LassoAt
lasso-grows p y z h =
    lasso-wider (asked_net p.groups.now.rows p.groups.now.places (question_at p y) p.modes) _ _ _ _ (bound-grows p.sought p.known y z h)
    (credit-grows p.sought p.known y z h)

-- the same answer in other words for the levels and for what serves
pub answered-alike : {Allow Allow' Serves Serves' : ℕ → Type 0} {r : LeastFound} → ((y : ℕ) → Allow y ↔ Allow' y)
    → ((y : ℕ) → Allow y → Serves y ↔ Serves' y) → Answered Allow Serves r → Answered Allow' Serves' r
answered-alike levels same (value k) = value (least-alike levels same k)
answered-alike levels same (none f) = none (none_alike levels same f)

-- the problem p asks of the model g for the least level of the kind s, where the other one is given
pub record Asks (g : Model) (x : ℕ) (on : List ℕ) (s : Sought) (given : ℕ) (p : Problem) : Type 0 where
  pub groups : p.groups.now ≡ groups_of g x on
  pub modes : p.modes ≡ g.modes
  pub start : p.start ≡ g.start
  pub duties : p.duties ≡ required x g.colours
  pub sought : p.sought ≡ s
  pub known : p.known ≡ given
  pub lowest : p.lowest ≡ lowest_tried s given
  pub highest : p.highest ≡ largest_tried s g.modes given

-- each level that is looked at can be decided
level-answerable : {g : Model} (s : Sought) {given : ℕ} → Answerable g given → (y : ℕ) → Allowed s g.modes given y
    → decide.Answerable g (bound_at s given y) (credit_at s given y) (decide_space g.colours g.modes)
level-answerable {g} Credit {given} able y h =
    record {
      holds = able.holds;
      credit = h;
      low = omega (arith, factor-low g.modes given able.holds.fit.some-mode able.product);
      space = omega arith;
    }
level-answerable {g} Bound {given} able y h =
    record {
      holds = able.holds;
      credit = h.0;
      low = omega (arith, factor-low g.modes y able.holds.fit.some-mode h.1);
      space = omega arith;
    }

-- there is one: the given bound's own, or the given credit as bound
range-order : {g : Model} (s : Sought) {given : ℕ} → Answerable g given → lowest_tried s given ≤ largest_tried s g.modes given
range-order Credit able = omega arith
range-order {g} Bound {given} able =
    (largest-bound g.modes given able.holds.fit.some-mode able.holds.fit.few_modes).0 able.product

module _ {g : Model} (x : ℕ) (on : List ℕ) (s : Sought) {given : ℕ} {p : Problem} (able : Answerable g given) (asks : Asks g x on s given p) where
  range : (y : ℕ) → InRange p y ↔ Allowed s g.modes given y
  range y =
      let r = allowed-range s g.modes given y able.holds.fit.some-mode able.holds.fit.few_modes in (
        λ h. r.1 (omega (arith, asks.lowest, h.0), omega (arith, asks.highest, h.1)),
        λ h. let (u, v) = r.0 h in (omega (arith, asks.lowest, u), omega (arith, asks.highest, v)),
      )

  -- what is asked of halving
  pub model-decidables : Decidables p
  model-decidables =
      record {
        order = omega (arith, asks.lowest, asks.highest, range-order s able);
        each = λ y h.
            rw (asks.sought, asks.known, asks.start)
            (answerable-decidable x on (level-answerable s able y ((range y).0 h)) asks.groups asks.duties p.modes (sym asks.modes));
      }

  lasso-plan : (y : ℕ) → InRange p y → LassoAt p y ↔ HasPlan s (held g) x on given y
  unfolding LassoAt
  lasso-plan y h =
      rw (asks.sought, asks.known, asks.start)
      (asked-lasso x on (level-answerable s able y ((range y).0 h)) asks.groups asks.duties p.modes (sym asks.modes))

  -- what it answers, in the words of the model
  pub model-answered : {r : LeastFound} → Answered (InRange p) (LassoAt p) r
      → Answered (λ y. Allowed s g.modes given y) (λ y. HasPlan s (held g) x on given y) r
  model-answered = answered-alike range lasso-plan
