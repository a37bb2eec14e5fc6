-- What the steps of a search come to: the prefix and the cycle that are written, and the plan that they are. Assumes nothing.
use Rattle.std.specs.Prelude.{Option, Some, None}
use Rattle.std.specs.Option.{IsSome}
use mathlib.Core.Path.{◌≡◌, refl, sym, ap, subst, ◌∙◌}
use mathlib.Core.List.{List, [], ◌++◌, append-nil}
use mathlib.Core.Logic.{◌↔◌}
use Prim.Native.Nat.{ℕ, ◌+◌, ◌-◌, ◌*◌, ◌≤◌, ◌<◌}
use native.Mathlib.Numerals.{add-one}
use native.Mathlib.Omega.{arith}
use lib.ListN.{length, take, drop, set, length-append, length-drop, drop_of_length-le}
use lib.Seq.{length-take-le, take_at, drop_at, take-append-add, drop-append-add, take-suc-set, drop-set-lt, drop-drop}
use Rattle.limits.specs.Ceilings.{colours_most, product_most, plan_buffer}
use Rattle.refusals.proofs.Verdicts.{clash}
use Rattle.model.specs.Automaton.{Automaton}
use Rattle.model.specs.Plans.{Plan}
use Rattle.model.proofs.Required.{required-room}
use Rattle.judge.specs.Shape.{plan_of}
use Rattle.judge.proofs.Arcs.{rest_part}
use Rattle.nets.specs.Net.{Net, AcceptedLasso}
use Rattle.nets.specs.Table.{KeptCycle}
use Rattle.nets.specs.Whole.{whole, lasso_plan}
use Rattle.nets.proofs.Whole.{lasso-serves}
use Rattle.nets.proofs.Criterion.{reached-lasso}
use Rattle.passes.specs.declared.pass.Closing.{Closing}
use Rattle.passes.specs.Trace.{Wrote}
use Rattle.passes.specs.Outcome.{CyclePassed, CycleClosed, PrefixWritten, CycleWritten}
use Rattle.search.specs.Search as search
use Rattle.search.specs.Search.{Searched, planned, no_plan, Found, Answered}
use Rattle.search.specs.Tasks.{PrefixPassed, LassoFound, Written, none, found}
use Rattle.search.proofs.Spaces.{plan-held, buffer-short, prefix-few, cycle-few}

-- bytes that are read back from an entry, and one arc more: later bytes are not touched
last-later : {w : List ℕ} {i r : ℕ} {plan plan₁ : List ℕ} (a : ℕ) → Wrote w i plan plan₁ r → drop (r + 1) (set plan₁ r a) ≡ drop (r + 1) plan
last-later {r = r} {plan} {plan₁} a wrote =
    drop-set-lt (r + 1) plan₁ r a (omega arith) ∙ sym (drop-drop 1 r plan₁) ∙ ap {B = List ℕ} (drop 1) wrote.later ∙ drop-drop 1 r plan

-- at the beginning the prefix is empty
pub prefix-none : {g : Net} {b c s e : ℕ} (plan : List ℕ) → s ≡ g.start → e ≡ c → PrefixWritten g b c s e plan plan 0
prefix-none plan hs hc =
    record {
      few = omega arith;
      arcs = record { reached = record { arcs = []; leads = sym hs; levels = refl; possible = tt; reaches = sym hc }; same = refl };
      later = refl;
    }

-- else it is the arcs that are read back from the entry of its last arc, and that arc
pub prefix-written : {g : Net} {b c s e head a r : ℕ} {w plan plan₁ : List ℕ} → PrefixPassed g b c s e w head a → Wrote w head plan plan₁ r
    → r < length plan₁ → PrefixWritten g b c s e plan (set plan₁ r a) (r + 1)
prefix-written {a = a} {r} {plan₁ = plan₁} passed wrote long =
    record {
      few = omega (arith, passed.few, wrote.few);
      arcs = rw (add-one r, take-suc-set plan₁ r a long) (passed.arcs (take r plan₁) wrote.arcs);
      later = last-later a wrote;
    }

-- where a cycle keeps the charge, the pass finds one
pub cycle-found : {g : Net} {b s e : ℕ} {w : List ℕ} {found : Option Closing} → CyclePassed g b s e w found → KeptCycle g b s e → IsSome found
cycle-found {found = None} passed cycle = absurd (passed.none refl cycle)
cycle-found {found = Some k} passed cycle = refl

-- the arcs that are read back from its entry, and its last arc, are the cycle
pub cycle-written : {g : Net} {b s e head a r : ℕ} {w plan plan₁ : List ℕ} → CycleClosed g b s e w head a → Wrote w head plan plan₁ r
    → r < length plan₁ → CycleWritten g b s e plan (set plan₁ r a) (r + 1)
cycle-written {a = a} {r} {plan₁ = plan₁} closed wrote long =
    record {
      few = omega (arith, closed.few, wrote.few);
      arcs = rw (add-one r, take-suc-set plan₁ r a long) (closed.arcs (take r plan₁) wrote.arcs);
      later = last-later a wrote;
    }

module _ {g : Net} {b c s e p q : ℕ} {plan plan₁ part : List ℕ} (prefix : PrefixWritten g b c s e plan plan₁ p)
    (cycle : CycleWritten g b s e (drop p plan₁) part q) (long : p ≤ length plan₁) where
  -- the first bytes are the prefix and the cycle,
  plan-bytes : take (p + q) (take p plan₁ ++ part) ≡ take p plan₁ ++ take q part
  plan-bytes =
      let size = length-take-le p plan₁ long in
      subst (λ (x : ℕ). take (x + q) (take p plan₁ ++ part) ≡ take p plan₁ ++ take q part) size (take-append-add (take p plan₁) part q)

  -- a lasso,
  plan-lasso : AcceptedLasso g b c
  plan-lasso = reached-lasso g b c s e prefix.arcs.reached cycle.arcs.cycle

  plan-same : lasso_plan plan-lasso ≡ plan_of p (take (p + q) (take p plan₁ ++ part))
  unfolding reached-lasso plan-lasso
  plan-same =
      let size = length-take-le p plan₁ long in
      let one = prefix.arcs in
      let two = cycle.arcs in
      rw (plan-bytes, take_at (take p plan₁) (take q part) p size, drop_at (take p plan₁) (take q part) p size)
      (ap {B = Plan} (λ x. record { prefix = x; cycle = two.cycle.arcs }) one.same
      ∙ ap {B = Plan} (λ x. record { prefix = take p plan₁; cycle = x }) two.same)

  -- and later bytes are not touched
  plan-later : drop (p + q) (take p plan₁ ++ part) ≡ drop (p + q) plan
  plan-later =
      let size = length-take-le p plan₁ long in
      subst (λ (x : ℕ). drop (x + q) (take p plan₁ ++ part) ≡ drop q part) size (drop-append-add (take p plan₁) part q)
      ∙ cycle.later ∙ ap {B = List ℕ} (drop q) prefix.later ∙ drop-drop q p plan

-- the prefix, and behind it the cycle, that are written into the plan buffer are a plan
pub plan-found : {g : Net} {b c s e p q : ℕ} {plan plan₁ part : List ℕ} → g.duties ≤ colours_most → g.modes * (b + 1) ≤ product_most
    → plan_buffer g.duties g.modes b ≤ length plan → PrefixWritten g b c s e plan plan₁ p → length plan₁ ≡ length plan
    → CycleWritten g b s e (take (length plan₁ - p) (drop p plan₁)) part q → length part ≡ length (take (length plan₁ - p) (drop p plan₁))
    → LassoFound g b c p q plan (take p plan₁ ++ (part ++ drop (length plan₁ - p) (drop p plan₁)))
plan-found {g} {b} {c} {s} {e} {p} {q} {plan} {plan₁} {part} fit product buffer prefix size cycle kept =
    let k = g.duties in
    let n = g.modes in
    let held = plan-held k n b p q prefix.few cycle.few in
    let long : p ≤ length plan₁ = omega (arith, held) in
    let rest = rest_part p plan₁ in
    let behind = subst (λ (x : List ℕ). CycleWritten g b s e x part q) rest cycle in
    let past : drop (length plan₁ - p) (drop p plan₁) ≡ [] =
    drop_of_length-le (drop p plan₁) {i = length plan₁ - p} (omega (arith, length-drop p plan₁))
    in
    rw (past, append-nil part) (record {
      within = omega (arith, held, length-append (take p plan₁) part, length-take-le p plan₁ long, length-drop p plan₁, rw rest at kept);
      short = omega (arith, held, buffer-short k n b fit product);
      prefix_short = prefix-few n b p prefix.few;
      cycle_short = cycle-few k n b q cycle.few;
      lasso = plan-lasso prefix behind long;
      same = plan-same prefix behind long;
      later = plan-later prefix behind long;
    })

-- where a lasso is answered there is one
pub written-lasso : {g : Net} {b c : ℕ} {plan plan' : List ℕ} {r : Searched} → Written g b c plan plan' r → (r ≡ no_plan → ⊥)
    → (r ≡ no_plan) ↔ (AcceptedLasso g b c → ⊥)
written-lasso (none e) not = absurd (not refl)
written-lasso (found f) not = (λ e. absurd (not e), λ no. absurd (no f.lasso))

-- what is answered where a lasso is handed back
pub lasso-answered : {g : Net} {b c p q : ℕ} {plan plan' : List ℕ} → LassoFound g b c p q plan plan'
    → ((planned p q ≡ no_plan) ↔ (AcceptedLasso g b c → ⊥)) × Written g b c plan plan' (planned p q)
lasso-answered f = (written-lasso (found f) (λ e. clash (cc)), found f)

-- in the words of the model, where the net stands for it
pub written-answered : (g : Automaton) (x : ℕ) (on : List ℕ) {b c : ℕ} {plan plan' : List ℕ} {r : Searched} → g.colours ≤ colours_most
    → Written (whole g x on) b c plan plan' r → Answered g x on b c plan plan' r
written-answered g x on {b} {c} few (none e) = search.none e
written-answered g x on {b} {c} few (found f) =
    search.found (record {
      serves = rw f.same at (lasso-serves g x on b c few f.lasso);
      within = f.within;
      short = f.short;
      prefix_short = f.prefix_short;
      cycle_short = omega (arith, f.cycle_short, required-room x g.colours 1 g.modes (b + 1));
      later = f.later;
    })

-- an answer without the refusal 10 has a plan
pub answered-plan : {g : Automaton} {x : ℕ} {on : List ℕ} {b c : ℕ} {plan plan' : List ℕ} {r : Searched} → Answered g x on b c plan plan' r → (r ≡ no_plan → ⊥)
    → (p : ℕ) × (q : ℕ) × (r ≡ planned p q) × Found g x on b c p q plan plan'
answered-plan (search.none e) not = absurd (not refl)
answered-plan (search.found {p} {q} f) not = (p, q, refl, f)
