-- What the yes of judging says: the model is fit, the levels are right, the plan has its lengths, and is feasible and accepted. And what the
-- byte of barred colours does not change. Assumes nothing.
use Rattle.std.specs.Prelude.{Ok}
use mathlib.Core.Path.{◌≡◌, ap}
use mathlib.Core.List.{List}
use mathlib.Core.Logic.{◌↔◌}
use Prim.Native.Nat.{ℕ, ◌≤◌, ◌<◌}
use native.Mathlib.Omega.{arith}
use lib.ListN.{drop}
use Rattle.limits.specs.Ceilings.{bound_most}
use Rattle.refusals.specs.Refusals.{Verdict, and_then}
use Rattle.refusals.proofs.Verdicts.{and-then-yes}
use Rattle.refusals.proofs.Numbers.{yes-number}
use Rattle.model.specs.Automaton.{Automaton, bit, meets}
use Rattle.model.specs.Lists.{Lists, automaton_of}
use Rattle.model.specs.Fitness.{fitness, levels_of}
use Rattle.model.specs.Plans.{Plan, Feasible, Accepted, Serves}
use Rattle.model.proofs.Fitness.{fitness-yes, levels-yes}
use Rattle.judge.specs.Shape.{plan_of, shape, Lengths}
use Rattle.judge.specs.Charges.{charges}
use Rattle.judge.specs.Colours.{some_arc, missing_from, accepted_of}
use Rattle.judge.specs.Judged.{serves_of, judged_plan, judged_levels, judged, judged_answer, Right}
use Rattle.judge.proofs.Shapes.{shape-yes}
use Rattle.judge.proofs.Runs.{charges-yes}
use Rattle.judge.proofs.Colours.{accepted-yes, accepted-unbarred, accepted-same}

module _ (g : Automaton) (x b c : ℕ) where
  -- 15, 16, 24 and 17 do not apply exactly where the plan is feasible and accepted
  pub serves-yes : (p : Plan) → c ≤ b → (serves_of g x b c p ≡ Ok tt) ↔ (Feasible g b c p × Accepted g x p)
  unfolding serves_of
  serves-yes p h =
      let both = and-then-yes (charges g b c p) (accepted_of g x p) in (
        λ e. ((charges-yes g b c p h).0 (both.0 e).0, (accepted-yes g x p).0 (both.0 e).1),
        λ (f, a). both.1 ((charges-yes g b c p h).1 f, (accepted-yes g x p).1 a),
      )

  -- 11 to 16, 24 and 17 do not apply exactly where the lengths are right and the bytes are a plan that serves
  pub plan-yes : (p q : ℕ) (w : List ℕ) → c ≤ b → (judged_plan g x b c p q w ≡ Ok tt) ↔ (Lengths p q w × Serves g x b c (plan_of p w))
  unfolding judged_plan
  plan-yes p q w h =
      let both = and-then-yes (shape g p q w) (serves_of g x b c (plan_of p w)) in
      let serves = serves-yes (plan_of p w) h in (
        λ e.
            let (l, k) = (shape-yes g p q w).0 (both.0 e).0 in
            let (f, a) = serves.0 (both.0 e).1 in
            (l, record { plan = k; feasible = f; accepted = a }),
        λ (l, s). both.1 ((shape-yes g p q w).1 (l, s.plan), serves.1 (s.feasible, s.accepted)),
      )

-- where 6 does not apply neither level is above the ceiling
pub levels-bound : (b c : ℕ) → levels_of b c ≡ Ok tt → b ≤ bound_most
levels-bound b c e = ((levels-yes b c).0 e).0

pub levels-credit : (b c : ℕ) → levels_of b c ≡ Ok tt → c ≤ bound_most
levels-credit b c e = let h = (levels-yes b c).0 e in omega (arith, h.0, h.1)

pub ruleset levels = (levels-bound, levels-credit)

-- judging says yes exactly for what is right
pub judged-yes : (n s k : ℕ) (l : Lists) (x b c p q : ℕ) (w : List ℕ) → (judged n s k l x b c p q w ≡ Ok tt) ↔ Right n s k l x b c p q w
unfolding judged judged_levels
judged-yes n s k l x b c p q w =
    let g = automaton_of n s k l in
    let outer = and-then-yes (fitness n s k l) (judged_levels g x b c p q w) in
    let inner = and-then-yes (levels_of b c) (judged_plan g x b c p q w) in (
      λ e.
          let (equal, fit) = (fitness-yes n s k l).0 (outer.0 e).0 in
          let (bound, credit) = (levels-yes b c).0 (inner.0 (outer.0 e).1).0 in
          let (lengths, serves) = (plan-yes g x b c p q w credit).0 (inner.0 (outer.0 e).1).1 in
          record { equal = equal; fit = fit; bound = bound; credit = credit; lengths = lengths; serves = serves },
      λ r.
          outer.1 (
            (fitness-yes n s k l).1 (r.equal, r.fit),
            inner.1 ((levels-yes b c).1 (r.bound, r.credit), (plan-yes g x b c p q w r.credit).1 (r.lengths, r.serves)),
          ),
    )

-- demand 2 in the paper's number: judging answers 0 exactly for what is right
pub judged-zero : (n s k : ℕ) (l : Lists) (x b c p q : ℕ) (w : List ℕ)
    → ((judged_answer n s k l x b c p q w).number ≡ 0) ↔ Right n s k l x b c p q w
judged-zero n s k l x b c p q w =
    let zero = yes-number (judged n s k l x b c p q w) in
    let right = judged-yes n s k l x b c p q w in
    (λ e. right.0 (zero.0 e), λ r. zero.1 (right.1 r))

-- judging by document 01 alone: 1 to 6, 11 to 16, and then 17 of the lowest-numbered colour that is missing from the round
abbrev pub judged_plain : ℕ → ℕ → ℕ → Lists → ℕ → ℕ → ℕ → ℕ → List ℕ → Verdict
judged_plain n s k l b c p q w =
    let g = automaton_of n s k l in
    and_then (fitness n s k l) (and_then (levels_of b c) (and_then (shape g p q w) (and_then (charges g b c (plan_of p w))
    (missing_from (λ j. some_arc (meets g j) (drop p w)) k 0))))

module _ (n s k : ℕ) (l : Lists) where
  -- with nothing barred every answer is the old one
  pub judged-unbarred : (b c p q : ℕ) (w : List ℕ) → judged n s k l 0 b c p q w ≡ judged_plain n s k l b c p q w
  unfolding judged judged_levels judged_plan serves_of
  judged-unbarred b c p q w =
      let g = automaton_of n s k l in
      ap {B = Verdict}
      (λ (v : Verdict). and_then (fitness n s k l) (and_then (levels_of b c) (and_then (shape g p q w) (and_then (charges g b c (plan_of p w)) v))))
      (accepted-unbarred g (plan_of p w))

  -- "A byte names these barred colours; its bits at or above k are ignored."
  pub judged-ignored : (x y : ℕ) → ((j : ℕ) → j < k → bit x j ≡ bit y j) → (b c p q : ℕ) (w : List ℕ)
      → judged n s k l x b c p q w ≡ judged n s k l y b c p q w
  unfolding judged judged_levels judged_plan serves_of
  judged-ignored x y same b c p q w =
      let g = automaton_of n s k l in
      ap {B = Verdict}
      (λ (v : Verdict). and_then (fitness n s k l) (and_then (levels_of b c) (and_then (shape g p q w) (and_then (charges g b c (plan_of p w)) v))))
      (accepted-same g x y same (plan_of p w))
