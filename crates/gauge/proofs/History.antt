-- Histories of steps, each call with a model and a bound of its own. Document 02, Ask 2: "For any sequence of accepted steps from a start, ..
-- the gauge's total is that sum", of what each step lost; Ask 4: "c plus gains equals charge plus draws plus spill." Ask 3: accepted calls had the
-- gauge's n, m and b, and these are all that it is told apart by. Assumes nothing.
use Rattle.std.specs.Prelude.{Ok, Err}
use mathlib.Core.Path.{◌≡◌, refl, sym, ap, ◌∙◌, subst}
use mathlib.Core.Bool.{Bool, true, false}
use mathlib.Core.List.{List, [], ◌∷◌, ◌++◌, map}
use Prim.Native.Nat.{ℕ, ◌+◌}
use native.Mathlib.Omega.{arith}
use lib.ListN.{length}
use Rattle.walks.specs.BoundedStep.{to, stepped}
use Rattle.walks.specs.Moves.{draws, gains}
use Rattle.walks.specs.Spill.{spilled}
use Rattle.walks.proofs.Spill.{step-balance, spilled-cons}
use Rattle.refusals.specs.declared.Refusal.{Refusal}
use Rattle.refusals.specs.declared.Refusal.TheVariants.{MixedGauge}
use Rattle.refusals.specs.Refusals.{Verdict, refuse, and_then}
use Rattle.model.specs.Automaton.{arc_at, move_of, moves_of}
use Rattle.model.specs.Lists.{Lists, automaton_of}
use Rattle.model.specs.Fitness.{fitness, levels_of}
use Rattle.gauge.specs.declared.Gauge.{Gauge}
use Rattle.gauge.specs.Gauge.{Gauged, gauge_or, new_gauge, started_of, moved_of, Matches, mixed_up, moved_matched, moved_levelled, stepped_of, old_rule, after_gauged}
use Rattle.gauge.specs.History.{Call, call_model, called, called_all, gauge_on, gauge_after, calls_of, steps_of, call_move, lost_by}
use Rattle.gauge.proofs.Gauges.{mixed-no}
use Rattle.gauge.proofs.Matching.{matching-step, mixed-step, Kept, step_kept, yes-kept, kept_on, kept-matches, new-matches}
use Rattle.gauge.proofs.Follows.{Spills, not_yes, moved-yes, after-yes, after-refused}

-- a check that lets through what is accepted
stop-yes : (v : Verdict) (y : Gauged) (z : Gauge) → and_then v y ≡ Ok z → (v ≡ Ok tt) × (y ≡ Ok z)
stop-yes (Ok _) y z q = (refl, q)
stop-yes (Err r) y z q = not_yes r z q

-- a row that does
row-yes : (t : Bool) (r : Refusal) (y : Gauged) (z : Gauge) → refuse t r y ≡ Ok z → (t ≡ false) × (y ≡ Ok z)
row-yes true r y z q = not_yes r z q
row-yes false r y z q = (refl, q)

-- an accepted call: 22 does not apply, and the step on the arc is accepted
called-yes : (d : Call) (x y : Gauge) → called d x ≡ Ok y → Matches (call_model d) d.bound x × (moved_of (call_model d) d.bound d.arc x ≡ Ok y)
unfolding stepped_of moved_levelled moved_matched
called-yes d x y q =
    let g = call_model d in
    let (_, levelled) = stop-yes (fitness d.modes d.start d.colours d.lists) (moved_levelled g d.bound d.arc x) y q in
    let (_, matched) = stop-yes (levels_of d.bound x.charge) (moved_matched g d.bound d.arc x) y levelled in
    let (through, moved) = row-yes (mixed_up g.modes (length g.arcs) d.bound x) MixedGauge (moved_of g d.bound d.arc x) y matched in
    ((mixed-no g d.bound x).0 through, moved)

-- the gauge keeps n, m and b from its start
called-kept : (d : Call) (x y : Gauge) → called d x ≡ Ok y → Kept x y
called-kept d x y q = yes-kept x y (called d x) q (step_kept d.modes d.start d.colours d.lists d.bound d.arc x)

-- the step is possible, and the total grows by what it lost
called-spills : (d : Call) (x y : Gauge) → called d x ≡ Ok y
    → Spills (stepped d.bound (call_move d) x.charge) x.spill y.charge y.spill
called-spills d x y q =
    ((moved-yes (call_model d) d.bound d.arc x y.mode y.charge y.spill).0
    ((called-yes d x y q).1 ∙ ap {B = Gauged} (λ (z : Gauge). Ok z) (called-kept d x y q))).3

-- what a history lost: its first step, and the others
lost-cons : (d : Call) (h : List Call) (x u : Gauge) (e l : ℕ) → stepped d.bound (call_move d) x.charge ≡ to e l → called d x ≡ Ok u
    → lost_by (d ∷ h) x ≡ l + lost_by h u
unfolding lost_by
lost-cons d h x u e l to p = rw (to, p) (omega arith)

-- "up to the first refusal": a refused call ends the history, and leaves the gauge as found
pub calls-stop : (d : Call) (h : List Call) (x : Gauge) (r : Refusal) → called d x ≡ Err r
    → (called_all (d ∷ h) x ≡ called d x) × (gauge_after (d ∷ h) x ≡ x)
unfolding called_all gauge_after
calls-stop d h x r e = (after-refused (called d x) (called_all h) r e, rw e refl)

-- what a history is, which pins called_all, gauge_after and calls_of: on one arc it is the call of the step, refused or not ..
pub steps-one : (n s k : ℕ) (l : Lists) (b a : ℕ) (x : Gauge) → (steps_of n s k l b (a ∷ []) x ≡ stepped_of n s k l b a x)
    × (gauge_after (calls_of n s k l b (a ∷ [])) x ≡ gauge_or x (stepped_of n s k l b a x))
unfolding called_all gauge_after
steps-one n s k l b a x = go (stepped_of n s k l b a x)
  where
    go : (y : Gauged) → (after_gauged y (λ z. Ok z) ≡ y) × (gauge_on x y (λ z. z) ≡ gauge_or x y)
    go (Ok y) = (refl, refl)
    go (Err r) = (refl, refl)

-- .. and one after the other, the second goes on from the gauge of the first, where no call of the first is refused
pub calls-append : (h i : List Call) (x : Gauge) → (called_all (h ++ i) x ≡ after_gauged (called_all h x) (called_all i))
    × (gauge_after (h ++ i) x ≡ gauge_on (gauge_after h x) (called_all h x) (gauge_after i))
unfolding called_all gauge_after
calls-append [] i x = (refl, refl)
calls-append (d ∷ h) i x = go (called d x) (calls-append h i)
  where
    go : (y : Gauged) → ((u : Gauge) → (called_all (h ++ i) u ≡ after_gauged (called_all h u) (called_all i))
        × (gauge_after (h ++ i) u ≡ gauge_on (gauge_after h u) (called_all h u) (gauge_after i)))
        → (after_gauged y (called_all (h ++ i)) ≡ after_gauged (after_gauged y (called_all h)) (called_all i))
        × (gauge_on x y (gauge_after (h ++ i)) ≡ gauge_on (gauge_on x y (gauge_after h)) (after_gauged y (called_all h)) (gauge_after i))
    go (Ok y) more = more y
    go (Err r) more = (refl, refl)

-- where none is refused, the gauge that there is after them is the one that they hand back
pub calls-gauge : (h : List Call) (x y : Gauge) → called_all h x ≡ Ok y → gauge_after h x ≡ y
unfolding called_all gauge_after
calls-gauge [] x y q = cc
calls-gauge (d ∷ h) x y q = let (u, p, r) = (after-yes (called d x) (called_all h) y).0 q in rw p (calls-gauge h u y r)

-- what is lost and gained over a history of accepted steps, from any gauge
pub history-balance : (h : List Call) (x y : Gauge) → called_all h x ≡ Ok y
    → (x.charge + gains (map call_move h) ≡ y.charge + draws (map call_move h) + lost_by h x) × (y.spill ≡ x.spill + lost_by h x)
unfolding called_all lost_by
history-balance [] x y q =
    let same : x ≡ y = cc in
    let e : x.charge ≡ y.charge = ap {B = ℕ} (λ (z : Gauge). z.charge) same in
    let s : x.spill ≡ y.spill = ap {B = ℕ} (λ (z : Gauge). z.spill) same in
    (omega arith, omega arith)
history-balance (d ∷ h) x y q =
    let (u, p, r) = (after-yes (called d x) (called_all h) y).0 q in
    let (lost, to, sum, low) = called-spills d x u p in
    let (i, j) = history-balance h u y r in
    let all = lost-cons d h x u u.charge lost to p in
    (omega (arith, all, step-balance d.bound (call_move d) x.charge u.charge lost to), omega (arith, all))

-- a start that is accepted, and the calls after it
start-yes : (n s k : ℕ) (l : Lists) (b c : ℕ) (h : List Call) (y : Gauge) → after_gauged (started_of n s k l b c) (called_all h) ≡ Ok y
    → called_all h (new_gauge (automaton_of n s k l) b c) ≡ Ok y
unfolding started_of
start-yes n s k l b c h y q =
    let (u, p, r) = (after-yes (started_of n s k l b c) (called_all h) y).0 q in
    let new : Gauged = Ok (new_gauge (automaton_of n s k l) b c) in
    let levelled = (stop-yes (fitness n s k l) (and_then (levels_of b c) new) u p).1 in
    let started : new ≡ Ok u = (stop-yes (levels_of b c) new u levelled).1 in
    let same : new_gauge (automaton_of n s k l) b c ≡ u = cc in
    rw same r

-- from a start
pub start-balance : (n s k : ℕ) (l : Lists) (b c : ℕ) (h : List Call) (y : Gauge) → after_gauged (started_of n s k l b c) (called_all h) ≡ Ok y
    → let x = new_gauge (automaton_of n s k l) b c in (c + gains (map call_move h) ≡ y.charge + draws (map call_move h) + y.spill) × (y.spill ≡ lost_by h x)
start-balance n s k l b c h y q =
    let (i, j) = history-balance h (new_gauge (automaton_of n s k l) b c) y (start-yes n s k l b c h y q) in
    (omega arith, omega arith)

-- on the arcs of one model that is what its walk lost
pub lost-spilled : (n s k : ℕ) (l : Lists) (b : ℕ) (w : List ℕ) (x y : Gauge) → steps_of n s k l b w x ≡ Ok y
    → lost_by (calls_of n s k l b w) x ≡ spilled b (moves_of (automaton_of n s k l) w) x.charge
unfolding called_all lost_by spilled
lost-spilled n s k l b [] x y q = refl
lost-spilled n s k l b (a ∷ w) x y q =
    let g = automaton_of n s k l in
    let d : Call = record { modes = n; start = s; colours = k; lists = l; bound = b; arc = a } in
    let (u, p, r) = (after-yes (called d x) (steps_of n s k l b w) y).0 q in
    let (lost, to, _, _) = called-spills d x u p in
    lost-cons d (calls_of n s k l b w) x u u.charge lost to p
    ∙ ap {B = ℕ} (λ (i : ℕ). lost + i) (lost-spilled n s k l b w u y r)
    ∙ sym (spilled-cons b (move_of (arc_at g a)) (moves_of g w) x.charge u.charge lost to)

-- calls keep the gauge's n, m and b, accepted or refused
pub calls-kept : (h : List Call) (x : Gauge) → Kept x (gauge_after h x)
unfolding gauge_after
calls-kept [] x = refl
calls-kept (d ∷ h) x = go (called d x) (step_kept d.modes d.start d.colours d.lists d.bound d.arc x) (calls-kept h)
  where
    go : (y : Gauged) → Kept x (gauge_or x y) → ((u : Gauge) → Kept u (gauge_after h u)) → Kept x (gauge_on x y (gauge_after h))
    go (Ok u) kept more = kept_on x u (gauge_after h u) kept (more u)
    go (Err r) kept more = refl

-- every call d of an accepted history had them
pub calls-match : (h : List Call) (d : Call) (i : List Call) (x y : Gauge) → called_all (h ++ d ∷ i) x ≡ Ok y → Matches (call_model d) d.bound x
unfolding called_all
calls-match [] d i x y q = let (u, p, r) = (after-yes (called d x) (called_all i) y).0 q in (called-yes d x u p).0
calls-match (f ∷ h) d i x y q =
    let (u, p, r) = (after-yes (called f x) (called_all (h ++ d ∷ i)) y).0 q in
    (kept-matches x u (called-kept f x u p) (call_model d) d.bound).1 (calls-match h d i u y r)

-- A gauge y after a start and accepted calls.
module _ (n s k : ℕ) (l : Lists) (b c : ℕ) (h : List Call) (y : Gauge) (q : after_gauged (started_of n s k l b c) (called_all h) ≡ Ok y) where
  abbrev x : Gauge
  x = new_gauge (automaton_of n s k l) b c

  kept : Kept x y
  kept = subst (Kept x) (calls-gauge h x y (start-yes n s k l b c h y q)) (calls-kept h x)

  -- it has the start's n, m and b
  pub start-matches : Matches (automaton_of n s k l) b y
  start-matches = (kept-matches x y kept (automaton_of n s k l) b).0 (new-matches (automaton_of n s k l) b c)

  -- What 22 catches, and what it cannot: a call d that has another n, m or b is refused by 22, where none of 1 to 6 applies, and y stays ..
  module _ (d : Call) where
    pub told-apart : (Matches (call_model d) d.bound x → ⊥) → fitness d.modes d.start d.colours d.lists ≡ Ok tt
        → levels_of d.bound y.charge ≡ Ok tt → (called d y ≡ Err MixedGauge) × (gauge_or y (called d y) ≡ y)
    told-apart other =
        mixed-step d.modes d.start d.colours d.lists d.bound d.arc y
        λ m. other ((kept-matches x y kept (call_model d) d.bound).1 m)

    -- .. and one that has the same n, m and b goes by the old rule, whatever else its model has
    pub not-told-apart : Matches (call_model d) d.bound x
        → called d y ≡ old_rule d.modes d.start d.colours d.lists d.bound d.arc y
    not-told-apart m =
        matching-step d.modes d.start d.colours d.lists d.bound d.arc y
        ((kept-matches x y kept (call_model d) d.bound).0 m)
