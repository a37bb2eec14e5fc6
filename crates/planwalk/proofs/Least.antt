-- What "met" and "spent" say, of any list of arcs and of the call on all inputs. Assumes nothing.
use Rattle.std.specs.Prelude.{Result, Ok, Err}
use Rattle.refusals.specs.Refusals.{Verdict}
use mathlib.Core.Path.{◌≡◌, refl, sym, ap, ◌∙◌, subst}
use mathlib.Core.Bool.{Bool, true, false}
use mathlib.Core.List.{List, [], ◌∷◌, ◌++◌}
use mathlib.Core.Logic.{◌↔◌, ◌⊎◌, inl, inr, ⊎_elim}
use Prim.Native.Nat.{ℕ, zero, suc, ◌+◌, ◌-◌, ◌^◌, ◌≤◌, ◌<◌}
use native.Mathlib.Omega.{arith}
use native.Mathlib.Decide.{dec_le}
use lib.ListN.{length, get_or, take, drop, length-append, take-append-drop}
use lib.Seq.{length-take-le, take-append-add, get_or-take, get_or-append-add}
use Rattle.walks.specs.Walk.{times}
use Rattle.refusals.specs.declared.Refusal.{Refusal}
use Rattle.refusals.specs.declared.Refusal.TheVariants.{NoSuchColour}
use Rattle.refusals.proofs.Verdicts.{clash}
use Rattle.refusals.proofs.Scan.{FirstOf}
use Rattle.model.specs.Automaton.{Automaton, bit, meets}
use Rattle.model.specs.Lists.{Lists, automaton_of}
use Rattle.model.specs.Plans.{Plan, Meets, Serves}
use Rattle.model.proofs.Plans.{times-length}
use Rattle.model.proofs.SomeArc.{some_at, some_right, some-times}
use Rattle.judge.specs.Shape.{plan_of}
use Rattle.judge.specs.Judged.{judged}
use Rattle.judge.proofs.Judged.{judged-yes}
use Rattle.planwalk.specs.declared.Walked.{Walked}
use Rattle.planwalk.specs.declared.Walked.TheVariants.{Met, Spent}
use Rattle.planwalk.specs.Walked.{steps_of_plan, met_or, walk_of, first_met}
use Rattle.planwalk.proofs.Steps.{walk-least}
use Rattle.planwalk.proofs.Walking.{steps-whole}
use Rattle.planwalk.proofs.Refused.{walk_refused, walk-no-colour}

-- of n places one is the first that passes the test, or none passes
abbrev FirstOrNone : (ℕ → Bool) → ℕ → Type 0
FirstOrNone test n = ((d : ℕ) × FirstOf test n d) ⊎ ((j : ℕ) → j < n → test j ≡ false)

first_or_none : (test : ℕ → Bool) (n : ℕ) → FirstOrNone test n
first_or_none test zero = inr (λ j h. absurd (omega arith))
first_or_none test (suc n) = go (first_or_none test n) (test n) refl
  where
    go : FirstOrNone test n → (t : Bool) → test n ≡ t → FirstOrNone test (suc n)
    go (inl (d, f)) t e = inl (d, record { within = omega (arith, f.within); passes = f.passes; before = f.before })
    go (inr none) true e = inl (n, record { within = omega arith; passes = e; before = none })
    go (inr none) false e =
        inr (λ j h. elim (dec_le n j) [ yes q ↦ (let same : j ≡ n = omega arith in rw same e) | no q ↦ none j (omega arith) ])

-- two walks that are not refused are the same exactly where they end alike
same-ok : {x y : Walked} → x ≡ y → ◌≡◌ {A = Result Walked Refusal} (Ok x) (Ok y)
same-ok = ap {B = Result Walked Refusal} (λ (v : Walked). Ok v)

ok-same : {x y : Walked} → ◌≡◌ {A = Result Walked Refusal} (Ok x) (Ok y) → x ≡ y
ok-same e = cc

module _ (g : Automaton) (j : ℕ) where
  -- the first step that meets the colour is answered
  least-met : (w : List ℕ) (i a : ℕ) → FirstOf (λ d. meets g j (get_or w d 0)) (length w) a → first_met g j w i ≡ Met (suc (i + a))
  unfolding first_met
  least-met [] i a f = absurd (omega (arith, f.within))
  least-met (b ∷ w) i zero f = rw f.passes (ap Met (omega arith))
  least-met (b ∷ w) i (suc a) f =
      let rest : FirstOf (λ d. meets g j (get_or w d 0)) (length w) a = record { within = omega (arith, f.within); passes = f.passes; before = λ d q. f.before (suc d) (omega arith) } in
      rw (f.before 0 (omega arith)) (least-met w (suc i) a rest ∙ ap Met (omega arith))

  -- where none meets it, all steps are counted
  none-met : (w : List ℕ) (i : ℕ) → ((a : ℕ) → a < length w → meets g j (get_or w a 0) ≡ false) → first_met g j w i ≡ Spent (i + length w)
  unfolding first_met
  none-met [] i none = ap Spent (omega arith)
  none-met (b ∷ w) i none = rw (none 0 (omega arith)) (none-met w (suc i) (λ a q. none (suc a) (omega arith)) ∙ ap Spent (omega arith))

  module _ (w : List ℕ) (i : ℕ) where
    -- so "met" is answered, or "spent"
    first_ends : ((a : ℕ) × FirstOf (λ d. meets g j (get_or w d 0)) (length w) a × (first_met g j w i ≡ Met (suc (i + a))))
        ⊎ (((a : ℕ) → a < length w → meets g j (get_or w a 0) ≡ false) × (first_met g j w i ≡ Spent (i + length w)))
    first_ends =
        ⊎_elim (λ (a, f). inl (a, f, least-met w i a f)) (λ none. inr (none, none-met w i none)) (first_or_none (λ d. meets g j (get_or w d 0)) (length w))

    -- "met" is answered for the first step that meets the colour, counted from 1 on behind the i steps before the list
    pub first-met : (x : ℕ) → (first_met g j w i ≡ Met x) ↔ ((a : ℕ) × (x ≡ suc (i + a)) × FirstOf (λ d. meets g j (get_or w d 0)) (length w) a)
    first-met x = (λ q. ⊎_elim (λ (a, f, e). (a, cc, f)) (λ (none, e). clash (cc)) first_ends, λ (a, q, f). least-met w i a f ∙ ap Met (sym q))

    -- "spent" is answered where no step meets the colour, and all are counted
    pub first-spent : (x : ℕ) → (first_met g j w i ≡ Spent x) ↔ ((x ≡ i + length w) × ((a : ℕ) → a < length w → meets g j (get_or w a 0) ≡ false))
    first-spent x = (λ q. ⊎_elim (λ (a, f, e). clash (cc)) (λ (none, e). (cc, none)) first_ends, λ (q, none). none-met w i none ∙ ap Spent (sym q))

  -- where an arc of the list meets the colour, "met" is answered, whatever stands behind the list
  meets-met : (w v : List ℕ) (i : ℕ) → Meets g j w → (x : ℕ) × (first_met g j (w ++ v) i ≡ Met x)
  unfolding first_met
  meets-met [] v i none = absurd none
  meets-met (a ∷ w) v i m = go (meets g j a) m (meets-met w v (suc i))
    where
      go : (b : Bool) → (b ≡ true) ⊎ Meets g j w → (Meets g j w → (x : ℕ) × (first_met g j (w ++ v) (suc i) ≡ Met x))
          → (x : ℕ) × (met_or b (Met (suc i)) (first_met g j (w ++ v) (suc i)) ≡ Met x)
      go true m rest = (suc i, refl)
      go false (inl met) rest = clash (cc)
      go false (inr later) rest = rest later

-- the first t steps of a plan are t, where its cycle has an arc
pub steps-length : (p : Plan) (t : ℕ) → 0 < length p.cycle → length (steps_of_plan p t) ≡ t
steps-length p t h =
    length-take-le t (p.prefix ++ times t p.cycle)
    (omega (arith, times-length p.cycle h t, length-append p.prefix (times t p.cycle)))

-- the bytes of a plan that serves meet every required colour: some arc of its cycle does
bytes-meet : (g : Automaton) (x b c p : ℕ) (w : List ℕ) → Serves g x b c (plan_of p w) → (j : ℕ) → j < g.colours → bit x j ≡ false → Meets g j w
bytes-meet g x b c p w serves j h free =
    subst (Meets g j) (take-append-drop p w) (some_right (meets g j) (take p w) (drop p w) (serves.accepted.required j h free))

-- at least as many steps of a plan as it has bytes begin with all of them
steps-begin : (p : ℕ) (w : List ℕ) → p < length w → (t : ℕ) → length w ≤ t → (v : List ℕ) × (steps_of_plan (plan_of p w) t ≡ w ++ v)
steps-begin p w cycle t h =
    let rest = times t (drop p w) in
    let sum : t ≡ length w + (t - length w) = omega arith in
    (take (t - length w) rest, steps-whole p w cycle t ∙ ap (λ (i : ℕ). take i (w ++ rest)) sum ∙ take-append-add w rest (t - length w))

-- a step behind the prefix is on an arc of the cycle
cycle-meets : (g : Automaton) (j p : ℕ) (w : List ℕ) → 0 < length (drop p w) → p ≤ length w → (t a : ℕ) → p ≤ a → a < t
    → meets g j (get_or (steps_of_plan (plan_of p w) t) a 0) ≡ true → Meets g j (drop p w)
cycle-meets g j p w some h t a far few met =
    let c = drop p w in
    let place : a ≡ length (take p w) + (a - p) = omega (arith, length-take-le p w h) in
    let there : get_or (steps_of_plan (plan_of p w) t) a 0 ≡ get_or (times t c) (a - p) 0 =
    get_or-take t (take p w ++ times t c) a 0 few ∙ ap {B = ℕ} (λ (i : ℕ). get_or (take p w ++ times t c) i 0) place
    ∙ get_or-append-add (take p w) (times t c) (a - p) 0
    in
    some-times (meets g j) t c
    ((some_at (meets g j) (times t c)).1 (a - p, omega (arith, times-length c some t), ap {B = Bool} (meets g j) (sym there) ∙ met))

module _ (n s k : ℕ) (l : Lists) (x b c p q : ℕ) (w : List ℕ) (j t : ℕ) where
  -- step a of the plan, counted from 0, meets colour j
  abbrev meets_at : ℕ → Bool
  meets_at a = meets (automaton_of n s k l) j (get_or (steps_of_plan (plan_of p w) t) a 0)

  -- judging refuses the plan, or the model has no such colour, or the plan is walked
  walk-cases : ((r : Refusal) × (judged n s k l x b c p q w ≡ Err r)) ⊎ (judged n s k l x b c p q w ≡ Ok tt) × ((k ≤ j) ⊎ (j < k))
  walk-cases = go (judged n s k l x b c p q w) refl
    where
      go : (v : Verdict) → judged n s k l x b c p q w ≡ v
          → ((r : Refusal) × (judged n s k l x b c p q w ≡ Err r)) ⊎ (judged n s k l x b c p q w ≡ Ok tt) × ((k ≤ j) ⊎ (j < k))
      go (Err r) e = inl (r, e)
      go (Ok _) e = inr (e, elim (dec_le k j) [ yes h ↦ inl h | no h ↦ inr (omega arith) ])

  -- a plan is walked only where judging accepts it and the model has the colour
  walked-only : ((r : Refusal) → walk_of n s k l x b c p q w j t ≡ Err r → ⊥) → (judged n s k l x b c p q w ≡ Ok tt) × (j < k)
  walked-only through =
      ⊎_elim
      (λ (r, e). absurd (through r (walk_refused n s k l x b c p q w j t r e)))
      (λ (e, colour). (e, ⊎_elim (λ h. absurd (through NoSuchColour (walk-no-colour n s k l x b c p q w j t e h))) (λ h. h) colour))
      walk-cases

  module _ (accepted : judged n s k l x b c p q w ≡ Ok tt) where
    -- the walk of a plan has as many steps as the allowance
    long : length (steps_of_plan (plan_of p w) t) ≡ t
    long = steps-length (plan_of p w) t ((judged-yes n s k l x b c p q w).0 accepted).serves.plan.has_arc

  -- "the allowance .. (a 16-bit number, 0 to 65,535)"
  module _ (few : t < 2 ^ 16) where
    -- The call is refused exactly by what judging refuses the plan by, or by 18 where judging accepts it. "The walk may still be given a barred
    -- colour": 18 is answered by k alone.
    pub walk-refused-by : (r : Refusal) → (walk_of n s k l x b c p q w j t ≡ Err r)
        ↔ ((judged n s k l x b c p q w ≡ Err r) ⊎ ((judged n s k l x b c p q w ≡ Ok tt) × (k ≤ j) × (r ≡ NoSuchColour)))
    walk-refused-by r = (
      λ z.
          ⊎_elim
          (λ (y, e). let same : y ≡ r = cc (walk_refused n s k l x b c p q w j t y e) in inl (e ∙ rw same refl))
          (λ (e, colour).
          ⊎_elim
          (λ h. inr (e, h, cc (walk-no-colour n s k l x b c p q w j t e h)))
          (λ h. clash (cc (walk-least n s k l x b c p q w e j t h few)))
          colour)
          walk-cases,
      ⊎_elim (walk_refused n s k l x b c p q w j t r) (λ (e, h, same). rw same (walk-no-colour n s k l x b c p q w j t e h)),
    )

    -- The call answers "met" with y exactly where judging accepts the plan, the model has colour j, and of the allowance's steps y, counted from
    -- 1 on, is the first that meets colour j.
    pub walk-met : (y : ℕ) → (walk_of n s k l x b c p q w j t ≡ Ok (Met y))
        ↔ ((judged n s k l x b c p q w ≡ Ok tt) × (j < k) × ((a : ℕ) × (y ≡ suc a) × FirstOf meets_at t a))
    walk-met y =
        let first = first-met (automaton_of n s k l) j (steps_of_plan (plan_of p w) t) 0 y in (
          λ e.
              let (accepted, h) = walked-only (λ r q. clash (cc)) in
              let (a, i, f) = first.0 (ok-same (sym (walk-least n s k l x b c p q w accepted j t h few) ∙ e)) in
              (accepted, h, (a, omega arith, subst (λ (u : ℕ). FirstOf meets_at u a) (long accepted) f)),
          λ (accepted, h, (a, i, f)).
              walk-least n s k l x b c p q w accepted j t h few
              ∙ same-ok (first.1 (a, omega arith, subst (λ (u : ℕ). FirstOf meets_at u a) (sym (long accepted)) f)),
        )

    -- "'Spent' is the answer only when exactly the allowance has been walked without meeting j."
    pub walk-spent : (y : ℕ) → (walk_of n s k l x b c p q w j t ≡ Ok (Spent y))
        ↔ ((judged n s k l x b c p q w ≡ Ok tt) × (j < k) × (y ≡ t) × ((a : ℕ) → a < t → meets_at a ≡ false))
    walk-spent y =
        let first = first-spent (automaton_of n s k l) j (steps_of_plan (plan_of p w) t) 0 y in (
          λ e.
              let (accepted, h) = walked-only (λ r q. clash (cc)) in
              let (i, none) = first.0 (ok-same (sym (walk-least n s k l x b c p q w accepted j t h few) ∙ e)) in
              (accepted, h, omega (arith, long accepted), λ a f. none a (omega (arith, long accepted))),
          λ (accepted, h, i, none).
              walk-least n s k l x b c p q w accepted j t h few ∙ same-ok (first.1 (omega (arith, long accepted), λ a f. none a (omega (arith, long accepted)))),
        )

    -- An allowance of p + q steps or more meets a required colour: an accepted plan has it on some arc of its cycle.
    pub walk_meets : judged n s k l x b c p q w ≡ Ok tt → j < k → bit x j ≡ false → p + q ≤ t → (y : ℕ) × (walk_of n s k l x b c p q w j t ≡ Ok (Met y))
    walk_meets accepted h free enough =
        let right = (judged-yes n s k l x b c p q w).0 accepted in
        let lengths = right.lengths in
        let g = automaton_of n s k l in
        let (v, e) = steps-begin p w (omega (arith, lengths.parts, lengths.has_arc)) t (omega (arith, lengths.parts)) in
        let (y, met) = meets-met g j w v 0 (bytes-meet g x b c p w right.serves j h free) in
        (y, walk-least n s k l x b c p q w accepted j t h few ∙ same-ok (ap (λ (u : List ℕ). first_met g j u 0) e ∙ met))

    -- A barred colour is met in the run-in, or not at all: no arc of the round has it.
    pub walk-barred : bit x j ≡ true → (y : ℕ) → walk_of n s k l x b c p q w j t ≡ Ok (Met y) → y ≤ p
    walk-barred barred y e =
        let (accepted, h, (a, i, f)) = (walk-met y).0 e in
        let right = (judged-yes n s k l x b c p q w).0 accepted in
        elim (dec_le p a) [
          | yes far ↦
              absurd (right.serves.accepted.barred j h barred
              (cycle-meets (automaton_of n s k l) j p w right.serves.plan.has_arc (omega (arith, right.lengths.parts)) t a far f.within f.passes))
          | no near ↦ omega arith
        ]
