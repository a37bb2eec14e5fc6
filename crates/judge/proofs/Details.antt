-- When refusals 15, 16 and 24 are answered: 15 with the first step that is not possible, counted over run-in, first and second round in one list;
-- 16 where both rounds end lower; 24 with the position in the plan. And that earlier rows come first: 13 after 12, 24 after 15 and 16, and 17
-- after 24. Assumes nothing.
use Rattle.std.specs.Prelude.{Option, Some, None, Result, Ok, Err}
use mathlib.Core.Path.{◌≡◌, refl, ◌∙◌}
use mathlib.Core.Bool.{Bool, true, not, ◌&&◌, ◌||◌}
use mathlib.Core.List.{List, [], ◌∷◌, ◌++◌}
use mathlib.Core.Logic.{◌↔◌}
use Prim.Native.Nat.{ℕ, zero, suc, ◌+◌, ◌<◌}
use native.Mathlib.Nat.{add-zero, zero-add, add-suc, suc-add}
use native.Mathlib.Omega.{arith}
use native.Mathlib.Decide.{dec_le}
use borrow.Author.Tests.{lt-ltb, le-ltb}
use lib.Dec.{leb, ltb}
use lib.ListN.{length, get_or, take, drop}
use lib.Seq.{split_at, length-take-le}
use Rattle.walks.specs.declared.Step.{Step}
use Rattle.walks.specs.BoundedStep.{stepped}
use Rattle.walks.specs.Walk.{Ends, walked}
use Rattle.refusals.specs.declared.Refusal.{Refusal}
use Rattle.refusals.specs.declared.Refusal.TheVariants.{ArcNumber, OtherMode, ImpossibleStep, FallingCycle, MissingColour, BarredColour}
use Rattle.refusals.specs.Refusals.{Verdict, refuse}
use Rattle.refusals.proofs.Verdicts.{clash, refuse-not, and-then-first, and-then-second}
use Rattle.refusals.proofs.Scan.{FirstOf}
use Rattle.model.specs.Automaton.{Automaton, arc_at, bit, meets, move_of, has_barred}
use Rattle.model.specs.Lists.{Lists, automaton_of}
use Rattle.model.specs.Fitness.{fitness, levels_of}
use Rattle.model.specs.Plans.{Plan, Meets, walked_arcs}
use Rattle.judge.specs.Shape.{plan_of, shape, numbers, chain, numbers_then_chain}
use Rattle.judge.specs.Charges.{ran_on, ran, after_ran, second_round, rounds, charges}
use Rattle.judge.specs.Colours.{some_arc, missing_from, barred_from, colours_of, accepted_of}
use Rattle.judge.specs.Judged.{serves_of, judged_plan, judged_levels, judged}
use Rattle.judge.proofs.Firsts.{colour-first, barred-first}
use Rattle.judge.proofs.Colours.{barred-yes}
use Rattle.judge.proofs.Runs.{after-ran, ran-refused, ran-walked}

-- what follows a list that is walked through, as a walk
abbrev then_ran : Result ℕ Refusal → (ℕ → Result ℕ Refusal) → Result ℕ Refusal
then_ran (Ok e) f = f e
then_ran (Err r) f = Err r

-- 15 of a list and of what follows it
joined : (r : Result ℕ Refusal) (f : ℕ → Verdict) (h : ℕ → Result ℕ Refusal) (i : ℕ) → ((x : ℕ) → (f x ≡ Err (ImpossibleStep i)) ↔ (h x ≡ Err (ImpossibleStep i)))
    → (after_ran r f ≡ Err (ImpossibleStep i)) ↔ (then_ran r h ≡ Err (ImpossibleStep i))
joined (Ok x) f h i q = q x
joined (Err k) f h i q = (λ e. cc, λ e. cc)

-- 15 of the last list, after which only 16 is answered
last : (r : Result ℕ Refusal) (t : ℕ → Bool) (i : ℕ) → (after_ran r (λ y. refuse (t y) FallingCycle (Ok tt)) ≡ Err (ImpossibleStep i)) ↔ (r ≡ Err (ImpossibleStep i))
last (Ok x) t i =
    (λ e. absurd (refuse-not (t x) FallingCycle (ImpossibleStep i) (Ok tt) (λ q. clash (cc)) (λ q. clash (cc)) e), λ e. clash (cc))
last (Err k) t i = (λ e. cc, λ e. cc)

-- a refusal of the colours, 24 or 17
pub data OfColours : Refusal → Type 0 where
  barred : {d : ℕ} → OfColours (BarredColour d)
  missing : {d : ℕ} → OfColours (MissingColour d)

-- it is neither 15 nor 16
not_step : {r : Refusal} → OfColours r → (i : ℕ) → ◌≡◌ {A = Verdict} (Err (ImpossibleStep i)) (Err r) → ⊥
not_step barred i e = clash (cc)
not_step missing i e = clash (cc)

not-fall : {r : Refusal} → OfColours r → ◌≡◌ {A = Verdict} (Err FallingCycle) (Err r) → ⊥
not-fall barred e = clash (cc)
not-fall missing e = clash (cc)

yes-not : {r : Refusal} → ◌≡◌ {A = Verdict} (Ok tt) (Err r) → ⊥
yes-not e = clash (cc)

-- its test: both rounds end lower than they began
both-lower : (e x y : ℕ) → (◌≡◌ {A = Verdict} (refuse (ltb x e && ltb y x) FallingCycle (Ok tt)) (Err FallingCycle)) ↔ ((x < e) × (y < x))
both-lower e x y = (
  λ q.
      elim (dec_le e x) [
        | yes h ↦ clash (cc (rw (le-ltb x e h) at q))
        | no h ↦ elim (dec_le x y) [ yes i ↦ clash (cc (rw (lt-ltb x e (omega arith), le-ltb y x i) at q)) | no i ↦ (omega arith, omega arith) ]
      ],
  λ (h, i). rw (lt-ltb x e h, lt-ltb y x i) refl,
)

module _ (g : Automaton) (b : ℕ) where
  -- it is not answered where what follows the list does not answer it
  after-not : (w : List ℕ) (i e : ℕ) (f : ℕ → Verdict) {r : Refusal} → OfColours r → ((x : ℕ) → f x ≡ Err r → ⊥)
      → after_ran (ran g b w i e) f ≡ Err r → ⊥
  after-not w i e f {r} k q h =
      let (x, _, z) =
      (after-ran (ran g b w i e) f (Err r) λ v s t. let (d, n) = ran-refused g b w i e v s in not_step k d (rw n at t)).0 h
      in
      q x z

  -- 16 is answered by what follows a list that is walked through
  after-falls : (w : List ℕ) (i e : ℕ) (f : ℕ → Verdict)
      → (after_ran (ran g b w i e) f ≡ Err FallingCycle) ↔ ((x : ℕ) × (ran g b w i e ≡ Ok x) × (f x ≡ Err FallingCycle))
  after-falls w i e f =
      after-ran (ran g b w i e) f (Err FallingCycle) λ v s t. let (d, n) = ran-refused g b w i e v s in clash (cc)

  -- a list of two parts is walked one part after the other
  ran_append : (u v : List ℕ) (i e : ℕ) → ran g b (u ++ v) i e ≡ then_ran (ran g b u i e) (λ x. ran g b v (i + length u) x)
  unfolding ran
  ran_append [] v i e = rw (add-zero i) refl
  ran_append (a ∷ u) v i e = go (stepped b (move_of (arc_at g a)) e) (ran_append u v (suc i))
    where
      go : (s : Option Step) → ((y : ℕ) → ran g b (u ++ v) (suc i) y ≡ then_ran (ran g b u (suc i) y) (λ x. ran g b v (suc i + length u) x))
          → ran_on s i (ran g b (u ++ v) (suc i)) ≡ then_ran (ran_on s i (ran g b u (suc i))) (λ x. ran g b v (i + suc (length u)) x)
      go (Some z) ih = ih z.charge ∙ rw (add-suc i (length u), suc-add i (length u)) refl
      go None ih = refl

  -- 15 applies with detail i exactly where, of run-in, first and second round in one list, step i is the first that is not possible
  pub impossible-step : (c : ℕ) (p : Plan) (i : ℕ)
      → (charges g b c p ≡ Err (ImpossibleStep i)) ↔ (ran g b (p.prefix ++ (p.cycle ++ p.cycle)) 0 c ≡ Err (ImpossibleStep i))
  unfolding charges rounds second_round
  impossible-step c p i =
      let w = p.cycle in
      let n = length p.prefix in
      rw (ran_append p.prefix (w ++ w) 0 c)
      (joined (ran g b p.prefix 0 c) _ _ i λ e.
      rw (zero-add n, ran_append w w n e)
      (joined (ran g b w n e) _ _ i λ x. last (ran g b w (n + length w) x) (λ y. ltb x e && ltb y x) i))

  -- the walk of the first i arcs ends at some charge, from which the next step is not possible
  abbrev pub StopsAt : List ℕ → ℕ → ℕ → Type 0
  StopsAt w c i = (i < length w) × ((x : ℕ) × (walked_arcs g b (take i w) c ≡ Ends x) × (stepped b (move_of (arc_at g (get_or w i 0))) x ≡ None))

  -- the step where a walk stops, counted from k on
  stops_at : (w : List ℕ) (k c d : ℕ) → ran g b w k c ≡ Err (ImpossibleStep d) → (i : ℕ) × (k + i ≡ d) × StopsAt w c i
  unfolding ran walked
  stops_at [] k c d q = clash (cc)
  stops_at (a ∷ w) k c d q = go (stepped b (move_of (arc_at g a)) c) refl (λ y. stops_at w (suc k) y d) q
    where
      go : (s : Option Step) → stepped b (move_of (arc_at g a)) c ≡ s → ((y : ℕ) → ran g b w (suc k) y ≡ Err (ImpossibleStep d) → (i : ℕ) × (suc k + i ≡ d) × StopsAt w y i)
          → ran_on s k (ran g b w (suc k)) ≡ Err (ImpossibleStep d) → (i : ℕ) × (k + i ≡ d) × StopsAt (a ∷ w) c i
      go (Some z) e ih q = let (i, n, (h, (x, u, v))) = ih z.charge q in (suc i, omega arith, (omega arith, (x, rw e u, v)))
      go None e ih q = let z : k ≡ d = cc in (0, omega arith, (omega arith, (c, refl, e)))

  -- a walk stops at step i exactly where the walk of the i arcs before it ends at some charge, from which step i is not possible
  pub ran-stops : (w : List ℕ) (c i : ℕ) → (ran g b w 0 c ≡ Err (ImpossibleStep i)) ↔ StopsAt w c i
  unfolding ran
  ran-stops w c i = (
    λ q. let (j, n, s) = stops_at w 0 c i q in let e : j ≡ i = omega arith in rw (← e) s,
    λ (h, (x, u, v)).
        rw (split_at w i 0 h, ran_append (take i w) _ 0 c, (ran-walked g b (take i w) 0 c x).1 u, v, length-take-le i w (omega arith), zero-add i) refl,
  )

  -- 16 applies exactly where prefix and two rounds are walked through, and both rounds end lower than they began
  pub falling-cycle : (c : ℕ) (p : Plan) → (charges g b c p ≡ Err FallingCycle)
      ↔ (
      (e : ℕ) × (x : ℕ) × (y : ℕ) × (walked_arcs g b p.prefix c ≡ Ends e) × (walked_arcs g b p.cycle e ≡ Ends x)
      × (walked_arcs g b p.cycle x ≡ Ends y) × (x < e) × (y < x)
      )
  unfolding charges rounds second_round
  falling-cycle c p =
      let u = p.prefix in
      let w = p.cycle in
      let n = length u in (
        λ q.
            let (e, r, q₁) = (after-falls u 0 c _).0 q in
            let (x, r₁, q₂) = (after-falls w n e _).0 q₁ in
            let (y, r₂, q₃) = (after-falls w (n + length w) x _).0 q₂ in
            let (h, i) = (both-lower e x y).0 q₃ in
            (e, x, y, (ran-walked g b u 0 c e).0 r, (ran-walked g b w n e x).0 r₁, (ran-walked g b w (n + length w) x y).0 r₂, h, i),
        λ (e, x, y, r, r₁, r₂, h, i).
            rw ((ran-walked g b u 0 c e).1 r, (ran-walked g b w n e x).1 r₁, (ran-walked g b w (n + length w) x y).1 r₂) ((both-lower e x y).1 (h, i)),
      )

  -- 15 and 16 come before 24 and 17: where one of them applies, it is the verdict
  pub serves-order : (x c : ℕ) (p : Plan) (r : Refusal) → charges g b c p ≡ Err r → serves_of g x b c p ≡ Err r
  unfolding serves_of
  serves-order x c p r e = rw e refl

  -- 15 and 16 do not answer 24 or 17
  charges-not : (c : ℕ) (p : Plan) {r : Refusal} → OfColours r → charges g b c p ≡ Err r → ⊥
  unfolding charges rounds second_round
  charges-not c p {r} k =
      let w = p.cycle in
      let n = length p.prefix in
      after-not p.prefix 0 c _ k λ e.
      after-not w n e _ k λ x.
      after-not w (n + length w) x _ k λ y.
      refuse-not (ltb x e && ltb y x) FallingCycle r (Ok tt) (not-fall k) yes-not

  -- 24 and 17 are answered only where neither 15 nor 16 applies
  pub serves-colour : (x c : ℕ) (p : Plan) {r : Refusal} → OfColours r → serves_of g x b c p ≡ Err r → charges g b c p ≡ Ok tt
  unfolding serves_of
  serves-colour x c p {r} k = and-then-second (charges g b c p) (accepted_of g x p) r (charges-not c p k)

-- 24 comes before 17 ..
pub accepted-order : (g : Automaton) (x : ℕ) (p : Plan) (r : Refusal) → barred_from g x p.cycle (length p.prefix) ≡ Err r → accepted_of g x p ≡ Err r
unfolding accepted_of
accepted-order g x p r e = rw e refl

-- 24 does not answer 17
barred-not : (g : Automaton) (x : ℕ) (w : List ℕ) (i d : ℕ) → barred_from g x w i ≡ Err (MissingColour d) → ⊥
unfolding barred_from
barred-not g x [] i d = λ e. clash (cc)
barred-not g x (a ∷ w) i d = refuse-not (has_barred g x a) (BarredColour i) (MissingColour d) _ (λ q. clash (cc)) (barred-not g x w (suc i) d)

-- .. which is answered only where 24 does not apply
pub accepted-colour : (g : Automaton) (x : ℕ) (p : Plan) (d : ℕ) → accepted_of g x p ≡ Err (MissingColour d)
    → barred_from g x p.cycle (length p.prefix) ≡ Ok tt
unfolding accepted_of
accepted-colour g x p d =
    and-then-second (barred_from g x p.cycle (length p.prefix)) (colours_of g x p.cycle) (MissingColour d)
    (barred-not g x p.cycle (length p.prefix) d)

-- 17 does not answer 24
missing-not : (has : ℕ → Bool) (f j e : ℕ) → missing_from has f j ≡ Err (BarredColour e) → ⊥
unfolding missing_from
missing-not has zero j e = λ q. clash (cc)
missing-not has (suc f) j e = refuse-not (not (has j)) (MissingColour j) (BarredColour e) _ (λ q. clash (cc)) (missing-not has f (suc j) e)

-- "A barred colour in the round is 24, .. with the plan position of the round's first arc that has one": the length of the run-in and that arc's
-- place in the round
pub accepted-barred : (g : Automaton) (x : ℕ) (p : Plan) (e : ℕ) → (accepted_of g x p ≡ Err (BarredColour e))
    ↔ ((d : ℕ) × (e ≡ length p.prefix + d) × FirstOf (λ j. has_barred g x (get_or p.cycle j 0)) (length p.cycle) d)
unfolding accepted_of colours_of
accepted-barred g x p e =
    let row = barred-first g x p.cycle (length p.prefix) e in
    (λ q. row.0 (and-then-first _ _ (BarredColour e) (missing-not _ g.colours 0 e) q), λ h. accepted-order g x p (BarredColour e) (row.1 h))

-- Of the call, with its byte x, where none of 1 to 6 and 11 to 16 applies: 24 and then 17 answer, as the request has them; this pins the byte that
-- is judged with.
module _ (n s k : ℕ) (l : Lists) (x b c p q : ℕ) (w : List ℕ) (fit : fitness n s k l ≡ Ok tt) (levels : levels_of b c ≡ Ok tt)
    (shaped : shape (automaton_of n s k l) p q w ≡ Ok tt) (charged : charges (automaton_of n s k l) b c (plan_of p w) ≡ Ok tt) where
  abbrev model : Automaton
  model = automaton_of n s k l

  judged-rest : judged n s k l x b c p q w ≡ accepted_of model x (plan_of p w)
  unfolding judged judged_levels judged_plan serves_of
  judged-rest = rw (fit, levels, shaped, charged) refl

  -- 24, "with the plan position of the round's first arc that has one"
  pub judged-barred : (e : ℕ) → (judged n s k l x b c p q w ≡ Err (BarredColour e))
      ↔ ((d : ℕ) × (e ≡ length (take p w) + d) × FirstOf (λ j. has_barred model x (get_or (drop p w) j 0)) (length (drop p w)) d)
  judged-barred e = rw judged-rest (accepted-barred model x (plan_of p w) e)

  -- 17, after 24: the lowest-numbered colour that is not barred and is missing from the round
  pub judged-missing : ((j : ℕ) → j < k → bit x j ≡ true → Meets model j (drop p w) → ⊥) → (d : ℕ)
      → (judged n s k l x b c p q w ≡ Err (MissingColour d)) ↔ FirstOf (λ j. not (bit x j || some_arc (meets model j) (drop p w))) k d
  unfolding accepted_of
  judged-missing clean d =
      rw (judged-rest, (barred-yes model x (drop p w) (length (take p w))).1 clean) (colour-first model x (drop p w) d)

-- 12 does not answer 13
numbers-not : (m : ℕ) (w : List ℕ) (i d : ℕ) → numbers m w i ≡ Err (OtherMode d) → ⊥
unfolding numbers
numbers-not m [] i d = λ e. clash (cc)
numbers-not m (a ∷ w) i d = refuse-not (leb m a) (ArcNumber i) (OtherMode d) _ (λ q. clash (cc)) (numbers-not m w (suc i) d)

-- 13 is answered only where 12 applies nowhere
pub path-order : (g : Automaton) (s : ℕ) (w : List ℕ) (d : ℕ) → numbers_then_chain g s w 0 ≡ Err (OtherMode d) → numbers (length g.arcs) w 0 ≡ Ok tt
path-order g s w d =
    and-then-second (numbers (length g.arcs) w 0) (chain g s w 0) (OtherMode d) (numbers-not (length g.arcs) w 0 d)
