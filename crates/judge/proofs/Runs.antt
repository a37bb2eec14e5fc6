-- What the yes of refusals 15 and 16 says: the plan is feasible. The second round is walked in any case; where the first ended no lower than
-- it began, the second is possible too. Assumes nothing.
use Rattle.std.specs.Prelude.{Option, Some, None, Result, Ok, Err}
use Rattle.refusals.specs.Refusals.{Verdict}
use mathlib.Core.Path.{◌≡◌, refl}
use mathlib.Core.Bool.{false, ◌&&◌}
use mathlib.Core.List.{List, [], ◌∷◌}
use mathlib.Core.Logic.{◌↔◌, ◌⊎◌, inl, inr, ⊎_elim}
use Prim.Native.Nat.{ℕ, suc, ◌+◌, ◌≤◌}
use native.Mathlib.Omega.{arith}
use native.Mathlib.Decide.{dec_le}
use lib.Dec.{ltb}
use lib.ListN.{length}
use borrow.Author.Tests.{ltb-false, lt-ltb, le-ltb}
use Rattle.walks.specs.declared.Step.{Step}
use Rattle.walks.specs.BoundedStep.{stepped}
use Rattle.walks.specs.Walk.{Ends, after_step, walked, RoundsHold}
use Rattle.walks.proofs.Charges.{walked-mono}
use Rattle.refusals.specs.declared.Refusal.{Refusal}
use Rattle.refusals.specs.declared.Refusal.TheVariants.{ImpossibleStep, FallingCycle}
use Rattle.refusals.proofs.Verdicts.{clash, refuse-yes}
use Rattle.model.specs.Automaton.{Automaton, arc_at, moves_of, move_of}
use Rattle.model.specs.Plans.{Plan, walked_arcs, Feasible}
use Rattle.model.proofs.Plans.{feasible-rounds}
use Rattle.judge.specs.Charges.{ran_on, ran, after_ran, second_round, rounds, charges}

-- a verdict that is not the refusal of a list that stops is that of what follows a list that is walked through, from the charge at its end
pub after-ran : (r : Result ℕ Refusal) (f : ℕ → Verdict) (v : Verdict) → ((q : Refusal) → r ≡ Err q → ◌≡◌ {A = Verdict} (Err q) v → ⊥)
    → (after_ran r f ≡ v) ↔ ((x : ℕ) × (r ≡ Ok x) × (f x ≡ v))
after-ran (Ok e) f v not = (λ h. (e, refl, h), λ (x, q, h). let z : e ≡ x = cc in rw z h)
after-ran (Err r) f v not = (λ h. absurd (not r refl h), λ (x, q, h). clash (cc))

-- so is the yes
pub after-ran-yes : (r : Result ℕ Refusal) (f : ℕ → Verdict) → (after_ran r f ≡ Ok tt) ↔ ((x : ℕ) × (r ≡ Ok x) × (f x ≡ Ok tt))
after-ran-yes r f = after-ran r f (Ok tt) (λ q s e. clash (cc))

-- not both rounds end lower exactly where one of them does not
falls-no : (e x y : ℕ) → ((ltb x e && ltb y x) ≡ false) ↔ ((e ≤ x) ⊎ (x ≤ y))
falls-no e x y =
    elim (dec_le e x) [
      | yes h ↦ (λ q. inl h, λ q. rw (le-ltb x e h) refl)
      | no h ↦ rw (lt-ltb x e (omega arith)) (λ q. inr (ltb-false y x q), ⊎_elim (λ k. absurd (h k)) (le-ltb y x))
    ]

module _ (g : Automaton) (b : ℕ) where
  -- a list that stops is refused with 15
  pub ran-refused : (w : List ℕ) (i e : ℕ) (q : Refusal) → ran g b w i e ≡ Err q → (d : ℕ) × (q ≡ ImpossibleStep d)
  unfolding ran
  ran-refused [] i e q h = clash (cc)
  ran-refused (a ∷ w) i e q h = on (stepped b (move_of (arc_at g a)) e) (λ y. ran-refused w (suc i) y q) h
    where
      on : (s : Option Step) → ((y : ℕ) → ran g b w (suc i) y ≡ Err q → (d : ℕ) × (q ≡ ImpossibleStep d))
          → ran_on s i (ran g b w (suc i)) ≡ Err q → (d : ℕ) × (q ≡ ImpossibleStep d)
      on (Some u) ih h = ih u.charge h
      on None ih h = (i, cc)

  -- the arcs are walked through to x exactly where their walk ends at x
  pub ran-walked : (w : List ℕ) (i e x : ℕ) → (ran g b w i e ≡ Ok x) ↔ (walked_arcs g b w e ≡ Ends x)
  unfolding ran walked
  ran-walked [] i e x = (λ q. cc, λ q. cc)
  ran-walked (a ∷ w) i e x = on (stepped b (move_of (arc_at g a)) e) (λ y. ran-walked w (suc i) y x)
    where
      on : (s : Option Step) → ((y : ℕ) → (ran g b w (suc i) y ≡ Ok x) ↔ (walked_arcs g b w y ≡ Ends x))
          → (ran_on s i (ran g b w (suc i)) ≡ Ok x) ↔ (after_step s (walked_arcs g b w) ≡ Ends x)
      on (Some u) ih = ih u.charge
      on None ih = (λ q. clash (cc), λ q. clash (cc))

  -- two rounds say yes exactly where the first is possible and ends no lower than it began, or the second is also possible and does
  pub rounds-yes : (w : List ℕ) (i e : ℕ) → (rounds g b w i e ≡ Ok tt) ↔ RoundsHold b (moves_of g w) e
  unfolding rounds second_round
  rounds-yes w i e = (to, from)
    where
      to : rounds g b w i e ≡ Ok tt → RoundsHold b (moves_of g w) e
      to q =
          let (x, r, k) = (after-ran-yes (ran g b w i e) _).0 q in
          let (y, s, l) = (after-ran-yes (ran g b w (i + length w) x) _).0 k in (
            x,
            (ran-walked w i e x).0 r,
            ⊎_elim
                (λ h. inl h)
                (λ h. inr (y, (ran-walked w (i + length w) x y).0 s, h))
                ((falls-no e x y).0 ((refuse-yes (ltb x e && ltb y x) FallingCycle (Ok tt)).0 l).0),
          )

      from : RoundsHold b (moves_of g w) e → rounds g b w i e ≡ Ok tt
      from (x, r, k) =
          let (y, s, h) = ⊎_elim (λ h. walked-mono b (moves_of g w) e x x h r) (λ t. t) k in
          (after-ran-yes (ran g b w i e) _).1 (
            x,
            (ran-walked w i e x).1 r,
            (after-ran-yes (ran g b w (i + length w) x) _).1 (
              y,
              (ran-walked w (i + length w) x y).1 s,
              (refuse-yes (ltb x e && ltb y x) FallingCycle (Ok tt)).1 ((falls-no e x y).1 (inr h), refl),
            ),
          )

  -- a first round that ends no lower than it began is enough
  pub rounds-kept : (w : List ℕ) (i e x : ℕ) → ran g b w i e ≡ Ok x → e ≤ x → rounds g b w i e ≡ Ok tt
  rounds-kept w i e x q h = (rounds-yes w i e).1 (x, (ran-walked w i e x).0 q, inl h)

  pub second-kept : (w : List ℕ) (i e x : ℕ) → ran g b w i e ≡ Ok x → e ≤ x → second_round g b w (i + length w) e x ≡ Ok tt
  unfolding rounds
  second-kept w i e x q h = rw q at (rounds-kept w i e x q h)

  -- neither 15 nor 16 applies exactly where the plan is feasible
  pub charges-yes : (c : ℕ) (p : Plan) → c ≤ b → (charges g b c p ≡ Ok tt) ↔ Feasible g b c p
  unfolding charges
  charges-yes c p h =
      let row = after-ran-yes (ran g b p.prefix 0 c) (λ e. rounds g b p.cycle (length p.prefix) e) in
      let through = ran-walked p.prefix 0 c in
      let twice = rounds-yes p.cycle (length p.prefix) in (
        λ q. let (e, r, k) = row.0 q in (feasible-rounds g b c p h).1 (e, (through e).0 r, (twice e).0 k),
        λ f. let (e, r, k) = (feasible-rounds g b c p h).0 f in row.1 (e, (through e).1 r, (twice e).1 k),
      )

pub ruleset kept = (second-kept)
