-- The charge along a plan, refusals 15 and 16. Document 01, "Where each call stops", rows "charge".
use Rattle.std.specs.Prelude.{ℕ, suc, ◌+◌, ◌&&◌, List, [], ◌∷◌, ltb, length, Option, Some, None, Result, Ok, Err}
use Rattle.walks.specs.declared.Step.{Step}
use Rattle.walks.specs.BoundedStep.{stepped}
use Rattle.refusals.specs.declared.Refusal.{Refusal}
use Rattle.refusals.specs.declared.Refusal.TheVariants.{ImpossibleStep, FallingCycle}
use Rattle.refusals.specs.Refusals.{Verdict, refuse}
use Rattle.model.specs.Automaton.{Automaton, arc_at, move_of}
use Rattle.model.specs.Plans.{Plan}

-- 15: "a step is impossible in run-in, first or second round", with the "step counted from 0 over all three"; what follows step i goes on from the
-- charge that it leads to
abbrev pub ran_on : Option Step → ℕ → (ℕ → Result ℕ Refusal) → Result ℕ Refusal
ran_on (Some u) i f = f u.charge
ran_on None i f = Err (ImpossibleStep i)

-- the arcs walked one after the other from charge e: the charge at the end, or 15; the first step has the number i
unfoldable pub ran : Automaton → ℕ → List ℕ → ℕ → ℕ → Result ℕ Refusal
ran g b [] i e = Ok e
ran g b (a ∷ w) i e = ran_on (stepped b (move_of (arc_at g a)) e) i (ran g b w (suc i))

-- what follows arcs that are walked through goes on from the charge at their end
abbrev pub after_ran : Result ℕ Refusal → (ℕ → Verdict) → Verdict
after_ran (Ok e) f = f e
after_ran (Err r) f = Err r

-- 16: "first and second round each end lower than they began". The first began at e and ended at x, the second is walked from x; its
-- first step has the number i
unfoldable pub second_round : Automaton → ℕ → List ℕ → ℕ → ℕ → ℕ → Verdict
second_round g b w i e x = after_ran (ran g b w i x) λ y. refuse (ltb x e && ltb y x) FallingCycle (Ok tt)

-- two rounds of the cycle w from charge e
unfoldable pub rounds : Automaton → ℕ → List ℕ → ℕ → ℕ → Verdict
rounds g b w i e = after_ran (ran g b w i e) λ x. second_round g b w (i + length w) e x

-- 15 and 16 of a plan, from credit c
unfoldable pub charges : Automaton → ℕ → ℕ → Plan → Verdict
charges g b c p = after_ran (ran g b p.prefix 0 c) λ e. rounds g b p.cycle (length p.prefix) e
