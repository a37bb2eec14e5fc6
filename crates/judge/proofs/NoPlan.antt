-- When no plan of any length is feasible and accepted: a certificate, tested arc by arc, of modes that no walk leaves and a colour that no
-- walk there meets. Of the byte 0 of barred colours. Assumes nothing.
use mathlib.Core.Path.{◌≡◌, refl}
use mathlib.Core.Bool.{Bool, true, false, true≢false, not, ◌&&◌, ◌||◌, and-eq-true_iff}
use mathlib.Core.List.{List, [], ◌∷◌}
use mathlib.Core.Logic.{inl, ⊎_elim}
use Prim.Native.Nat.{ℕ, zero, suc, ◌≤◌, ◌<◌}
use native.Mathlib.Omega.{arith}
use native.Mathlib.Decide.{ℕ_discrete}
use lib.Dec.{leb}
use lib.ListN.{length}
use borrow.Author.Tests.{leb-true, leb-false, le-leb, not-true}
use Rattle.walks.specs.BoundedStep.{after}
use Rattle.walks.specs.Moves.{Possible}
use Rattle.walks.proofs.Walks.{walked_to}
use Rattle.walks.proofs.Charges.{walked-bound}
use Rattle.model.specs.Automaton.{Automaton, arc_at, meets, moves_of, move_of}
use Rattle.model.specs.Plans.{Plan, Leads, SomeArc, Accepted, SomePlan}
use Rattle.model.proofs.Bits.{bit-zero}
use Rattle.model.proofs.Plans.{feasible-rounds}

-- an arc has colour j; where the model has no colour j, every arc counts as having it
abbrev sought : Automaton → ℕ → ℕ → Bool
sought g j a = leb g.colours j || meets g j a

-- an arc can be used from inside: its source is inside, and the bound is at least what it draws
abbrev usable : Automaton → ℕ → (ℕ → Bool) → ℕ → Bool
usable g b inside a = inside (arc_at g a).source && leb (arc_at g a).draw b

-- where it can be used, it leads to a mode inside, and does not have colour j
abbrev harmless : Automaton → ℕ → (ℕ → Bool) → ℕ → ℕ → Bool
harmless g b inside j a = not (usable g b inside a) || inside (arc_at g a).target && not (sought g j a)

-- all numbers below m pass the test
abbrev each : (ℕ → Bool) → ℕ → Bool
each test zero = true
each test (suc m) = test m && each test m

-- the certificate, tested: c is at most b, the start mode is inside, and every arc is harmless
abbrev pub refutes : Automaton → ℕ → ℕ → (ℕ → Bool) → ℕ → Bool
refutes g b c inside j = leb c b && inside g.start && each (harmless g b inside j) (length g.arcs)

-- where all pass, so does each
each_holds : (test : ℕ → Bool) (m : ℕ) → each test m ≡ true → (a : ℕ) → a < m → test a ≡ true
each_holds test zero e a h = absurd (omega arith)
each_holds test (suc m) e a h =
    let k = (and-eq-true_iff (test m) (each test m)).0 e in
    elim (ℕ_discrete a m) [
      | yes q ↦ rw q k.0
      | no q ↦ each_holds test m k.1 a (omega arith)
    ]

-- a list that is not empty has an arc
some_first : (w : List ℕ) → 0 < length w → SomeArc (λ a. true) w
some_first [] h = absurd (omega arith)
some_first (a ∷ w) h = inl refl

-- the cycle of an accepted plan has an arc with colour j
sought-met : (g : Automaton) (p : Plan) (j : ℕ) → 0 < length p.cycle → Accepted g 0 p → SomeArc (sought g j) p.cycle
sought-met g p j h m = go (leb g.colours j) refl
  where
    go : (t : Bool) → leb g.colours j ≡ t → SomeArc (λ a. t || meets g j a) p.cycle
    go true e = some_first p.cycle h
    go false e = m.required j (leb-false g.colours j e) (bit-zero j)

module _ (g : Automaton) (b : ℕ) (inside : ℕ → Bool) (j : ℕ) (all : (a : ℕ) → a < length g.arcs → harmless g b inside j a ≡ true) where
  -- an arc that is walked from inside leads to a mode inside, and does not have colour j
  step-inside : (a : ℕ) → a < length g.arcs → inside (arc_at g a).source ≡ true → (arc_at g a).draw ≤ b
      → (inside (arc_at g a).target ≡ true) × (sought g j a ≡ false)
  step-inside a h s d =
      let k = (and-eq-true_iff (inside (arc_at g a).target) (not (sought g j a))).0 (rw (s, le-leb (arc_at g a).draw b d) at (all a h)) in
      (k.0, not-true (sought g j a) k.1)

  -- a walk from inside stays there, and no arc of it has colour j
  stays : (w : List ℕ) (s t e : ℕ) → e ≤ b → inside s ≡ true → Leads g s w t → Possible b (moves_of g w) e
      → (inside t ≡ true) × (SomeArc (sought g j) w → ⊥)
  stays [] s t e h i l p = (rw l at i, λ m. m)
  stays (a ∷ w) s t e h i l p =
      let (k, n) = step-inside a l.0 (rw l.1 i) (omega arith) in
      let (o, none) = stays w (arc_at g a).target t (after b (move_of (arc_at g a)) e) (omega arith) k l.2 p.1 in
      (o, λ m. ⊎_elim (λ q. true≢false (cc)) none m)

-- No plan of any length is feasible and accepted, where the certificate passes its test. inside: modes that are not left; j: a colour that
-- is not met there, or any number from k on where no arc can be used at all.
pub no-plan : (g : Automaton) (b c : ℕ) (inside : ℕ → Bool) (j : ℕ) → refutes g b c inside j ≡ true → SomePlan g 0 b c → ⊥
no-plan g b c inside j r (p, s) =
    let (r₁, r₂) = (and-eq-true_iff (leb c b && inside g.start) (each (harmless g b inside j) (length g.arcs))).0 r in
    let (low, start) = (and-eq-true_iff (leb c b) (inside g.start)).0 r₁ in
    let h : c ≤ b = leb-true c b low in
    let stay = stays g b inside j (each_holds (harmless g b inside j) (length g.arcs) r₂) in
    let (e, q, (x, k, z)) = (feasible-rounds g b c p h).0 s.feasible in
    let (here, _) = stay p.prefix g.start s.plan.mode c h start s.plan.leads_in (walked_to b (moves_of g p.prefix) c e q).0 in
    let u = walked-bound b (moves_of g p.prefix) c e h q in
    (stay p.cycle s.plan.mode s.plan.mode e u here s.plan.leads_cycle (walked_to b (moves_of g p.cycle) e x k).0).1
    (sought-met g p j s.plan.has_arc s.accepted)
