-- Each move's step is an energy function with the bound added (document 004, Definition 1; document 02, Ask 4), so it is monotone, and one more
-- unit of charge gives at least one more unit below the bound. Assumes nothing.
use Rattle.std.specs.Prelude.{Option, Some, None}
use mathlib.Core.Path.{◌≡◌, refl, sym, ap, ◌∙◌}
use mathlib.Core.Bool.{Bool, true, false}
use Prim.Native.Nat.{ℕ, suc, ◌+◌, ◌-◌, ◌≤◌, ◌<◌, min}
use native.Mathlib.Omega.{arith}
use native.Mathlib.Decide.{dec_le}
use borrow.Author.Tests.{le-leb, lt-leb}
use lib.Dec.{leb}
use Rattle.walks.specs.declared.Step.{Step}
use Rattle.walks.specs.BoundedStep.{to}
use Rattle.walks.specs.BoundedStep.{Move, stepped}
use Rattle.walks.specs.Walk.{End, Ends, Blocked, IsPossible}
use Rattle.walks.specs.Energy.{EnergyFunction, bounded, ended, EnergyUnder}
use Rattle.walks.proofs.Walks.{stepped-possible, stepped-impossible}

abbrev end_if : Bool → ℕ → End
end_if true x = Ends x
end_if false x = Blocked

module _ (m : Move) where
  -- the move without a bound
  abbrev pub unbounded : ℕ → End
  unbounded e = end_if (leb m.draw e) (e - m.draw + m.gain)

  unbounded-on : (e : ℕ) → m.draw ≤ e → unbounded e ≡ Ends (e - m.draw + m.gain)
  unbounded-on e h = rw (le-leb m.draw e h) refl

  unbounded-off : (e : ℕ) → e < m.draw → unbounded e ≡ Blocked
  unbounded-off e h = rw (lt-leb m.draw e h) refl

  unbounded-to : (e x : ℕ) → unbounded e ≡ Ends x → (m.draw ≤ e) × (e - m.draw + m.gain ≡ x)
  unbounded-to e x q =
      elim (dec_le m.draw e) [
        | yes h ↦ let p = unbounded-on e h in (h, cc)
        | no h ↦ let p = unbounded-off e (omega arith) in absurd (let z : ◌≡◌ {A = ℕ} 0 1 = cc in omega arith)
      ]

  pub unbounded-energy : EnergyFunction unbounded
  unbounded-energy =
      record {
        lower = m.draw;
        defined = λ e.
            elim (dec_le m.draw e) [
              | yes h ↦ rw (unbounded-on e h) (λ p. h, λ p. tt)
              | no h ↦ rw (unbounded-off e (omega arith)) (λ p. absurd p, λ p. absurd (h p))
            ];
        grows = λ e e' x x' h p q. omega (arith, unbounded-to e x p, unbounded-to e' x' q);
      }

  -- each move's step is one with the bound added
  pub step-energy : (b : ℕ) → EnergyUnder b (stepped b m)
  step-energy b = (
    unbounded,
    unbounded-energy,
    λ e.
        elim (dec_le m.draw e) [
          | yes h ↦ ap {B = End} ended (stepped-possible b m e h) ∙ sym (ap {B = End} (bounded b) (unbounded-on e h))
          | no h ↦ ap {B = End} ended (stepped-impossible b m e (omega arith)) ∙ sym (ap {B = End} (bounded b) (unbounded-off e (omega arith)))
        ],
  )

-- what is cut off at the bound, what is possible, and what a step leads to
bounded-to : (b : ℕ) (t : End) (x : ℕ) → bounded b t ≡ Ends x → (y : ℕ) × (t ≡ Ends y) × (min y b ≡ x)
bounded-to b (Ends y) x q = (y, refl, cc)
bounded-to b Blocked x q = absurd (let z : ◌≡◌ {A = ℕ} 0 1 = cc in omega arith)

possible-ends : (t : End) → IsPossible t → (y : ℕ) × (t ≡ Ends y)
possible-ends (Ends y) p = (y, refl)
possible-ends Blocked p = absurd p

ended_to : (s : Option Step) (x : ℕ) → ended s ≡ Ends x → (l : ℕ) × (s ≡ to x l)
ended_to (Some u) x q = (u.lost, ap {B = Option Step} (λ (y : ℕ). to y u.lost) cc)
ended_to None x q = absurd (let z : ◌≡◌ {A = ℕ} 0 1 = cc in omega arith)

-- From more charge the step is possible too, and what it leads to is more by as much, up to the bound ..
module _ (b : ℕ) (step : ℕ → Option Step) (energy : EnergyUnder b step) (e x l : ℕ) (reaches : step e ≡ to x l) where
  pub energy-grows : (e' : ℕ) → e ≤ e' → (x' : ℕ) × (l' : ℕ) × (step e' ≡ to x' l') × (min (x + (e' - e)) b ≤ x') × (x ≤ b)
  energy-grows e' h =
      let (f, is, same) = energy in
      let (y, leads, cut) = bounded-to b (f e) x (sym (same e) ∙ ap {B = End} ended reaches) in
      let low = (is.defined e).0 (rw leads tt) in
      let (y', leads') = possible-ends (f e') ((is.defined e').1 (omega arith)) in
      let (l', to') = ended_to (step e') (min y' b) (same e' ∙ ap {B = End} (bounded b) leads') in
      let more = is.grows e e' y y' h leads leads' in
      (min y' b, l', to', omega arith, omega arith)

  -- .. so it is monotone ..
  pub energy-monotone : (e' : ℕ) → e ≤ e' → (x' : ℕ) × (l' : ℕ) × (step e' ≡ to x' l') × (x ≤ x')
  energy-monotone e' h = let (x', l', to', more, most) = energy-grows e' h in (x', l', to', omega arith)

  -- .. and one more unit gives at least one more unit below the bound
  pub energy-unit : x < b → (x' : ℕ) × (l' : ℕ) × (step (suc e) ≡ to x' l') × (suc x ≤ x')
  energy-unit below = let (x', l', to', more, most) = energy-grows (suc e) (omega arith) in (x', l', to', omega arith)
