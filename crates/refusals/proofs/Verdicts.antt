-- When a check that goes top to bottom says yes: no row applies. Assumes nothing.
use mathlib.Core.Path.{◌≡◌, refl}
use mathlib.Core.Bool.{Bool, true, false}
use mathlib.Core.Logic.{◌↔◌}
use Prim.Native.Nat.{ℕ}
use native.Mathlib.Omega.{arith}
use Rattle.std.specs.Prelude.{Ok, Err}
use Rattle.refusals.specs.declared.Refusal.{Refusal}
use Rattle.refusals.specs.Refusals.{Verdict, refuse, and_then}

-- two constructors are never equal
pub clash : {X : Type 0} → ◌≡◌ {A = ℕ} 0 1 → X
clash e = absurd (omega arith)

-- a row of the table that lets a call through
pub refuse-yes : (t : Bool) (r : Refusal) (v : Verdict) → (refuse t r v ≡ Ok tt) ↔ ((t ≡ false) × (v ≡ Ok tt))
refuse-yes true r v = (λ e. clash (cc), λ e. clash (cc))
refuse-yes false r v = (λ e. (refl, e), λ e. e.1)

pub and-then-yes : (u v : Verdict) → (and_then u v ≡ Ok tt) ↔ ((u ≡ Ok tt) × (v ≡ Ok tt))
and-then-yes (Ok _) v = (λ e. (refl, e), λ e. e.1)
and-then-yes (Err r) v = (λ e. clash (cc), λ e. clash (cc))

-- by the first check's verdict: the second answers, or the refusal does
pub and-then-on : (u v : Verdict) → u ≡ Ok tt → v ≡ and_then u v
and-then-on u v e = rw e refl

pub and-then-stop : (u v : Verdict) (r : Refusal) → u ≡ Err r → Err r ≡ and_then u v
and-then-stop u v r e = rw e refl

-- what ends in a refusal in any case is not followed by another check
pub and-then-last : (u v : Verdict) (r : Refusal) → and_then u (Err r) ≡ and_then (and_then u (Err r)) v
and-then-last (Ok _) v r = refl
and-then-last (Err q) v r = refl

-- a refusal that is neither this row's nor answered by what is checked after it is not answered
pub refuse-not : (t : Bool) (q r : Refusal) (v : Verdict) → (◌≡◌ {A = Verdict} (Err q) (Err r) → ⊥) → (v ≡ Err r → ⊥) → refuse t q v ≡ Err r → ⊥
refuse-not true q r v here after = here
refuse-not false q r v here after = after

-- a refusal that the second of two checks does not answer is the first's
pub and-then-first : (u v : Verdict) (r : Refusal) → (v ≡ Err r → ⊥) → and_then u v ≡ Err r → u ≡ Err r
and-then-first (Ok _) v r not e = absurd (not e)
and-then-first (Err q) v r not e = e

-- a refusal that the first of two checks does not answer is answered only where that check says yes
pub and-then-second : (u v : Verdict) (r : Refusal) → (u ≡ Err r → ⊥) → and_then u v ≡ Err r → u ≡ Ok tt
and-then-second (Ok _) v r not e = refl
and-then-second (Err q) v r not e = absurd (not e)
