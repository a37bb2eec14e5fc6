-- What holds of every verdict that a check can answer: by its rows, of two checks one after the other, and of a scan. Assumes nothing.
use mathlib.Core.Path.{◌≡◌, refl}
use mathlib.Core.Bool.{Bool, true, false}
use Prim.Native.Nat.{ℕ, zero, suc, ◌+◌, ◌<◌}
use native.Mathlib.Omega.{arith}
use Rattle.std.specs.Prelude.{Ok, Err}
use Rattle.refusals.specs.declared.Refusal.{Refusal}
use Rattle.refusals.specs.Refusals.{Verdict, refuse, and_then}
use Rattle.refusals.proofs.Scan.{Scan}

module _ (P : Verdict → Type 0) where
  -- a row, and what is checked after it
  pub refuse-each : (t : Bool) (r : Refusal) {v : Verdict} → P (Err r) → P v → P (refuse t r v)
  refuse-each true r here after = here
  refuse-each false r here after = after

  pub then-each : (u : Verdict) {v : Verdict} → P u → (u ≡ Ok tt → P v) → P (and_then u v)
  then-each (Ok _) first second = second refl
  then-each (Err r) first second = first

  -- a scan, by its places
  module _ {test : ℕ → Bool} {r : ℕ → Refusal} {n : ℕ} {v : ℕ → Verdict} (scan : Scan test r n v) (yes : P (Ok tt))
      (each : (k : ℕ) → k < n → P (Err (r k))) where
    from_each : (i k : ℕ) → k + i ≡ n → P (v k)
    from_each zero k e = let end : k ≡ n = omega arith in rw (end, scan.ends) yes
    from_each (suc i) k e =
        rw (scan.turn k (omega arith)) (refuse-each (test k) (r k) (each k (omega arith)) (from_each i (suc k) (omega arith)))

    pub scan-each : P (v 0)
    scan-each = from_each n 0 (omega arith)
