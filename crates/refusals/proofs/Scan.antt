-- Scans over numbered places, of which each is refused by its own number where it passes a test: the yes, and which place is answered.
-- Assumes nothing.
use mathlib.Core.Path.{◌≡◌, refl, subst}
use mathlib.Core.Bool.{Bool, true, false}
use mathlib.Core.Logic.{◌↔◌}
use Prim.Native.Nat.{ℕ, zero, suc, ◌+◌, ◌≤◌, ◌<◌}
use native.Mathlib.Decide.{ℕ_discrete, dec_le}
use native.Mathlib.Omega.{arith}
use Rattle.std.specs.Prelude.{Ok, Err}
use Rattle.refusals.specs.declared.Refusal.{Refusal}
use Rattle.refusals.specs.Refusals.{Verdict, refuse}
use Rattle.refusals.proofs.Verdicts.{clash, refuse-yes}

-- d is the first of n places that passes the test
pub record FirstOf (test : ℕ → Bool) (n d : ℕ) : Type 0 where
  pub within : d < n
  pub passes : test d ≡ true
  pub before : (j : ℕ) → j < d → test j ≡ false

-- there is at most one first place
first_one : (test : ℕ → Bool) (n x y : ℕ) → FirstOf test n x → FirstOf test n y → x ≡ y
first_one test n x y f h =
    elim (dec_le x y) [
      | yes p ↦ elim (dec_le y x) [ yes q ↦ omega arith | no q ↦ clash (cc (h.before x (omega arith))) ]
      | no p ↦ clash (cc (f.before y (omega arith)))
    ]

-- a scan of n places: v k, the verdict from place k on, is the refusal r k where that place passes the test, else the verdict from the next
-- place on; the refusal tells the place
pub record Scan (test : ℕ → Bool) (r : ℕ → Refusal) (n : ℕ) (v : ℕ → Verdict) : Type 0 where
  pub turn : (k : ℕ) → k < n → v k ≡ refuse (test k) (r k) (v (suc k))
  pub ends : v n ≡ Ok tt
  pub tells : (x y : ℕ) → r x ≡ r y → x ≡ y

module _ (test : ℕ → Bool) (r : ℕ → Refusal) (n : ℕ) (v : ℕ → Verdict) (scan : Scan test r n v) where
  -- the verdict from place k on, where i places are left: yes exactly where none of them passes
  yes-from : (i k : ℕ) → k + i ≡ n → (v k ≡ Ok tt) ↔ ((j : ℕ) → k ≤ j → j < n → test j ≡ false)
  yes-from zero k e = let end : k ≡ n = omega arith in (λ q j h i. absurd (omega arith), λ f. rw end scan.ends)
  yes-from (suc i) k e =
      let row = refuse-yes (test k) (r k) (v (suc k)) in
      let ih = yes-from i (suc k) (omega arith) in
      rw (scan.turn k (omega arith)) (
        λ q j h l.
            let (here, rest) = row.0 q in
            elim (ℕ_discrete j k) [ yes z ↦ rw z here | no z ↦ ih.0 rest j (omega arith) l ],
        λ f. row.1 (f k (omega arith) (omega arith), ih.1 (λ j h l. f j (omega arith) l)),
      )

  -- a scan says yes exactly where no place passes
  pub scan-yes : (v 0 ≡ Ok tt) ↔ ((j : ℕ) → j < n → test j ≡ false)
  scan-yes = let all = yes-from n 0 (omega arith) in (λ q j h. all.0 q j (omega arith) h, λ f. all.1 (λ j h l. f j l))

  -- the verdict from place k on, where i places are left and no place before k passes
  scan-from : (d i k : ℕ) → k + i ≡ n → ((j : ℕ) → j < k → test j ≡ false) → (v k ≡ Err (r d)) ↔ FirstOf test n d
  scan-from d zero k e none = let end : k ≡ n = omega arith in (λ q. clash (cc), λ f. clash (cc (none d (omega arith))))
  scan-from d (suc i) k e none =
      rw (scan.turn k (omega arith)) (go (test k) refl λ z. scan-from d i (suc k) (omega arith) λ j h.
      elim (ℕ_discrete j k) [ yes q ↦ rw q z | no q ↦ none j (omega arith) ])
    where
      go : (t : Bool) → test k ≡ t → (test k ≡ false → (v (suc k) ≡ Err (r d)) ↔ FirstOf test n d)
          → (refuse t (r k) (v (suc k)) ≡ Err (r d)) ↔ FirstOf test n d
      go true z ih =
          let here : FirstOf test n k = record { within = omega arith; passes = z; before = none } in
          (λ q. subst (FirstOf test n) (scan.tells k d (cc)) here, λ f. rw (first_one test n k d here f) refl)
      go false z ih = ih z

  -- a scan is refused with detail d exactly where d is the first place that passes
  pub scan-first : (d : ℕ) → (v 0 ≡ Err (r d)) ↔ FirstOf test n d
  scan-first d = scan-from d n 0 (omega arith) λ j h. absurd (omega arith)
