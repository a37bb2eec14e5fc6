-- When the tests that rows of the table are made of say no, and when one of two says yes. Assumes nothing.
use mathlib.Core.Path.{◌≡◌, refl}
use mathlib.Core.Bool.{Bool, true, false, not, ◌&&◌, ◌||◌}
use mathlib.Core.Logic.{◌↔◌, ◌⊎◌, inl, inr, ⊎_elim}
use Prim.Native.Nat.{ℕ, ◌≤◌, ◌<◌}
use lib.Dec.{leb, ltb, eqb}
use borrow.Author.Tests.{ltb-false, leb-false, eqb-true, not-false, le-ltb, lt-leb, eq-eqb}
use Rattle.refusals.proofs.Verdicts.{clash}

-- one of two
pub or_yes : (s t : Bool) → ((s || t) ≡ true) ↔ ((s ≡ true) ⊎ (t ≡ true))
or_yes true t = (λ e. inl refl, λ e. refl)
or_yes false t = (λ e. inr e, ⊎_elim (λ e. clash (cc)) (λ e. e))

-- neither of two
pub or_no : (s t : Bool) → ((s || t) ≡ false) ↔ ((s ≡ false) × (t ≡ false))
or_no true t = (λ e. clash (cc), λ e. clash (cc))
or_no false t = (λ e. (refl, e), λ e. e.1)

-- not both of two
pub and_no : (s t : Bool) → ((s && t) ≡ false) ↔ (s ≡ true → t ≡ false)
and_no true t = (λ e q. e, λ f. f refl)
and_no false t = (λ e q. clash (cc), λ f. refl)

-- not this one
pub is-no : (t : Bool) → (t ≡ true → ⊥) → t ≡ false
is-no true f = absurd (f refl)
is-no false f = refl

-- none of four, none of five, none of six
pub or4-no : (a b c d : Bool) → ((a || b || c || d) ≡ false) ↔ ((a ≡ false) × (b ≡ false) × (c ≡ false) × (d ≡ false))
or4-no false false false d = (λ e. (refl, refl, refl, e), λ e. e.3)
or4-no true b c d = (λ e. clash (cc), λ e. clash (cc))
or4-no false true c d = (λ e. clash (cc), λ e. clash (cc))
or4-no false false true d = (λ e. clash (cc), λ e. clash (cc))

pub or5-no : (a b c d e : Bool) → ((a || b || c || d || e) ≡ false) ↔ ((a ≡ false) × (b ≡ false) × (c ≡ false) × (d ≡ false) × (e ≡ false))
or5-no a b c d e = (
  λ q. let r = (or_no (a || b || c || d) e).0 q in let t = (or4-no a b c d).0 r.0 in (t.0, t.1, t.2, t.3, r.1),
  λ t. (or_no (a || b || c || d) e).1 ((or4-no a b c d).1 (t.0, t.1, t.2, t.3), t.4),
)

pub or6-no : (a b c d e f : Bool) → ((a || b || c || d || e || f) ≡ false)
    ↔ ((a ≡ false) × (b ≡ false) × (c ≡ false) × (d ≡ false) × (e ≡ false) × (f ≡ false))
or6-no a b c d e f = (
  λ q. let r = (or_no (a || b || c || d || e) f).0 q in let t = (or5-no a b c d e).0 r.0 in (t.0, t.1, t.2, t.3, t.4, r.1),
  λ t. (or_no (a || b || c || d || e) f).1 ((or5-no a b c d e).1 (t.0, t.1, t.2, t.3, t.4), t.5),
)

-- not below, not at most, not different
pub lt_no : (m n : ℕ) → (ltb m n ≡ false) ↔ (n ≤ m)
lt_no m n = (ltb-false m n, le-ltb m n)

pub le-no : (m n : ℕ) → (leb m n ≡ false) ↔ (n < m)
le-no m n = (leb-false m n, lt-leb m n)

pub differ-no : (m n : ℕ) → (not (eqb m n) ≡ false) ↔ (m ≡ n)
differ-no m n = (λ e. eqb-true m n (not-false (eqb m n) e), λ e. rw (eq-eqb m n e) refl)
