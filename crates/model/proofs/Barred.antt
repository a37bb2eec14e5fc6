-- Bytes of barred colours: what it means that a byte has a bit in common with another, by bits, by a mask and as the code tests it. Assumes
-- nothing.
use mathlib.Core.Path.{◌≡◌, refl, sym, ap, ◌∙◌}
use mathlib.Core.Bool.{Bool, true, false, false≢true, not, ◌&&◌, and_comm, and-eq-true_iff}
use mathlib.Core.Logic.{◌↔◌, inl, inr, ⊎_elim}
use Prim.Native.Nat.{ℕ, zero, suc, ◌+◌, ◌*◌, ◌/◌, ◌%◌, ◌^◌, ◌≤◌, ◌<◌}
use native.Mathlib.Nat.{div-one}
use native.Mathlib.Omega.{arith}
use native.Mathlib.Decide.{ℕ_discrete, dec_le}
use lib.Bits.{bit_and}
use lib.Dec.{eqb}
use lib.Pow.{mod-pow-add}
use borrow.Author.Tests.{eq-eqb, eqb-true}
use Rattle.refusals.proofs.Tests.{or_yes, or_no, and_no}
use Rattle.model.specs.Automaton.{Automaton, arc_at, bit, meets, common, has_barred}
use Rattle.model.proofs.Bits.{colours-below, bit-zero, half-bit, and-bit}

-- the bits below k of a number's rest by 2 ^ k are its own
pub mod-bit : (k x j : ℕ) → j < k → bit (x % 2 ^ k) j ≡ bit x j
mod-bit zero x j h = absurd (omega arith)
mod-bit (suc k) x zero h =
    let e : k + 1 ≡ suc k = omega arith in
    let m : x % 2 ^ suc k ≡ (x / 2 ^ 1 % 2 ^ k) * 2 ^ 1 + x % 2 ^ 1 = rw e at (mod-pow-add x k 1) in
    let p : x % 2 ^ suc k % 2 ≡ x % 2 = omega arith in
    rw (div-one (x % 2 ^ suc k), div-one x, p) refl
mod-bit (suc k) x (suc j) h =
    let e : k + 1 ≡ suc k = omega arith in
    let m : x % 2 ^ suc k ≡ (x / 2 ^ 1 % 2 ^ k) * 2 ^ 1 + x % 2 ^ 1 = rw e at (mod-pow-add x k 1) in
    let p : x % 2 ^ suc k / 2 ≡ x / 2 % 2 ^ k = omega arith in
    sym (half-bit (x % 2 ^ suc k) j) ∙ ap {B = Bool} (λ (y : ℕ). bit y j) p ∙ mod-bit k (x / 2) j (omega arith) ∙ half-bit x j

-- no bit below k is one of both bytes
pub common-none : (x y k : ℕ) → (common x y k ≡ false) ↔ ((j : ℕ) → j < k → bit x j ≡ true → bit y j ≡ false)
common-none x y zero = (λ e j h. absurd (omega arith), λ f. refl)
common-none x y (suc k) =
    let ih = common-none x y k in
    let split = or_no (bit x k && bit y k) (common x y k) in
    let here = and_no (bit x k) (bit y k) in (
      λ e j h q. elim (ℕ_discrete j k) [ yes z ↦ rw z (here.0 (split.0 e).0 (rw z at q)) | no z ↦ ih.0 (split.0 e).1 j (omega arith) q ],
      λ f. split.1 (here.1 (λ q. f k (omega arith) q), ih.1 (λ j h q. f j (omega arith) q)),
    )

-- some bit below k is one of both
common-some : (x y k : ℕ) → (common x y k ≡ true) ↔ ((j : ℕ) × (j < k) × (bit x j ≡ true) × (bit y j ≡ true))
common-some x y zero = (λ e. absurd (false≢true e), λ (j, h, s, t). absurd (omega arith))
common-some x y (suc k) =
    let ih = common-some x y k in
    let split = or_yes (bit x k && bit y k) (common x y k) in
    let here = and-eq-true_iff (bit x k) (bit y k) in (
      λ e. ⊎_elim (λ q. let (s, t) = here.0 q in (k, omega arith, s, t)) (λ q. let (j, h, s, t) = ih.0 q in (j, omega arith, s, t)) (split.0 e),
      λ (j, h, s, t).
          split.1 (elim (ℕ_discrete j k) [ yes z ↦ inl (here.1 (rw z at s, rw z at t)) | no z ↦ inr (ih.1 (j, omega arith, s, t)) ]),
    )

-- bytes with the same bits below k have the same in common with another
common-same : (x y z k : ℕ) → ((j : ℕ) → j < k → bit x j ≡ bit y j) → common x z k ≡ common y z k
common-same x y z zero f = refl
common-same x y z (suc k) f = rw (f k (omega arith), common-same x y z k (λ j h. f j (omega arith))) refl

module _ (g : Automaton) (a : ℕ) where
  -- an arc has a barred colour exactly where it meets a colour of the model that the byte names
  pub has-barred : (x : ℕ) → (has_barred g x a ≡ true) ↔ ((j : ℕ) × (j < g.colours) × (bit x j ≡ true) × (meets g j a ≡ true))
  has-barred x = common-some x (arc_at g a).colours g.colours

  -- with nothing barred none has one
  pub none-barred : has_barred g 0 a ≡ false
  none-barred = (common-none 0 (arc_at g a).colours g.colours).1 (λ j h e. absurd (false≢true (sym (bit-zero j) ∙ e)))

  -- "its bits at or above k are ignored"
  pub barred-ignored : (x y : ℕ) → ((j : ℕ) → j < g.colours → bit x j ≡ bit y j) → has_barred g x a ≡ has_barred g y a
  barred-ignored x y same = common-same x y (arc_at g a).colours g.colours same

-- the mask of the common bits is 0 where there are none
mask-none : (x y : ℕ) → (bit_and y x ≡ 0) ↔ ((j : ℕ) → bit x j ≡ true → bit y j ≡ false)
mask-none x y = (
  λ e j. (and_no (bit x j) (bit y j)).0 (sym (both j) ∙ ap {B = Bool} (λ (z : ℕ). bit z j) e ∙ bit-zero j),
  λ f. let low = (colours-below (bit_and y x) 0).1 (λ j h. both j ∙ (and_no (bit x j) (bit y j)).1 (f j)) in omega arith,
)
  where
    both : (j : ℕ) → bit (bit_and y x) j ≡ (bit x j && bit y j)
    both j = and-bit y x j ∙ and_comm (bit y j) (bit x j)

-- of a byte y without a bit at or above k, the test by the mask
pub common-mask : (x y k : ℕ) → y < 2 ^ k → common x y k ≡ not (eqb (bit_and y x) 0)
common-mask x y k low = go (common x y k) refl (eqb (bit_and y x) 0) refl
  where
    high : (j : ℕ) → k ≤ j → bit y j ≡ false
    high = (colours-below y k).0 low

    all : ((j : ℕ) → j < k → bit x j ≡ true → bit y j ≡ false) → (j : ℕ) → bit x j ≡ true → bit y j ≡ false
    all f j q = elim (dec_le k j) [ yes h ↦ high j h | no h ↦ f j (omega arith) q ]

    go : (s : Bool) → common x y k ≡ s → (t : Bool) → eqb (bit_and y x) 0 ≡ t → s ≡ not t
    go true e true q = absurd (false≢true (sym ((common-none x y k).1 (λ j h. (mask-none x y).0 (eqb-true (bit_and y x) 0 q) j)) ∙ e))
    go true e false q = refl
    go false e true q = refl
    go false e false q = absurd (false≢true (sym q ∙ eq-eqb (bit_and y x) 0 ((mask-none x y).1 (all ((common-none x y k).0 e)))))
