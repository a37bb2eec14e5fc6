-- What the loop over a ward comes to: the answer so far after i wearers, and the answer and the wearers at the end. Assumes nothing.
use Rattle.std.specs.Prelude.{Ok, Err}
use Rattle.std.specs.Result.{is_err}
use mathlib.Core.Path.{◌≡◌, refl, ap, ◌∙◌}
use mathlib.Core.Bool.{Bool, true, false, cond}
use mathlib.Core.List.{List, [], ◌∷◌, map}
use Prim.Native.Nat.{ℕ, zero, suc, ◌+◌, ◌<◌}
use native.Mathlib.Nat.{not-suc-le-zero, le_of_suc-le-suc}
use native.Mathlib.Numerals.{add-one}
use native.Mathlib.Omega.{arith}
use lib.Dec.{eqb}
use lib.ListN.{length, get_or, set}
use Rattle.refusals.specs.declared.Answer.{Answer}
use Rattle.refusals.specs.Refusals.{Verdict, answer, answer_of}
use Rattle.refusals.proofs.Verdicts.{clash}
use Rattle.ward.specs.declared.Wearer.{Wearer}
use Rattle.ward.specs.Ward.{with_verdict, first_other, answered_if, filled_if}
use Rattle.ward.specs.Turns.{after_verdict}
use Rattle.ward.proofs.Upto.{upto, get_or-upto, set-upto, upto_all}

-- what stands past the end of a list of wearers
abbrev pub no_wearer : Wearer
no_wearer = record { start = 0; c = 0; b = 0; verdict = 0 }

module _ (f : Wearer → ℕ) where
  -- the answer so far after i wearers of the list, from r on; the list's first wearer has the place j
  abbrev pub so_far : Answer → ℕ → List Wearer → ℕ → Answer
  so_far r j ys zero = r
  so_far r j [] (suc i) = r
  so_far r j (y ∷ ys) (suc i) = so_far (after_verdict r (f y) j) (suc j) ys i

  -- one wearer more
  so_far_more : (r : Answer) (j : ℕ) (ys : List Wearer) (i : ℕ) → i < length ys
      → after_verdict (so_far r j ys i) (f (get_or ys i no_wearer)) (j + i) ≡ so_far r j ys (suc i)
  so_far_more r j [] i l = absurd (not-suc-le-zero l)
  so_far_more r j (y ∷ ys) zero l = ap (λ (p : ℕ). after_verdict r (f y) p) (omega arith)
  so_far_more r j (y ∷ ys) (suc i) l =
      ap (λ (p : ℕ). after_verdict (so_far (after_verdict r (f y) j) (suc j) ys i) (f (get_or ys i no_wearer)) p) (omega arith)
      ∙ so_far_more (after_verdict r (f y) j) (suc j) ys i (le_of_suc-le-suc l)

  -- the same from place 0, as the loop has it
  pub so-far-next : (r : Answer) (ys : List Wearer) (i : ℕ) → i < length ys
      → after_verdict (so_far r 0 ys i) (f (get_or ys i no_wearer)) i ≡ so_far r 0 ys (suc i)
  so-far-next r ys i l = ap (λ (p : ℕ). after_verdict (so_far r 0 ys i) (f (get_or ys i no_wearer)) p) (omega arith) ∙ so_far_more r 0 ys i l

  -- the first verdict that is not yes stays
  kept : (r : Answer) (j : ℕ) (ys : List Wearer) (i : ℕ) → eqb r.number 0 ≡ false → so_far r j ys i ≡ r
  kept r j ys zero e = refl
  kept r j [] (suc i) e = refl
  kept r j (y ∷ ys) (suc i) e =
      let same : after_verdict r (f y) j ≡ r = rw e refl in
      ap (λ (q : Answer). so_far q (suc j) ys i) same ∙ kept r (suc j) ys i e

  -- all wearers, where the answer so far is yes
  so-far-all : (j : ℕ) (ys : List Wearer) → so_far (answer 0 0) j ys (length ys) ≡ first_other (map f ys) j
  unfolding first_other
  so-far-all j [] = refl
  so-far-all j (y ∷ ys) = go (eqb (f y) 0) refl (so-far-all (suc j) ys)
    where
      go : (t : Bool) → eqb (f y) 0 ≡ t → so_far (answer 0 0) (suc j) ys (length ys) ≡ first_other (map f ys) (suc j)
          → so_far (cond t (answer 0 0) (answer (f y) j)) (suc j) ys (length ys) ≡ cond t (first_other (map f ys) (suc j)) (answer (f y) j)
      go true e ih = ih
      go false e ih = kept (answer (f y) j) (suc j) ys (length ys) e

-- one turn of the loop, where the wearers at entry are ys: the wearer at i is put through f, and the answer is that of one wearer more
module _ (f : Wearer → ℕ) (ys : List Wearer) where
  abbrev filled : Wearer → Wearer
  filled y = with_verdict y (f y)

  grown : (zs : List Wearer) (i : ℕ) → zs ≡ upto filled i ys → i < length ys → set zs i (filled (get_or zs i no_wearer)) ≡ upto filled (i + 1) ys
  grown zs i e l = rw (e, add-one) (set-upto filled i ys no_wearer l)

  pub turn-filled : (zs : List Wearer) (i v : ℕ) → zs ≡ upto filled i ys → v ≡ f (get_or zs i no_wearer) → i < length ys
      → set zs i (with_verdict (get_or zs i no_wearer) v) ≡ upto filled (i + 1) ys
  turn-filled zs i v e j l = rw j (grown zs i e l)

  pub turn-answered : (zs : List Wearer) (r s a : Answer) (i v : ℕ) → zs ≡ upto filled i ys → r ≡ so_far f a 0 ys i → v ≡ f (get_or zs i no_wearer)
      → s ≡ after_verdict r v i → i < length ys → s ≡ so_far f a 0 ys (i + 1)
  turn-answered zs r s a i v e q j t l = rw (t, j, e, q, get_or-upto filled i ys no_wearer, add-one) (so-far-next f a ys i l)

-- how many of m wearers are judged, by what is said of the model
abbrev pub judged_of : Verdict → ℕ → ℕ
judged_of (Ok _) m = m
judged_of (Err r) m = 0

-- after the wearers to be judged: the answer, and the wearers
pub ward-answered : (v : Verdict) (f : Wearer → ℕ) (ys : List Wearer)
    → so_far f (answer_of v) 0 ys (judged_of v (length ys)) ≡ answered_if v f ys
ward-answered (Ok _) f ys = so-far-all f 0 ys
ward-answered (Err r) f ys = refl

pub ward-filled : (v : Verdict) (f : Wearer → ℕ) (ys : List Wearer)
    → upto (λ y. with_verdict y (f y)) (judged_of v (length ys)) ys ≡ filled_if v f ys
ward-filled (Ok _) f ys = upto_all (λ y. with_verdict y (f y)) (length ys) ys (omega arith)
ward-filled (Err r) f ys = refl

-- where it is not refused all are
pub judged-all : (v : Verdict) (m : ℕ) → is_err v ≡ false → judged_of v m ≡ m
judged-all (Ok _) m e = refl
judged-all (Err r) m e = clash (cc)

-- the same of what is had where the call ends
module _ (v : Verdict) (f : Wearer → ℕ) (ys : List Wearer) (i : ℕ) (all : judged_of v (length ys) ≡ i) where
  pub answered-at : (r : Answer) → r ≡ so_far f (answer_of v) 0 ys i → r ≡ answered_if v f ys
  answered-at r q = rw (q, ← all) (ward-answered v f ys)

  pub filled-at : (zs : List Wearer) → zs ≡ upto (λ y. with_verdict y (f y)) i ys → zs ≡ filled_if v f ys
  filled-at zs q = rw (q, ← all) (ward-filled v f ys)
