-- The details of refusals 12, 13, 24 and 17: each is the first place where its condition holds. Assumes nothing.
use Rattle.std.specs.Prelude.{Err}
use mathlib.Core.Path.{◌≡◌, refl, sym, ap, ◌∙◌}
use mathlib.Core.Bool.{Bool, true, false, not, ◌||◌}
use mathlib.Core.List.{List, [], ◌∷◌}
use mathlib.Core.Logic.{◌↔◌}
use Prim.Native.Nat.{ℕ, zero, suc, ◌+◌, ◌-◌, ◌≤◌, ◌<◌}
use native.Mathlib.Nat.{sub_self, sub-zero, add-zero, add-suc}
use native.Mathlib.Omega.{arith}
use lib.Dec.{leb, eqb}
use lib.ListN.{length, get_or, take, drop}
use lib.Seq.{drop-cons, drop-length}
use Rattle.refusals.specs.declared.Refusal.TheVariants.{ArcNumber, OtherMode, MissingColour, BarredColour}
use Rattle.refusals.specs.Refusals.{Verdict, refuse}
use Rattle.refusals.proofs.Verdicts.{clash}
use Rattle.refusals.proofs.Scan.{FirstOf, Scan, scan-first}
use Rattle.model.specs.Automaton.{Automaton, arc_at, bit, meets, has_barred}
use Rattle.judge.specs.Shape.{numbers, chain, mode_after}
use Rattle.judge.specs.Colours.{some_arc, missing_from, barred_from, colours_of}

-- 12 is a scan of the positions
pub numbers-scan : (m : ℕ) (w : List ℕ) → Scan (λ j. leb m (get_or w j 0)) ArcNumber (length w) (λ k. numbers m (drop k w) k)
unfolding numbers
numbers-scan m w = record { turn = λ k h. rw (drop-cons w k 0 h) refl; ends = rw (drop-length w) refl; tells = λ x y e. cc }

-- 12 is answered with the first position whose arc number is not below m
pub numbers-first : (m : ℕ) (w : List ℕ) (d : ℕ) → (numbers m w 0 ≡ Err (ArcNumber d)) ↔ FirstOf (λ j. leb m (get_or w j 0)) (length w) d
numbers-first m w = scan-first _ ArcNumber (length w) (λ k. numbers m (drop k w) k) (numbers-scan m w)

-- the mode after the first arcs is the one that the last of them enters
mode-next : (g : Automaton) (s : ℕ) (w : List ℕ) (k : ℕ) → k < length w → mode_after g s (take (suc k) w) ≡ (arc_at g (get_or w k 0)).target
mode-next g s [] k h = absurd (omega arith)
mode-next g s (a ∷ w) zero h = refl
mode-next g s (a ∷ w) (suc k) h = mode-next g (arc_at g a).target w k (omega arith)

-- an arc leaves another mode than the one that the arcs before it lead to
abbrev pub leaves_other : Automaton → ℕ → List ℕ → ℕ → Bool
leaves_other g s w j = not (eqb (arc_at g (get_or w j 0)).source (mode_after g s (take j w)))

-- 13 is a scan of the positions
pub chain-scan : (g : Automaton) (s : ℕ) (w : List ℕ) → Scan (leaves_other g s w) OtherMode (length w) (λ k. chain g (mode_after g s (take k w)) (drop k w) k)
unfolding chain
chain-scan g s w =
    record { turn = λ k h. rw (drop-cons w k 0 h, mode-next g s w k h) refl; ends = rw (drop-length w) refl; tells = λ x y e. cc }

-- 13 is answered with the first position whose arc leaves another mode than the one that the arcs before it lead to
pub chain_first : (g : Automaton) (s : ℕ) (w : List ℕ) (d : ℕ) → (chain g s w 0 ≡ Err (OtherMode d)) ↔ FirstOf (leaves_other g s w) (length w) d
chain_first g s w = scan-first (leaves_other g s w) OtherMode (length w) (λ k. chain g (mode_after g s (take k w)) (drop k w) k) (chain-scan g s w)

-- 17 is a scan of the colours
pub missing-scan : (has : ℕ → Bool) (f : ℕ) → Scan (λ j. not (has j)) MissingColour f (λ k. missing_from has (f - k) k)
unfolding missing_from
missing-scan has f =
    record { turn = λ k h. let e : f - k ≡ suc (f - suc k) = omega arith in rw e refl; ends = rw (sub_self f) refl; tells = λ x y e. cc }

-- of f colours, the missing one that is answered is the lowest
pub missing-first : (has : ℕ → Bool) (f d : ℕ) → (missing_from has f 0 ≡ Err (MissingColour d)) ↔ FirstOf (λ j. not (has j)) f d
missing-first has f = rw (sub-zero f) at (scan-first (λ j. not (has j)) MissingColour f (λ k. missing_from has (f - k) k) (missing-scan has f))

-- 17 is answered with the lowest-numbered colour that is not barred and stands on no arc of the cycle: "17 and its detail pass over" the others
pub colour-first : (g : Automaton) (x : ℕ) (w : List ℕ) (d : ℕ) → (colours_of g x w ≡ Err (MissingColour d))
    ↔ FirstOf (λ j. not (bit x j || some_arc (meets g j) w)) g.colours d
unfolding colours_of
colour-first g x w = missing-first (λ j. bit x j || some_arc (meets g j) w) g.colours

-- 24 is a scan of the positions, counted from i
pub barred-scan : (g : Automaton) (x : ℕ) (w : List ℕ) (i : ℕ)
    → Scan (λ j. has_barred g x (get_or w j 0)) (λ j. BarredColour (i + j)) (length w) (λ k. barred_from g x (drop k w) (i + k))
unfolding barred_from
barred-scan g x w i =
    record {
      turn = λ k h. rw (drop-cons w k 0 h, add-suc i k) refl;
      ends = rw (drop-length w) refl;
      tells = λ m n e. let z : i + m ≡ i + n = cc in omega arith;
    }

-- no position before i is answered
barred-from : (g : Automaton) (x : ℕ) (w : List ℕ) (i e : ℕ) → barred_from g x w i ≡ Err (BarredColour e) → i ≤ e
unfolding barred_from
barred-from g x [] i e q = clash (cc)
barred-from g x (a ∷ w) i e q = go (has_barred g x a) q (barred-from g x w (suc i) e)
  where
    go : (t : Bool) → refuse t (BarredColour i) (barred_from g x w (suc i)) ≡ Err (BarredColour e)
        → (barred_from g x w (suc i) ≡ Err (BarredColour e) → suc i ≤ e) → i ≤ e
    go true q rest = let z : i ≡ e = cc in omega arith
    go false q rest = omega (arith, rest q)

-- 24 is answered "with the plan position of the round's first arc that has one": i and the place of the first arc that has a barred colour
pub barred-first : (g : Automaton) (x : ℕ) (w : List ℕ) (i e : ℕ) → (barred_from g x w i ≡ Err (BarredColour e))
    ↔ ((d : ℕ) × (e ≡ i + d) × FirstOf (λ j. has_barred g x (get_or w j 0)) (length w) d)
barred-first g x w i e = (
  λ q.
      let there : e ≡ i + (e - i) = omega (arith, barred-from g x w i e q) in
      (e - i, there, (first (e - i)).0 (q ∙ ap {B = Verdict} (λ (z : ℕ). Err (BarredColour z)) there)),
  λ (d, there, f). (first d).1 f ∙ ap {B = Verdict} (λ (z : ℕ). Err (BarredColour z)) (sym there),
)
  where
    first : (d : ℕ) → (barred_from g x w i ≡ Err (BarredColour (i + d))) ↔ FirstOf (λ j. has_barred g x (get_or w j 0)) (length w) d
    first =
        rw (add-zero i) at
        (scan-first (λ j. has_barred g x (get_or w j 0)) (λ j. BarredColour (i + j)) (length w) (λ k. barred_from g x (drop k w) (i + k)) (barred-scan g x w i))
