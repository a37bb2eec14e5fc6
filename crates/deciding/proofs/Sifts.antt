-- A set sifted, one word after the other. Assumes nothing.
use mathlib.Core.Path.{◌≡◌, refl, sym, ap, ◌∙◌}
use mathlib.Core.Bool.{Bool, true, false, false≢true, true≢false, ◌||◌}
use mathlib.Core.List.{List}
use mathlib.Core.Logic.{◌⊎◌, inl, inr, ⊎_elim}
use Prim.Native.Nat.{ℕ, ◌+◌, ◌≤◌, ◌<◌}
use native.Mathlib.Omega.{arith}
use native.Mathlib.Decide.{dec_le, ℕ_discrete}
use lib.Dec.{leb, ltb}
use lib.ListN.{length, set, length-set}
use lib.Seq.{get_or-set_same, get_or-set_other, set-get_or}
use borrow.Author.Tests.{leb-true, ltb-true, ltb-false}
use Rattle.passes.specs.Queue.{sum}
use Rattle.closing.specs.Closed.{word_if}
use Rattle.sets.specs.Sets.{sifted}
use Rattle.deciding.specs.declared.Sifting.{Sifting}
use Rattle.deciding.specs.declared.Sifting.TheVariants.{Empty, Same, Fewer}
use Rattle.deciding.specs.Deciding.{word, Sifted}
use Rattle.deciding.proofs.Words.{word-inside, set_sum}

-- what is sifted is the word or none
sifted-low : (x y : ℕ) → sifted x y ≤ x
sifted-low x y = go (leb x y)
  where
    go : (t : Bool) → word_if t x ≤ x
    go true = omega arith
    go false = omega arith

sifted-kept : (x y : ℕ) → x ≤ sifted x y → (sifted x y ≡ x) × (0 < x → x ≤ y)
sifted-kept x y h = go (leb x y) refl h
  where
    go : (t : Bool) → leb x y ≡ t → x ≤ word_if t x → (word_if t x ≡ x) × (0 < x → x ≤ y)
    go true q h = (refl, λ k. leb-true x y q)
    go false q h = (omega arith, λ k. absurd (omega arith))

-- the first v words are sifted
pub record SiftedTo (kept last kept' : List ℕ) (v : ℕ) (changed some : Bool) : Type 0 where
  pub within : v ≤ length kept
  pub size : length kept' ≡ length kept
  pub done : (i : ℕ) → i < v → word kept' i ≡ sifted (word kept i) (word last i)
  pub rest : (i : ℕ) → v ≤ i → word kept' i ≡ word kept i
  pub total : sum kept' ≤ sum kept
  pub same : changed ≡ false → (kept' ≡ kept) × ((i : ℕ) → i < v → word kept i ≤ word last i)
  pub fewer : changed ≡ true → sum kept' < sum kept
  pub left : some ≡ true → (i : ℕ) × (0 < word kept' i) × (i < v)
  pub none : some ≡ false → (i : ℕ) → i < v → word kept' i ≤ 0

pub sifted-to-none : (kept last : List ℕ) → SiftedTo kept last kept 0 false false
sifted-to-none kept last =
    record {
      within = omega arith;
      size = refl;
      done = λ i h. absurd (omega arith);
      rest = λ i h. refl;
      total = omega arith;
      same = λ h. (refl, λ i j. absurd (omega arith));
      fewer = λ h. absurd (false≢true h);
      left = λ h. absurd (false≢true h);
      none = λ h i j. absurd (omega arith);
    }

either-false : (p q r : Bool) → r ≡ p || q → r ≡ false → (p ≡ false) × (q ≡ false)
either-false true q r e h = absurd (true≢false (sym e ∙ h))
either-false false q r e h = (refl, sym e ∙ h)

either_true : (p q r : Bool) → r ≡ p || q → r ≡ true → (p ≡ true) ⊎ (q ≡ true)
either_true true q r e h = inl refl
either_true false q r e h = inr (sym e ∙ h)

pub sifted-to-more : {kept last : List ℕ} {v : ℕ} {changed some : Bool} (kept' : List ℕ) (y : ℕ) (changed' some' : Bool) → v < length kept'
    → SiftedTo kept last kept' v changed some → y ≡ sifted (word kept' v) (word last v)
    → changed' ≡ changed || ltb y (word kept' v) → some' ≡ some || ltb 0 y → SiftedTo kept last (set kept' v y) (v + 1) changed' some'
sifted-to-more {kept} {last} {v} {changed} {some} kept' y changed' some' hv k q e f =
    let here : word kept' v ≡ word kept v = k.rest v (omega arith) in
    let there : word (set kept' v y) v ≡ y = get_or-set_same kept' v y 0 hv in
    let low : y ≤ word kept' v = omega (arith, sifted-low (word kept' v) (word last v)) in
    let sums = set_sum kept' v y hv low in
    record {
      within = omega (arith, k.size);
      size = length-set kept' v y ∙ k.size;
      done = λ i h.
          elim (ℕ_discrete i v) [
            | yes z ↦ rw z (there ∙ q ∙ rw here refl)
            | no z ↦ get_or-set_other kept' v i y 0 z ∙ k.done i (omega arith)
          ];
      rest = λ i h. get_or-set_other kept' v i y 0 (λ z. omega arith) ∙ k.rest i (omega arith);
      total = omega (arith, sums.0, k.total);
      same = λ h.
          let (h0, h1) = either-false changed (ltb y (word kept' v)) changed' e h in
          let up : word kept' v ≤ y = ltb-false y (word kept' v) h1 in
          let keeps = sifted-kept (word kept' v) (word last v) (omega arith) in
          let y-same : y ≡ word kept' v = omega arith in (
            rw (y-same, set-get_or kept' v 0) (k.same h0).0,
            λ i j.
                elim (ℕ_discrete i v) [
                  | yes z ↦ rw z (below (word kept' v) (word kept v) (word last v) here keeps.1)
                  | no z ↦ (k.same h0).1 i (omega arith)
                ],
          );
      fewer = λ h.
          ⊎_elim
          (λ z. omega (arith, k.fewer z, sums.0))
          (λ z. omega (arith, k.total, sums.1 (ltb-true y (word kept' v) z)))
          (either_true changed (ltb y (word kept' v)) changed' e h);
      left = λ h.
          ⊎_elim
          (λ z.
          let (i, a, b) = k.left z in
          let o : word (set kept' v y) i ≡ word kept' i = get_or-set_other kept' v i y 0 (λ w. omega arith) in
          (i, omega arith, omega arith))
          (λ z. (v, omega (arith, ltb-true 0 y z), omega arith))
          (either_true some (ltb 0 y) some' f h);
      none = λ h i j.
          let (h0, h1) = either-false some (ltb 0 y) some' f h in
          elim (ℕ_discrete i v) [
            | yes z ↦ rw z (omega (arith, ltb-false 0 y h1))
            | no z ↦ omega (arith, get_or-set_other kept' v i y 0 z, k.none h0 i (omega arith))
          ];
    }
  where
    below : (x x' z : ℕ) → x ≡ x' → (0 < x → x ≤ z) → x' ≤ z
    below x x' z q h =
        elim (dec_le x' 0) [
          | yes i ↦ omega arith
          | no i ↦ omega (arith, h (omega arith))
        ]

-- all words are sifted
sifted_all : {kept last kept' : List ℕ} {v : ℕ} {changed some : Bool} (s : Sifting) → length last ≡ length kept → length kept ≤ v
    → (s ≡ Same → changed ≡ false) → (s ≡ Fewer → changed ≡ true) → ((s ≡ Empty → ⊥) → some ≡ true) → (s ≡ Empty → some ≡ false)
    → SiftedTo kept last kept' v changed some → Sifted kept last kept' s
sifted_all {kept} {last} {kept'} {v} {changed} {some} s z h same fewer left none k =
    record {
      words = λ i.
          elim (dec_le v i) [
            | yes q ↦ past i (k.rest i q) (omega (arith, sifted-low (word kept i) (word last i), out i q))
            | no q ↦ k.done i (omega arith)
          ];
      same = λ q.
          let e = same q in
          ((k.same e).0, λ i. elim (dec_le v i) [ yes u ↦ omega (arith, out i u) | no u ↦ (k.same e).1 i (omega arith) ]);
      fewer = λ q. k.fewer (fewer q);
      left = λ q. let (i, a, b) = k.left (left q) in (i, a);
      none = λ q i. elim (dec_le v i) [ yes u ↦ omega (arith, out i u, k.rest i u) | no u ↦ k.none (none q) i (omega arith) ];
    }
  where
    out : (i : ℕ) → v ≤ i → word kept i ≤ 0
    out i u =
        elim (dec_le (word kept i) 0) [
          | yes q ↦ q
          | no q ↦ absurd (omega (arith, word-inside kept i (omega arith)))
        ]

    past : (i : ℕ) → word kept' i ≡ word kept i → word kept i ≡ sifted (word kept i) (word last i) → word kept' i ≡ sifted (word kept i) (word last i)
    past i p q = p ∙ q

-- what sifting makes of a set, as a number
abbrev number : Sifting → ℕ
number Empty = 0
number Same = 1
number Fewer = 2

clash : (s t : Sifting) → (number s ≡ number t → ⊥) → s ≡ t → ⊥
clash s t n e = n (ap {B = ℕ} number e)

pub same-some : Same ≡ Empty → ⊥
same-some = clash Same Empty (λ e. omega arith)

module _ {kept last kept' : List ℕ} {v : ℕ} {changed some : Bool} (z : length last ≡ length kept) (h : length kept ≤ v) where
  pub sifted-empty : some ≡ false → SiftedTo kept last kept' v changed some → Sifted kept last kept' Empty
  sifted-empty q k =
      sifted_all Empty z h (λ e. absurd (clash Empty Same (λ i. omega arith) e)) (λ e. absurd (clash Empty Fewer (λ i. omega arith) e))
      (λ n. absurd (n refl)) (λ e. q) k

  pub sifted-fewer : some ≡ true → changed ≡ true → SiftedTo kept last kept' v changed some → Sifted kept last kept' Fewer
  sifted-fewer q r k =
      sifted_all Fewer z h (λ e. absurd (clash Fewer Same (λ i. omega arith) e)) (λ e. r) (λ n. q)
      (λ e. absurd (clash Fewer Empty (λ i. omega arith) e)) k

  pub sifted-same : some ≡ true → changed ≡ false → SiftedTo kept last kept' v changed some → Sifted kept last kept' Same
  sifted-same q r k =
      sifted_all Same z h (λ e. r) (λ e. absurd (clash Same Fewer (λ i. omega arith) e)) (λ n. q) (λ e. absurd (same-some e)) k
