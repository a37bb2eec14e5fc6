-- Laws of the arcs that are read back: their number, how they are written from the last to the first, that a queue can be read; and of the
-- search for an entry. Assumes nothing.
use mathlib.Core.Path.{◌≡◌, refl, sym, ap, subst, subst₂, ◌∙◌}
use mathlib.Core.List.{List, ◌∷◌}
use Prim.Native.Nat.{ℕ, suc, ◌+◌, ◌-◌, ◌≤◌, ◌<◌}
use native.Mathlib.Omega.{arith}
use native.Mathlib.Numerals.{add-one}
use lib.ListN.{length, set, take, drop, length-set}
use lib.Seq.{get_or-set_same, slice, slice-cons, slice_empty, drop-set-lt, take-set-lt}
use Rattle.passes.specs.Pass.{Pass, Ready}
use Rattle.passes.specs.Queue.{parent_at, number_at, Queue}
use Rattle.passes.specs.Trace.{Linked, Chain, root, link, Traced, here, there, Wrote}
use Rattle.passes.proofs.Queue.{entry-space}

-- no more parents than the entry's number
pub chain-le : {w : List ℕ} {i j d : ℕ} → Linked w i → Chain w j d → j ≤ i → d ≤ j
chain-le l root h = omega arith
chain-le {j = j} l (link {p = p} {d = d} pos e k) h =
    let b = l.back j pos h in
    let r = chain-le l k (omega arith) in
    omega arith

-- the first entry alone has no parent
chain-zero : {w : List ℕ} {j d : ℕ} → Chain w j d → d ≡ 0 → j ≡ 0
chain-zero root e = refl
chain-zero (link pos e k) z = absurd (omega arith)

chain-some : {w : List ℕ} {j d : ℕ} → Chain w j d → 0 < d → 0 < j
chain-some root h = absurd (omega arith)
chain-some (link pos e k) h = pos

-- one parent fewer from the parent
chain_next : {w : List ℕ} {j d : ℕ} → Chain w j d → 0 < j → (k : ℕ) × (d ≡ k + 1) × Chain w (parent_at w j) k
chain_next root h = absurd (omega arith)
chain_next {w} (link {d = d} pos e k) h = (d, sym (add-one d), subst (λ p. Chain w p d) e k)

-- one parent more than from the parent
pub chain_more : {w : List ℕ} {j d : ℕ} → 0 < j → Chain w (parent_at w j) d → Chain w j (d + 1)
chain_more {w} {j} {d} h k = subst (λ n. Chain w j n) (sym (add-one d)) (link h refl k)

-- a byte stored before a part
slice_set : (l : List ℕ) (f t v : ℕ) → f < t → t ≤ length l → slice f t (set l f v) ≡ v ∷ slice (f + 1) t l
slice_set l f t v h k =
    slice-cons f t (set l f v) 0 h (simp length-set k)
    ∙ both (get_or-set_same l f v 0 (omega arith))
    (ap (λ m. drop (suc f) m) (take-set-lt t l f v h)
    ∙ drop-set-lt (suc f) (take t l) f v (omega arith)
    ∙ ap (λ n. drop n (take t l)) (sym (add-one f)))
  where
    both : {x y : ℕ} {s r : List ℕ} → x ≡ y → s ≡ r → ◌≡◌ {A = List ℕ} (x ∷ s) (y ∷ r)
    both p q = cc

-- While the arcs are written from the last to the first: those from entry j on stand from byte at on.
pub record Tracing (w : List ℕ) (i len : ℕ) (plan₀ plan : List ℕ) (j at : ℕ) : Type 0 where
  pub inside : j ≤ i
  pub within : at ≤ len
  pub size : length plan ≡ length plan₀
  pub chain : Chain w j at
  pub arcs : Traced w i j (slice at len plan)
  pub later : drop len plan ≡ drop len plan₀

-- before the first store
pub tracing-none : (w : List ℕ) (i len : ℕ) (plan : List ℕ) → Chain w i len → Tracing w i len plan plan i len
tracing-none w i len plan c =
    record {
      inside = omega arith;
      within = omega arith;
      size = refl;
      chain = c;
      arcs = rw slice_empty (here refl);
      later = refl;
    }

-- the arc of entry j is stored
pub tracing-more : {w : List ℕ} {i len j at : ℕ} {plan₀ plan : List ℕ} (v p : ℕ) → Linked w i → len ≤ length plan₀
    → Tracing w i len plan₀ plan j at → 0 < j → v ≡ number_at w j → p ≡ parent_at w j → Tracing w i len plan₀ (set plan (at - 1) v) p (at - 1)
tracing-more {w} {i} {len} {j} {at} {plan₀} {plan} v p l fits t pos ev ep = go (chain_next t.chain pos)
  where
    go : (k : ℕ) × (at ≡ k + 1) × Chain w (parent_at w j) k → Tracing w i len plan₀ (set plan (at - 1) v) p (at - 1)
    go r =
        let k = r.0 in
        let e = r.1 in
        let size = t.size in
        let within = t.within in
        let inside = t.inside in
        let e1 : at - 1 ≡ k = omega arith in
        rw e1 (record {
          inside = omega (arith, l.back j pos inside);
          within = omega arith;
          size = simp length-set size;
          chain = rw ep r.2;
          arcs =
              rw (slice_set plan k len v (omega arith) (omega arith))
              (there pos ep ev (subst (λ n. Traced w i j (slice n len plan)) e t.arcs));
          later = drop-set-lt len plan k v (omega arith) ∙ t.later;
        })

-- every arc is stored
pub tracing-all : {w : List ℕ} {i len j at : ℕ} {plan₀ plan : List ℕ} → Linked w i → Chain w i len → Tracing w i len plan₀ plan j at → at ≡ 0
    → Wrote w i plan₀ plan len
tracing-all {w} {i} {len} {j} {at} {plan₀} {plan} l c t z =
    let e : j ≡ 0 = chain-zero t.chain z in
    record {
      few = chain-le l c (omega arith);
      arcs = subst₂ (λ a b. Traced w i a (slice b len plan)) e z t.arcs;
      later = t.later;
    }

-- while a byte is left, the entry has a parent
pub tracing-some : {w : List ℕ} {i len j at : ℕ} {plan₀ plan : List ℕ} → Tracing w i len plan₀ plan j at → 0 < at → 0 < j
tracing-some t h = chain-some t.chain h

-- the entries of a queue can be read back
pub queue-linked : {P : Pass} {best w : List ℕ} {tail i : ℕ} → Ready P (length best) (length w) → Queue P best w tail → i < tail
    → Linked w i
queue-linked {i = i} r q h =
    record {
      space = (entry-space i r q h).0;
      back = λ j h0 h1. (q.made j h0 (omega arith)).back;
      byte = λ j h0 h1. omega (arith, (q.made j h0 (omega arith)).step.known, r.few_arcs);
    }

module _ (w : List ℕ) (tail : ℕ) (back : (i : ℕ) → 0 < i → i < tail → parent_at w i < i) where
  -- the entries that lead to entry i stand before it
  pub traced-le : {i j : ℕ} {arcs : List ℕ} → i < tail → Traced w i j arcs → j ≤ i
  traced-le h (here e) = omega arith
  traced-le h (there {j = j} pos ep ea t) =
      let q = traced-le h t in
      omega (arith, back j pos (omega arith))
