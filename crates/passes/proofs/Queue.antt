-- Laws of the queue of a pass: it never overflows, and an entry that is added keeps its invariant. Assumes nothing.
use mathlib.Core.Path.{◌≡◌, refl, sym, ap, subst, ◌∙◌}
use mathlib.Core.Bool.{Bool, true, false, ◌&&◌}
use mathlib.Core.List.{List, [], ◌∷◌}
use Prim.Native.Nat.{ℕ, zero, suc, ◌+◌, ◌*◌, ◌/◌, ◌%◌, ◌≤◌, ◌<◌}
use native.Mathlib.Omega.{arith}
use native.Mathlib.Nat.{suc-mul, le-mul_of_pos_right, mod-lt, div-lt_iff_lt-mul}
use native.Mathlib.Decide.{ℕ_discrete, dec_lt}
use lib.Dec.{ltb}
use lib.ListN.{length, get_or, set, length-set, get_or-eq_default}
use lib.Seq.{get_or-set_same, get_or-set_other}
use borrow.Author.Tests.{ltb-true}
use Rattle.limits.specs.Ceilings.{work_words}
use Rattle.nets.specs.Table.{raised_if, next}
use Rattle.nets.proofs.Pigeonhole.{paired-bound}
use Rattle.passes.specs.Pass.{Pass, Along, Ready, node, room}
use Rattle.passes.specs.Queue.{word_count, node_at, charge_at, parent_at, sum, Made, SomeEntry, Queue, Pushed, Arrives, Grown}

-- a step leads no higher than the bound
pub along-low : {P : Pass} {a v e u x : ℕ} → Along P a v e u x → x ≤ P.bound
along-low s = omega (arith, s.left)

-- a step has one result
pub along-unique : {P : Pass} {a v e u x u' x' : ℕ} → Along P a v e u x → Along P a v e u' x' → (u' ≡ u) × (x' ≡ x)
along-unique s s' = (s'.enters ∙ sym s.enters, s'.left ∙ sym s.left)

-- equal numbers make equal steps
along-cast : {P : Pass} {a a' v v' e e' u u' x x' : ℕ} → a ≡ a' → v ≡ v' → e ≡ e' → u ≡ u' → x ≡ x' → Along P a v e u x
    → Along P a' v' e' u' x'
along-cast {P} {a} {a'} {v} {v'} {e} {e'} {u} {u'} {x} {x'} pa pv pe pu px s =
    subst (λ n. Along P n v' e' u' x') pa
    (subst (λ n. Along P a n e' u' x') pv
    (subst (λ n. Along P a v n u' x') pe
    (subst (λ n. Along P a v e n x') pu
    (subst (λ n. Along P a v e u n) px s))))

-- the level and the mode of a node of the pass
pub node-levels : {P : Pass} {m size v : ℕ} → Ready P m size → v < m → (v / P.net.modes ≤ P.last) × (v % P.net.modes < P.net.modes)
unfolding node
node-levels {P} {m} {size} {v} r h =
    let t = r.table in
    let below : v / P.net.modes < suc P.last = (div-lt_iff_lt-mul r.some-mode).1 (omega arith) in
    (omega arith, mod-lt v r.some-mode)

-- no arc leads above the last level
pub raised-low : (last l : ℕ) (t : Bool) → l ≤ last → raised_if (ltb l last && t) l ≤ last
raised-low last l t h = go (ltb l last) t refl
  where
    go : (s t : Bool) → ltb l last ≡ s → raised_if (s && t) l ≤ last
    go true true p = omega (arith, ltb-true l last p)
    go true false p = h
    go false t p = h

-- from a node of the pass an arc leads to a node of it
pub along-inside : {P : Pass} {m size a v e u x : ℕ} → Ready P m size → v < m → Along P a v e u x → u < m
unfolding node
along-inside {P} {m} {size} {a} {v} r h s =
    let n = P.net.modes in
    let l = next P.net P.last (v / n) a in
    let low = raised-low P.last (v / n) (P.net.meets (v / n) a) (node-levels r h).0 in
    let inside = paired-bound (suc P.last) n l (P.net.graph.target a) (omega arith) (r.targets a s.known (r.allows a s.allowed)) in
    omega (arith, s.enters, r.table)

-- one store moves the sum by the difference
pub sum-set : (l : List ℕ) (i v : ℕ) → i < length l → sum (set l i v) + get_or l i 0 ≡ sum l + v
unfolding sum
sum-set [] i v h = omega arith
sum-set (x ∷ xs) zero v h = omega arith
sum-set (x ∷ xs) (suc i) v h = let ih = sum-set xs i v (omega arith) in omega arith

-- words up to y add up to no more than y for each
pub sum-le : (l : List ℕ) (y : ℕ) → ((v : ℕ) → get_or l v 0 ≤ y) → sum l ≤ length l * y
unfolding sum
sum-le [] y h = omega arith
sum-le (x ∷ xs) y h = let ih = sum-le xs y (λ v. h (suc v)) in omega (arith, h 0, suc-mul (length xs) y)

-- the queue never has more entries than there are pairs of a node and a charge
pub queue-room : {P : Pass} {best w : List ℕ} {tail : ℕ} → Queue P best w tail → tail ≤ room (length best) P.bound
unfolding room
queue-room {P} {best} q = omega (arith, q.counted, sum-le best (P.bound + 1) q.low)

-- there are no fewer such pairs than nodes
room_most : (m b : ℕ) → m ≤ room m b
unfolding room
room_most m b = le-mul_of_pos_right m (omega arith)

-- the node and the charge of an entry are within the table and the bound
pub entry-low : {P : Pass} {best w : List ℕ} {tail : ℕ} (i : ℕ) → Queue P best w tail → i < tail
    → (node_at w i < length best) × (charge_at w i ≤ P.bound)
entry-low {P} {best} {w} {tail} i q h = (go (dec_lt (node_at w i) (length best)), omega (arith, q.known i h, q.low (node_at w i)))
  where
    go : Dec (node_at w i < length best) → node_at w i < length best
    go (yes lt) = lt
    go (no ge) = absurd (omega (arith, q.known i h, get_or-eq_default best 0 {n = node_at w i} (omega arith)))

-- an entry stands within the working space, and its number is a word
pub entry-space : {P : Pass} {best w : List ℕ} {tail : ℕ} (i : ℕ) → Ready P (length best) (length w) → Queue P best w tail → i < tail
    → (work_words * i + work_words ≤ length w) × (i < word_count)
entry-space i r q h = (omega (arith, r.space, queue-room q), omega (arith, r.small, queue-room q))

-- a charge up to the bound keeps the table low
pub set-low : (P : Pass) (best : List ℕ) (v x : ℕ) → v < length best → ((u : ℕ) → get_or best u 0 ≤ P.bound + 1) → x ≤ P.bound
    → (u : ℕ) → get_or (set best v (x + 1)) u 0 ≤ P.bound + 1
set-low P best v x hv low hx u = go (ℕ_discrete u v)
  where
    go : Dec (u ≡ v) → get_or (set best v (x + 1)) u 0 ≤ P.bound + 1
    go (yes e) =
        let s : get_or (set best v (x + 1)) u 0 ≡ x + 1 = rw e (get_or-set_same best v (x + 1) 0 hv) in
        omega arith
    go (no ne) = omega (arith, get_or-set_other best v u (x + 1) 0 ne, low u)

-- where the table can rise, there is room for one entry more ..
next-room : {P : Pass} {best w : List ℕ} {tail : ℕ} (v x : ℕ) → Queue P best w tail → v < length best → get_or best v 0 < x + 1 → x ≤ P.bound
    → tail + 1 ≤ room (length best) P.bound
unfolding room
next-room {P} {best} v x q hv up hx =
    omega (
      arith,
      q.counted,
      sum-set best v (x + 1) hv,
      simp length-set at (sum-le (set best v (x + 1)) (P.bound + 1) (set-low P best v x hv q.low hx)),
    )

-- .. and all numbers there fit their words
pub queue-arrives : {P : Pass} {best w : List ℕ} {tail h a v e u x : ℕ} → Ready P (length best) (length w) → Queue P best w tail → h < tail
    → u < length best → Along P a v e u x → Arrives best w tail u x h a
queue-arrives {P} {best} {w} {tail} {h} {a} {v} {e} {u} {x} r q hh hu s =
    let low = along-low s in
    record {
      inside = hu;
      few = omega (arith, r.small, room_most (length best) P.bound);
      low = omega (arith, r.low);
      parent = omega (arith, r.small, queue-room q);
      number = omega (arith, r.few_arcs, s.known);
      room = λ up. omega (arith, r.space, next-room u x q hu up low);
    }

-- where the entries before tail are kept, one that follows from an earlier one still does ..
made_kept : {P : Pass} {w w' : List ℕ} {i tail : ℕ}
    → ((j : ℕ) → j < work_words * tail → get_or w' j 0 ≡ get_or w j 0) → i < tail → Made P w i → Made P w' i
made_kept {P} {w} {w'} {i} {tail} kept h m =
    let back = m.back in
    let kp = kept (work_words * i + 2) (omega arith) in
    let p2 = kept (work_words * parent_at w i) (omega arith) in
    let p3 = kept (work_words * parent_at w i + 1) (omega arith) in
    record {
      back = omega arith;
      step =
          along-cast (sym (kept (work_words * i + 3) (omega arith))) (cc) (cc) (sym (kept (work_words * i) (omega arith)))
          (sym (kept (work_words * i + 1) (omega arith)))
          m.step;
    }

-- .. and an entry for a node and its charge is still there
entry_kept : {w w' : List ℕ} {i tail tail' v y : ℕ}
    → ((j : ℕ) → j < work_words * tail → get_or w' j 0 ≡ get_or w j 0) → tail ≤ tail' → SomeEntry w i tail v y → SomeEntry w' i tail' v y
entry_kept kept h m =
    let before = m.before in
    let charge = m.charge in
    record {
      index = m.index;
      from = m.from;
      before = omega arith;
      node = kept (work_words * m.index) (omega arith) ∙ m.node;
      charge = omega (arith, kept (work_words * m.index + 1) (omega arith));
    }

-- a word of the table that rises, and an entry for it, keep the invariant
module _ (P : Pass) (best w w' : List ℕ) (tail v x h a : ℕ) (q : Queue P best w tail) (p : Pushed w tail v x h a w') (hh : h < tail)
    (s : Along P a (node_at w h) (charge_at w h) v x) (hv : v < length best) (up : get_or best v 0 < x + 1) where
  push-made-new : Made P w' tail
  push-made-new =
      let e1 = p.parent in
      let e2 = p.kept (work_words * h) (omega arith) in
      let e3 = p.kept (work_words * h + 1) (omega arith) in
      record { back = omega arith; step = along-cast (sym p.number) (cc) (cc) (sym p.node) (sym p.charge) s }

  push-made : (i : ℕ) → 0 < i → i < tail + 1 → Made P w' i
  push-made i h0 hi = go (ℕ_discrete i tail)
    where
      go : Dec (i ≡ tail) → Made P w' i
      go (yes e) = subst (λ n. Made P w' n) (sym e) push-made-new
      go (no ne) = made_kept p.kept (omega arith) (q.made i h0 (omega arith))

  push-held : (u : ℕ) → 0 < get_or (set best v (x + 1)) u 0 → SomeEntry w' 0 (tail + 1) u (get_or (set best v (x + 1)) u 0)
  push-held u hu = go (ℕ_discrete u v)
    where
      go : Dec (u ≡ v) → SomeEntry w' 0 (tail + 1) u (get_or (set best v (x + 1)) u 0)
      go (yes e) =
          let k : get_or (set best v (x + 1)) u 0 ≡ x + 1 = rw e (get_or-set_same best v (x + 1) 0 hv) in
          let c = p.charge in
          record { index = tail; from = omega arith; before = omega arith; node = p.node ∙ sym e; charge = omega arith }
      go (no ne) =
          let k : get_or (set best v (x + 1)) u 0 ≡ get_or best u 0 = get_or-set_other best v u (x + 1) 0 ne in
          rw k (entry_kept p.kept (omega arith) (q.held u (omega arith)))

  push-up : (u : ℕ) → get_or best u 0 ≤ get_or (set best v (x + 1)) u 0
  push-up u = go (ℕ_discrete u v)
    where
      go : Dec (u ≡ v) → get_or best u 0 ≤ get_or (set best v (x + 1)) u 0
      go (yes e) =
          let k : get_or (set best v (x + 1)) u 0 ≡ x + 1 = rw e (get_or-set_same best v (x + 1) 0 hv) in
          let k2 : get_or best u 0 ≡ get_or best v 0 = ap (λ n. get_or best n 0) e in
          omega arith
      go (no ne) = omega (arith, get_or-set_other best v u (x + 1) 0 ne)

  push-known : (i : ℕ) → i < tail + 1 → charge_at w' i + 1 ≤ get_or (set best v (x + 1)) (node_at w' i) 0
  push-known i hi = go (ℕ_discrete i tail)
    where
      go : Dec (i ≡ tail) → charge_at w' i + 1 ≤ get_or (set best v (x + 1)) (node_at w' i) 0
      go (yes e) =
          subst (λ n. charge_at w' n + 1 ≤ get_or (set best v (x + 1)) (node_at w' n) 0) (sym e)
          (rw (p.node, p.charge) (omega (arith, get_or-set_same best v (x + 1) 0 hv)))
      go (no ne) =
          rw (p.kept (work_words * i) (omega arith), p.kept (work_words * i + 1) (omega arith))
          (omega (arith, q.known i (omega arith), push-up (node_at w i)))

  -- the invariant of the new state ..
  pub push-queue : Queue P (set best v (x + 1)) w' (tail + 1)
  push-queue =
      record {
        some = omega arith;
        made = push-made;
        held = push-held;
        known = push-known;
        low = set-low P best v x hv q.low (along-low s);
        counted = omega (arith, q.counted, sum-set best v (x + 1) hv);
      }

  -- .. which is a later one
  pub push-grown : Grown best w tail (set best v (x + 1)) w' (tail + 1)
  push-grown = record { more = omega arith; kept = p.kept; up = push-up; best_size = simp length-set; size = p.size }

-- a table and a working space of the same sizes are as ready
pub ready-kept : {P : Pass} {m size m' size' : ℕ} → Ready P m size → m' ≡ m → size' ≡ size → Ready P m' size'
ready-kept r em es = rw (em, es) r

-- there is a node, and room for the first entry
pub ready-some : {P : Pass} {m size : ℕ} → Ready P m size → (0 < m) × (m ≤ word_count) × (work_words ≤ size)
unfolding node
ready-some {P} {m} r =
    let most = room_most m P.bound in
    let some : 0 < m = omega (arith, r.table, r.some-mode, suc-mul P.last P.net.modes) in
    (some, omega (arith, r.small), omega (arith, r.space))
