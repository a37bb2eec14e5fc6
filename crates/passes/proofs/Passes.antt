-- Laws of a pass over its queue: arcs that are tried, entries that are visited, and what the pass leaves. Assumes nothing.
use mathlib.Core.Path.{◌≡◌, refl, sym, ap, subst, subst₂, ◌∙◌}
use Rattle.std.specs.Prelude.{Option, Some, None}
use Rattle.std.specs.Option.{IfSome, is_some}
use Rattle.std.proofs.lemmas.Option.{none-some}
use mathlib.Core.Bool.{true, false, true≢false, false≢true}
use mathlib.Core.List.{List}
use Prim.Native.Nat.{ℕ, ◌+◌, ◌*◌, ◌%◌, ◌≤◌, ◌<◌}
use native.Mathlib.Omega.{arith}
use native.Mathlib.Decide.{ℕ_discrete, dec_lt}
use lib.ListN.{length, get_or, set, replicate, get_or-replicate, get_or-eq_default}
use lib.Seq.{get_or-set_same, get_or-set_other}
use borrow.Author.Count.{below_more}
use Rattle.limits.specs.Ceilings.{work_words}
use Rattle.groups.specs.Grouped.{first_place, arc_placed, InGroup}
use Rattle.passes.specs.declared.pass.Closing.{Closing}
use Rattle.passes.specs.Pass.{Pass, Along, Ready, closes_at}
use Rattle.passes.specs.Queue.{node_at, charge_at, SomeEntry, Queue, Pushed, Arrived, closed, knows, rises, Grown, Covers}
use Rattle.passes.specs.Queue.{Tried, Visited, Begun, Treated, Passed}
use Rattle.passes.proofs.Queue.{along-unique, sum-set, set-low, push-queue, push-grown}

-- what the test of an option says
pub some-there : {A : Type 0} (r : Option A) → is_some r ≡ true → r ≡ None → ⊥
some-there None t e = false≢true t
some-there (Some x) t e = none-some x (sym e)

pub none-there : {A : Type 0} (r : Option A) → is_some r ≡ false → r ≡ None
none-there None t = refl
none-there (Some x) t = absurd (true≢false t)

-- a state is a later state of itself ..
grown-refl : (best w : List ℕ) (tail : ℕ) → Grown best w tail best w tail
grown-refl best w tail =
    record { more = omega arith; kept = λ j h. refl; up = λ v. omega arith; best_size = refl; size = refl }

-- .. and a later state of a later state is one
grown-trans : {b0 w0 b1 w1 b2 w2 : List ℕ} {t0 t1 t2 : ℕ} → Grown b0 w0 t0 b1 w1 t1 → Grown b1 w1 t1 b2 w2 t2 → Grown b0 w0 t0 b2 w2 t2
grown-trans g h =
    let m1 = g.more in
    let m2 = h.more in
    record {
      more = omega arith;
      kept = λ j l. h.kept j (omega arith) ∙ g.kept j l;
      up = λ v. omega (arith, g.up v, h.up v);
      best_size = h.best_size ∙ g.best_size;
      size = h.size ∙ g.size;
    }

-- an entry stays as it is
pub entry-same : {best w best' w' : List ℕ} {tail tail' : ℕ} (i : ℕ) → Grown best w tail best' w' tail' → i < tail
    → (node_at w' i ≡ node_at w i) × (charge_at w' i ≡ charge_at w i)
entry-same i g h = (g.kept (work_words * i) (omega arith), g.kept (work_words * i + 1) (omega arith))

-- what is covered stays covered as the table rises
covers_up : {P : Pass} {a v e : ℕ} (best best' : List ℕ) → ((u : ℕ) → get_or best u 0 ≤ get_or best' u 0) → Covers P best a v e
    → Covers P best' a v e
covers_up best best' up c = record { knows = λ u x s. omega (arith, c.knows u x s, up u); passes = c.passes }

-- an arc is covered by its one result
covers-step : {P : Pass} {a v e u x : ℕ} (best : List ℕ) → Along P a v e u x → x + 1 ≤ get_or best u 0
    → closes_at P.goal P.least u x ≡ false → Covers P best a v e
covers-step {P} {a} {v} {e} {u} {x} best s h c =
    record {
      knows = λ u' x' s'. omega (arith, h, (along-unique s s').1, ap (λ n. get_or best n 0) (along-unique s s').0);
      passes = λ u' x' s'. rw ((along-unique s s').0, (along-unique s s').1) c;
    }

-- an arc that is covered, in a later state
tried-covered : {P : Pass} {best w best' w' : List ℕ} {tail i v e tail' : ℕ} → Queue P best' w' tail' → Grown best w tail best' w' tail'
    → Covers P best' (arc_placed P.places i) v e → Tried P best w tail i (i + 1) v e best' w' None tail'
tried-covered {P} {best' = best'} {i = i} {v = v} {e = e} q g c =
    record {
      queue = q;
      grown = g;
      covers = λ off j lo hi. subst (λ n. Covers P best' (arc_placed P.places n) v e) {x = i} {y = j} (omega arith) c;
      closing = tt;
    }

-- what is done where an arc arrives is what trying it asks
pub arrived-tried : {P : Pass} {best w best' w' : List ℕ} {tail h i u x tail' : ℕ} {found : Option Closing} → Queue P best w tail → h < tail
    → Along P (arc_placed P.places i) (node_at w h) (charge_at w h) u x → u < length best
    → Arrived P.goal P.least best w tail u x h (arc_placed P.places i) best' w' found tail'
    → Tried P best w tail i (i + 1) (node_at w h) (charge_at w h) best' w' found tail'
arrived-tried {P} {best} {w} {tail = tail} {u = u} {x = x} q hh s hu (closed c eb ew eh et) =
    rw (eb, ew, eh, et)
    (record {
      queue = q;
      grown = grown-refl best w tail;
      covers = λ off. absurd (none-some _ (sym off));
      closing = record { node = u; charge = x; step = s; at_goal = c };
    })
arrived-tried {P} {best} {w} {tail = tail} q hh s hu (knows c known eb ew eh et) =
    rw (eb, ew, eh, et) (tried-covered q (grown-refl best w tail) (covers-step best s known c))
arrived-tried {P} {best} {w} {best'} {w'} {tail} {h} {i} {u} {x} q hh s hu (rises c up eb p eh et) =
    let a = arc_placed P.places i in
    rw (eb, eh, et)
    (tried-covered (push-queue P best w w' tail u x h a q p hh s hu up) (push-grown P best w w' tail u x h a q p hh s hu up)
    (covers-step (set best u (x + 1)) s (omega (arith, get_or-set_same best u (x + 1) 0 hu)) c))

-- the arc that is found was tried at that entry
pub arrived-entry : {goal least : ℕ} {best w best' w' : List ℕ} {tail u x h a tail' : ℕ} {found : Option Closing}
    → Arrived goal least best w tail u x h a best' w' found tail' → IfSome found (λ k. k.head ≡ h)
arrived-entry (closed c eb ew e et) = rw e refl
arrived-entry (knows c known eb ew e et) = rw e tt
arrived-entry (rises c up eb p e et) = rw e tt

-- an arc that is not possible asks nothing
pub tried-impossible : {P : Pass} {best w : List ℕ} {tail i v e : ℕ} → Queue P best w tail
    → ((u x : ℕ) → Along P (arc_placed P.places i) v e u x → ⊥)
    → Tried P best w tail i (i + 1) v e best w None tail
tried-impossible {P} {best} {w} {tail} q n =
    tried-covered q (grown-refl best w tail) (record { knows = λ u x s. absurd (n u x s); passes = λ u x s. absurd (n u x s) })

-- some arcs and then some more
pub tried-more : {P : Pass} {best w b1 w1 b2 w2 : List ℕ} {tail lo mid hi v e t1 t2 : ℕ} {found : Option Closing}
    → Tried P best w tail lo mid v e b1 w1 None t1 → Tried P b1 w1 t1 mid hi v e b2 w2 found t2
    → Tried P best w tail lo hi v e b2 w2 found t2
tried-more {P} {b1 = b1} {b2 = b2} {lo = lo} {mid = mid} {hi = hi} {v = v} {e = e} {found = found} s r =
    record {
      queue = r.queue;
      grown = grown-trans s.grown r.grown;
      covers = λ off i l h. go off i l h (dec_lt i mid);
      closing = r.closing;
    }
  where
    go : found ≡ None → (i : ℕ) → lo ≤ i → i < hi → Dec (i < mid) → Covers P b2 (arc_placed P.places i) v e
    go off i l h (yes lt) = covers_up b1 b2 r.grown.up (s.covers refl i l lt)
    go off i l h (no ge) = r.covers off i (omega arith) h

-- where an arc closes the cycle, the arcs after it need not be tried
pub tried-closed : {P : Pass} {best w best' w' : List ℕ} {tail lo hi v e tail' : ℕ} {found : Option Closing} (hi' : ℕ) → (found ≡ None → ⊥)
    → Tried P best w tail lo hi v e best' w' found tail' → Tried P best w tail lo hi' v e best' w' found tail'
tried-closed hi' on t = record { queue = t.queue; grown = t.grown; covers = λ off. absurd (on off); closing = t.closing }

-- fewer places
pub tried-less : {P : Pass} {best w best' w' : List ℕ} {tail lo hi hi' v e tail' : ℕ} {found : Option Closing} → hi' ≤ hi
    → Tried P best w tail lo hi v e best' w' found tail' → Tried P best w tail lo hi' v e best' w' found tail'
tried-less h t = record { queue = t.queue; grown = t.grown; covers = λ off i l q. t.covers off i l (omega arith); closing = t.closing }

-- where the places of an entry's mode are tried, every arc is: an arc that leaves another mode asks nothing
pub visited-tried : {P : Pass} {best w best' w' : List ℕ} {head tail tail' m size : ℕ} {found : Option Closing} → Ready P m size
    → Tried P best w tail (first_place P.places (node_at w head % P.net.modes)) (first_place P.places (node_at w head % P.net.modes + 1))
    (node_at w head) (charge_at w head) best' w' found tail'
    → Visited P best w tail head best' w' found tail'
visited-tried {P} {w = w} {best' = best'} {head = head} {found = found} ready t =
    record {
      queue = t.queue;
      grown = t.grown;
      covers =
          λ off e i.
          record {
            knows = λ u x s. (covered off i s.known s.allowed s.leaves).knows u x s;
            passes = λ u x s. (covered off i s.known s.allowed s.leaves).passes u x s;
          };
      closing = t.closing;
    }
  where
    covered : found ≡ None → (i : ℕ) → i < P.net.count → P.ok i ≡ true → P.net.graph.source i ≡ node_at w head % P.net.modes
        → Covers P best' i (node_at w head) (charge_at w head)
    covered off i known allowed leaves =
        let (j, p, e) = ready.grouped.placed i known (ready.allows i allowed) in
        let q : InGroup P.places (node_at w head % P.net.modes) j = rw leaves at p in
        rw e at (t.covers off j q.from q.below)

-- a table of zeros has 0 everywhere
zeros : (best : List ℕ) → best ≡ replicate (length best) 0 → (v : ℕ) → get_or best v 0 ≡ 0
zeros best blank v = go (dec_lt v (length best))
  where
    go : Dec (v < length best) → get_or best v 0 ≡ 0
    go (yes lt) = ap (λ b. get_or b v 0) blank ∙ get_or-replicate (length best) v 0 0 lt
    go (no ge) = get_or-eq_default best 0 (omega arith)

-- the queue of the first entry alone, with a table of zeros before it
pub treated-first : (P : Pass) (s c : ℕ) {best best' w w' : List ℕ} → best ≡ replicate (length best) 0 → s < length best → c ≤ P.bound
    → best' ≡ set best s (c + 1) → Pushed w 0 s c 0 0 w' → Treated P s c best' w' 0 1
treated-first P s c {best} {best'} {w} {w'} blank hs hc e p =
    subst (λ b. Treated P s c b w' 0 1) (sym e) (record {
      from =
          record {
            queue =
                record {
                  some = omega arith;
                  made = λ i h0 h1. absurd (omega arith);
                  held = λ v h. held v h (ℕ_discrete v s);
                  known = λ i h. known i (omega arith);
                  low = set-low P best s c hs (λ u. omega (arith, zeros best blank u)) hc;
                  counted = omega (arith, sum-set best s (c + 1) hs, zeros best blank s);
                };
            node = p.node;
            charge = p.charge;
            begun = omega (arith, same);
          };
      treated = λ i h. absurd (omega arith);
    })
  where
    same : get_or (set best s (c + 1)) s 0 ≡ c + 1
    same = get_or-set_same best s (c + 1) 0 hs

    known : (i : ℕ) → i ≡ 0 → charge_at w' i + 1 ≤ get_or (set best s (c + 1)) (node_at w' i) 0
    known i z =
        subst (λ n. charge_at w' n + 1 ≤ get_or (set best s (c + 1)) (node_at w' n) 0) (sym z)
        (rw (p.node, p.charge) (omega (arith, same)))

    held : (v : ℕ) → 0 < get_or (set best s (c + 1)) v 0 → Dec (v ≡ s) → SomeEntry w' 0 1 v (get_or (set best s (c + 1)) v 0)
    held v h (yes z) =
        let k : get_or (set best s (c + 1)) v 0 ≡ c + 1 = rw z same in
        let pc = p.charge in
        record { index = 0; from = omega arith; before = omega arith; node = p.node ∙ sym z; charge = omega arith }
    held v h (no ne) = absurd (omega (arith, get_or-set_other best s v (c + 1) 0 ne, zeros best blank v))

-- a queue stays one from its first entry as it grows
begun-grown : {P : Pass} {s c tail tail' : ℕ} {best w best' w' : List ℕ} → Begun P s c best w tail → Queue P best' w' tail'
    → Grown best w tail best' w' tail' → Begun P s c best' w' tail'
begun-grown {s = s} b q g =
    let (en, ec) = entry-same 0 g b.queue.some in
    record {
      queue = q;
      node = en ∙ b.node;
      charge = ec ∙ b.charge;
      begun = omega (arith, b.begun, g.up s);
    }

-- one entry more is treated
pub treated-more : {P : Pass} {s c head tail tail' : ℕ} {best w best' w' : List ℕ} {found : Option Closing} → found ≡ None
    → Treated P s c best w head tail → head < tail → Visited P best w tail head best' w' found tail'
    → Treated P s c best' w' (head + 1) tail'
treated-more {P} {head = head} {tail} {best = best} {w} {best'} {w'} off t h r =
    record {
      from = begun-grown t.from r.queue r.grown;
      treated =
          below_more
          (λ i. get_or best' (node_at w' i) 0 ≡ charge_at w' i + 1 → (n : ℕ) → Covers P best' n (node_at w' i) (charge_at w' i))
          head old (λ e n. move head h n (r.covers off (was head h e) n));
    }
  where
    move : (i : ℕ) → i < tail → (n : ℕ) → Covers P best' n (node_at w i) (charge_at w i) → Covers P best' n (node_at w' i) (charge_at w' i)
    move i hi n = let (en, ec) = entry-same i r.grown hi in subst₂ (λ v e. Covers P best' n v e) (sym en) (sym ec)

    was : (i : ℕ) → i < tail → get_or best' (node_at w' i) 0 ≡ charge_at w' i + 1 → get_or best (node_at w i) 0 ≡ charge_at w i + 1
    was i hi e =
        let (en, ec) = entry-same i r.grown hi in
        let e' : get_or best' (node_at w i) 0 ≡ charge_at w i + 1 = rw (en, ec) at e in
        omega (arith, r.grown.up (node_at w i), t.from.queue.known i hi)

    old : (i : ℕ) → i < head → get_or best' (node_at w' i) 0 ≡ charge_at w' i + 1 → (n : ℕ) → Covers P best' n (node_at w' i) (charge_at w' i)
    old i hi e n = move i (omega arith) n (covers_up best best' r.grown.up (t.treated i hi (was i (omega arith) e) n))

-- every entry is treated
pub passed-covered : {P : Pass} {s c head tail : ℕ} {best w : List ℕ} → Treated P s c best w head tail → tail ≤ head
    → Passed P s c best w None tail
passed-covered {P} {s} {c} {head} {tail} {best} {w} t h =
    record {
      from = t.from;
      covers = λ off. covers;
      before = tt;
      closing = tt;
    }
  where
    covers : (v x : ℕ) → get_or best v 0 ≡ x + 1 → (i : ℕ) → Covers P best i v x
    covers v x hv i =
        let n = t.from.queue.held v (omega arith) in
        let nb = n.before in
        let nc = n.charge in
        subst₂ (λ v e. Covers P best i v e) n.node (omega arith)
        (t.treated n.index (omega arith) (ap (λ k. get_or best k 0) n.node ∙ sym n.charge) i)
