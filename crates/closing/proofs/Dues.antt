-- A level closed mode by mode: where no mode is due the level is closed, and until then the words of the modes tried rise. Assumes nothing.
use mathlib.Core.Path.{◌≡◌, refl, sym, ap, ◌∙◌}
use mathlib.Core.Bool.{Bool, true, false, false≢true, true≢false, ◌||◌}
use mathlib.Core.List.{List}
use Prim.Native.Nat.{ℕ, suc, ◌+◌, ◌-◌, ◌*◌, ◌≤◌, ◌<◌}
use native.Mathlib.Omega.{arith}
use native.Mathlib.Decide.{ℕ_discrete, dec_le}
use lib.ListN.{length, get_or, set, replicate, length-set, get_or-eq_default}
use lib.Seq.{get_or-set_same, get_or-set_other}
use Rattle.passes.specs.Queue.{sum}
use Rattle.passes.proofs.Queue.{sum-set, sum-le}
use Rattle.closing.specs.Stratum.{Stratum, graph_of, Staying}
use Rattle.closing.specs.Tables.{Low, Attained, Risen, Covered, Expanded, Closing, Rounded, Turned, Closable, Closes}
use Rattle.closing.proofs.Raised.{spread-here}
use Rattle.closing.proofs.Lifts.{zeros}
use Rattle.closing.proofs.Climbs.{risen-none, risen-more, workable-kept}
use Rattle.closing.proofs.Tries.{covered-unreached, covered-up, covered-lower}

-- nothing is tried yet
pub closing-none : (S : Stratum) (best later done : List ℕ) (n m : ℕ) → later ≡ replicate n 0 → done ≡ replicate m 0 → Closing S best best later done
closing-none S best later done n m q p =
    let z : (v : ℕ) → ◌≡◌ {A = ℕ} (get_or done v 0) 0 = λ v. ap (λ (w : List ℕ). get_or w v 0) p ∙ zeros m v in
    record {
      rise = risen-none S best;
      attained_later = λ from h.
          record {
            walks = λ t x i.
                let z : ◌≡◌ {A = ℕ} 0 (suc x) = sym (zeros n t) ∙ sym (ap (λ (w : List ℕ). get_or w t 0) q) ∙ i in
                absurd (omega arith);
          };
      covers = λ a. covered-unreached S best later a (get_or done ((graph_of S).source a) 0) (z ((graph_of S).source a));
      tried = λ v. omega (arith, z v);
    }

-- the arcs of mode v are tried
pub closing-expanded : {S : Stratum} {v : ℕ} {b0 b1 l1 b2 l2 : List ℕ} (done : List ℕ) → v < length done → Closing S b0 b1 l1 done
    → Expanded S v b1 l1 b2 l2 → Closing S b0 b2 l2 (set done v (get_or b1 v 0))
closing-expanded {S} {v} {b0} {b1} {l1} {b2} {l2} done hv k e =
    let same = get_or-set_same done v (get_or b1 v 0) 0 hv in
    record {
      rise = risen-more b0 b1 b2 k.rise e.rise;
      attained_later = λ from h. e.rise_later.attained from (k.rise.attained from h) (k.attained_later from h);
      covers = λ a.
          elim (ℕ_discrete ((graph_of S).source a) v) [
            | yes q ↦ rw (q, same) (e.covers a q)
            | no q ↦
                rw (get_or-set_other done v ((graph_of S).source a) (get_or b1 v 0) 0 q)
                (covered-up b1 l1 b2 l2 e.rise.up e.rise_later.up (k.covers a))
          ];
      tried = λ u.
          elim (ℕ_discrete u v) [
            | yes q ↦ rw (q, same) (e.rise.up v)
            | no q ↦ rw (get_or-set_other done v u (get_or b1 v 0) 0 q) (omega (arith, k.tried u, e.rise.up u))
          ];
    }

-- loops are raised
pub closing-risen : {S : Stratum} {b0 b1 later done : List ℕ} (b2 : List ℕ) → Closing S b0 b1 later done → Risen S b1 b2 → Closing S b0 b2 later done
closing-risen {b0 = b0} {b1 = b1} {later = later} b2 k r =
    record {
      rise = risen-more b0 b1 b2 k.rise r;
      attained_later = k.attained_later;
      covers = λ a. covered-up b1 later b2 later r.up (λ v. omega arith) (k.covers a);
      tried = λ v. omega (arith, k.tried v, r.up v);
    }

-- no mode is due: the level is closed
pub closing-done : {S : Stratum} {b0 best later : List ℕ} (done : List ℕ) → Low S b0 → Closing S b0 best later done
    → ((v : ℕ) → get_or best v 0 ≤ get_or done v 0) → Closes S b0 best later
closing-done {S} {b0} {best} {later} done low k due =
    let r = k.rise in
    let from : ℕ → ℕ = λ v. get_or b0 v 0 in
    let h : Attained S from b0 = record { walks = λ u x p. spread-here (graph_of S) (Staying S) S.numbers.bound from u x p } in
    let t : (a : ℕ) → Covered S best later a (get_or best ((graph_of S).source a) 0) =
    λ a. covered-lower (get_or best ((graph_of S).source a) 0) (get_or done ((graph_of S).source a) 0) (due ((graph_of S).source a)) (k.covers a)
    in
    record {
      closed =
          record {
            begins = r.up;
            stays = λ a x o p d. (t a).stays x o p d;
            leaves = λ a x o p d. (t a).leaves x o p d;
            attained = (r.attained from h).walks;
            attained_later = (k.attained_later from h).walks;
          };
      size = r.size;
      low = r.low low;
    }

-- no mode visited
pub rounded-none : (S : Stratum) (lo : ℕ) (best later done : List ℕ) → Rounded S lo lo best later done best later done false
rounded-none S lo best later done =
    record {
      rise = risen-none S best;
      size_later = refl;
      size_done = refl;
      keeps = λ b0 k. k;
      total = omega arith;
      more = λ h. absurd (false≢true h);
      quiet = λ h. (refl, refl);
      settled = λ h v i j. absurd (omega arith);
    }

-- a mode that is not due
pub rounded-idle : (S : Stratum) (v : ℕ) (best later done : List ℕ) → get_or best v 0 ≤ get_or done v 0
    → Rounded S v (v + 1) best later done best later done false
rounded-idle S v best later done q =
    record {
      rise = risen-none S best;
      size_later = refl;
      size_done = refl;
      keeps = λ b0 k. k;
      total = omega arith;
      more = λ h. absurd (false≢true h);
      quiet = λ h. (refl, refl);
      settled = λ h u i j. let e : u ≡ v = omega arith in rw e q;
    }

-- a mode that is due, with its arcs tried
pub rounded-due : {S : Stratum} {v : ℕ} {b1 l1 b2 l2 : List ℕ} (done : List ℕ) → v < length done → get_or done v 0 < get_or b1 v 0
    → Expanded S v b1 l1 b2 l2 → Rounded S v (v + 1) b1 l1 done b2 l2 (set done v (get_or b1 v 0)) true
rounded-due {S} {v} {b1} {l1} {b2} {l2} done hv q e =
    let m : sum done < sum (set done v (get_or b1 v 0)) = omega (arith, sum-set done v (get_or b1 v 0) hv) in
    record {
      rise = e.rise;
      size_later = e.rise_later.size;
      size_done = length-set done v (get_or b1 v 0);
      keeps = λ b0 k. closing-expanded done hv k e;
      total = omega arith;
      more = λ h. m;
      quiet = λ h. absurd (true≢false h);
      settled = λ h. absurd (true≢false h);
    }

either-false : (p q : Bool) → p || q ≡ false → (p ≡ false) × (q ≡ false)
either-false true q h = absurd (true≢false h)
either-false false q h = (refl, h)

-- modes visited, and one more
pub rounded-more : {S : Stratum} {lo mid hi : ℕ} {b0 l0 d0 b1 l1 d1 b2 l2 d2 : List ℕ} (p q r : Bool) → Rounded S lo mid b0 l0 d0 b1 l1 d1 p
    → Rounded S mid hi b1 l1 d1 b2 l2 d2 q → r ≡ p || q → Rounded S lo hi b0 l0 d0 b2 l2 d2 r
rounded-more {S} {lo} {mid} {hi} {b0} {l0} {d0} {b1} {l1} {d1} {b2} {l2} {d2} p q r k l e =
    record {
      rise = risen-more b0 b1 b2 k.rise l.rise;
      size_later = l.size_later ∙ k.size_later;
      size_done = l.size_done ∙ k.size_done;
      keeps = λ b h. l.keeps b (k.keeps b h);
      total = omega (arith, k.total, l.total);
      more = go p q k l e;
      quiet = λ z.
          let (i, j) = either-false p q (sym e ∙ z) in
          ((l.quiet j).0 ∙ (k.quiet i).0, (l.quiet j).1 ∙ (k.quiet i).1);
      settled = λ z v u w.
          let (i, j) = either-false p q (sym e ∙ z) in
          let (s, t) = l.quiet j in
          elim (dec_le mid v) [
            | yes h ↦ l.settled j v h w
            | no h ↦ rw (s, t) (k.settled i v u (omega arith))
          ];
    }
  where
    go : (p q : Bool) → Rounded S lo mid b0 l0 d0 b1 l1 d1 p → Rounded S mid hi b1 l1 d1 b2 l2 d2 q → r ≡ p || q → r ≡ true → sum d0 < sum d2
    go true q k l e z = omega (arith, k.more refl, l.total)
    go false q k l e z = omega (arith, k.total, l.more (sym e ∙ z))

-- loops raised, and then all modes visited
pub turned : {S : Stratum} {n : ℕ} {b0 l1 d1 b1 b2 l2 d2 : List ℕ} {due : Bool} → Risen S b0 b1 → n ≡ length b1 → Rounded S 0 n b1 l1 d1 b2 l2 d2 due
    → Turned S b0 l1 d1 b2 l2 d2 due
turned {n = n} {b1 = b1} {b2 = b2} r q k =
    record {
      size = k.rise.size ∙ r.size;
      size_later = k.size_later;
      size_done = k.size_done;
      keeps = λ b h. k.keeps b (closing-risen b1 h r);
      more = k.more;
      settled = λ z v.
          elim (dec_le n v) [
            | yes h ↦ omega (arith, get_or-eq_default b2 0 {n = v} (omega (arith, k.rise.size)))
            | no h ↦ k.settled z v (omega arith) (omega arith)
          ];
    }

-- the room that is left falls where a mode was due
pub room_falls : {S : Stratum} {b0 best later : List ℕ} (done done' : List ℕ) (n : ℕ) → length done' ≡ n → Low S b0 → Closing S b0 best later done'
    → sum done < sum done' → n * (S.numbers.bound + 1) - sum done' < n * (S.numbers.bound + 1) - sum done
room_falls {S} done done' n q low k h =
    let s = sum-le done' (S.numbers.bound + 1) (λ v. omega (arith, k.tried v, (k.rise.low low).low v)) in
    omega (arith, rw q at s)

-- what is asked of the tables, of later ones
pub closable-kept : {S : Stratum} {places best : List ℕ} (later best' later' : List ℕ) → Closable S places best later → Risen S best best'
    → length later' ≡ length later → Closable S places best' later'
closable-kept later best' later' k r l =
    let z = r.size in
    record { work = workable-kept best' k.work r; placed = rw z k.placed; size_later = l ∙ k.size_later ∙ sym z }
