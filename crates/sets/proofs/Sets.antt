-- What sets of peaks decide: a peak that a cycle keeps never leaves the set; a set that keeps all its members, and has some, has one that a cycle
-- keeps. With the criterion of nets there is a lasso exactly where the set that is left is not empty. Assumes nothing.
use mathlib.Core.Path.{◌≡◌, refl, ◌∙◌}
use mathlib.Core.Bool.{Bool, true, false}
use mathlib.Core.List.{List, [], ◌∷◌}
use mathlib.Core.Logic.{◌↔◌}
use Prim.Native.Nat.{ℕ, suc, pred, ◌≤◌, ◌<◌}
use native.Mathlib.Omega.{arith}
use lib.Dec.{leb}
use lib.ListN.{length}
use borrow.Author.Tests.{le-leb, leb-true, eq-eqb}
use Rattle.nets.specs.Net.{Net, Lasts, Fits, AcceptedLasso}
use Rattle.nets.specs.Table.{level, Reached, Peaks, KeptCycle}
use Rattle.nets.proofs.Levels.{passed-met}
use Rattle.nets.proofs.Kept.{kept-returned}
use Rattle.nets.proofs.Criterion.{criterion}
use Rattle.closing.specs.Closed.{word_if, only_at}
use Rattle.closing.proofs.Closed.{only_at_lem}
use Rattle.sets.specs.Sets.{counted, LastTable, sifted, PeakSet, KeptMember}
use Rattle.sets.proofs.Counted.{counted-duty, counted-modes, counted-kept}
use Rattle.sets.proofs.Hops.{Hop, HopFrom, hop-kept, come-round}

-- what is sifted stays, where it is reached again, or goes
sifted-some : (x y : ℕ) → 0 < sifted x y → (sifted x y ≡ x) × (x ≤ y)
sifted-some x y h = go (leb x y) refl h
  where
    go : (t : Bool) → leb x y ≡ t → 0 < word_if t x → (word_if t x ≡ x) × (x ≤ y)
    go true q h = (refl, leb-true x y q)
    go false q h = absurd (omega arith)

sifted-same : (x y : ℕ) → x ≤ y → sifted x y ≡ x
sifted-same x y h = rw (le-leb x y h)

-- with some duty, a walk from a member that comes to mode s in the last level with y or more is a hop
reached-hop : (g : Net) (b s e t x y : ℕ) → 0 < g.duties → Reached g (Lasts g) g.duties b s e g.duties t x → y ≤ x → Hop g b s e t y
reached-hop g b s e t x y hd r h =
    record {
      arcs = r.arcs;
      has_arc = some r.arcs r.levels;
      leads = r.leads;
      meets = λ j i. passed-met g g.duties r.arcs 0 j (omega arith) (omega (arith, r.levels));
      possible = r.possible;
      no_lower = omega (arith, r.reaches);
    }
  where
    some : (v : List ℕ) → level g g.duties 0 v ≡ g.duties → 0 < length v
    some [] q = absurd (omega arith)
    some (a ∷ v) q = omega arith

module _ (g : Net) (b : ℕ) (set last : ℕ → ℕ) (t : LastTable g b set last) where
  -- a member whose peak a cycle keeps is reached again in the last level, with the peak or more
  kept_again : (s e : ℕ) → s < g.modes → set s ≡ suc e → KeptCycle g b s e → set s ≤ last s
  kept_again s e hs q k =
      let r = kept-returned (counted g) b s e ((counted-kept g b s e).0 k) in
      let h = t.above s r.charged (record {
        source = s;
        charged = e;
        bounded = rw (counted-modes g) hs;
        listed = q;
        reached = r.reached;
      })
      in
      omega (arith, r.no_lower)

  -- a member that is reached again is so by a hop from a member
  again-hop : (s : ℕ) → s < g.modes → 0 < set s → set s ≤ last s → HopFrom (counted g) b set s
  again-hop s hs h up =
      let r = t.attained s (pred (last s)) (rw (counted-modes g) hs) (omega arith) in
      let z : pred (set r.source) ≡ r.charged = omega (arith, r.listed) in
      record {
        source = r.source;
        member = omega (arith, r.listed);
        hop = rw z (reached-hop (counted g) b r.source r.charged s (pred (last s)) (pred (set s)) (counted-duty g) r.reached (omega arith));
      }

-- one member alone: it is reached again with its charge or more exactly where a cycle keeps the charge
pub one_kept : (g : Net) (b s e : ℕ) (last : ℕ → ℕ) → s < g.modes → LastTable g b (only_at s (suc e)) last → (suc e ≤ last s) ↔ KeptCycle g b s e
one_kept g b s e last hs t =
    let here : only_at s (suc e) s ≡ suc e = rw (eq-eqb s s refl) in (
      λ h.
          let r = t.attained s (pred (last s)) (rw (counted-modes g) hs) (omega arith) in
          let (i, j) = only_at_lem s (suc e) r.source r.charged r.listed in
          let z : r.charged ≡ e = omega arith in
          let k : Reached (counted g) (Lasts (counted g)) (counted g).duties b s e (counted g).duties s (pred (last s)) = rw (i, z) at r.reached in
          (counted-kept g b s e).1 (hop-kept (counted g) b s e
          (reached-hop (counted g) b s e s (pred (last s)) e (counted-duty g) k (omega arith))),
      λ k. omega (arith, here, kept_again g b (only_at s (suc e)) last t s e hs here k),
    )

module _ (g : Net) (b c : ℕ) where
  -- the first set: the peaks of all modes
  pub set_first : (high : ℕ → ℕ → ℕ) → Peaks g b c high → ((s : ℕ) → 0 < high 0 s → s < g.modes) → PeakSet g b c (high 0)
  set_first high k low =
      record { high = high; peaks = k; bounded = low; listed = λ s h. refl; holds = λ s e hs q t. omega arith }

  -- sifted, it still has every peak that a cycle keeps
  pub set_next : (set last set' : ℕ → ℕ) → PeakSet g b c set → LastTable g b set last → ((s : ℕ) → set' s ≡ sifted (set s) (last s)) → PeakSet g b c set'
  set_next set last set' k t q =
      record {
        high = k.high;
        peaks = k.peaks;
        bounded = λ s h. k.bounded s (was s h).0;
        listed = λ s h. k.listed s (was s h).0 ∙ (was s h).1;
        holds = λ s e hs p r.
            let h = k.holds s e hs p r in
            let i : set s ≡ suc e = omega (arith, k.listed s h) in
            omega (arith, q s, sifted-same (set s) (last s) (kept_again g b set last t s e hs i r));
      }
    where
      was : (s : ℕ) → 0 < set' s → (0 < set s) × (set s ≡ set' s)
      was s h =
          let j = sifted-some (set s) (last s) (omega (arith, q s)) in
          (omega (arith, q s), omega (arith, q s))

  -- a set that keeps all its members has, where it has some, one whose peak a cycle keeps
  pub set-kept : (set last : ℕ → ℕ) → PeakSet g b c set → LastTable g b set last → ((s : ℕ) → set s ≤ last s) → (s : ℕ) → 0 < set s → KeptMember g b set
  set-kept set last k t up s h =
      let m =
      come-round (counted g) b set (λ u i. rw (counted-modes g) (k.bounded u i)) (λ u i. again-hop g b set last t u (k.bounded u i) i (up u)) s h
      in
      record { mode = m.mode; peak = m.peak; listed = m.listed; cycle = (counted-kept g b m.mode m.peak).1 m.cycle }

  module _ (set : ℕ → ℕ) (k : PeakSet g b c set) (fits : Fits g) (hc : c ≤ b) where
    -- a member whose peak a cycle keeps gives a lasso
    pub member-lasso : KeptMember g b set → AcceptedLasso g b c
    member-lasso m =
        let h : 0 < set m.mode = omega (arith, m.listed) in
        (criterion g b c k.high fits hc k.peaks).1 (record {
          mode = m.mode;
          peak = m.peak;
          bounded = k.bounded m.mode h;
          listed = k.listed m.mode h ∙ m.listed;
          cycle = m.cycle;
        })

    -- where the set is empty there is none
    pub set-empty : ((s : ℕ) → set s ≤ 0) → AcceptedLasso g b c → ⊥
    set-empty none p =
        let r = (criterion g b c k.high fits hc k.peaks).0 p in
        omega (arith, none r.mode, k.holds r.mode r.peak r.bounded r.listed r.cycle)
