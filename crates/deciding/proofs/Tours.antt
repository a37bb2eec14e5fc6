-- The levels closed one after the other, from the members of a set, in the words of sets: what closing asks, and what it leaves. Assumes nothing.
use mathlib.Core.Path.{◌≡◌, refl, sym, ap, subst, ◌∙◌}
use mathlib.Core.Bool.{Bool, true, false, false≢true, true≢false, not, ◌&&◌, ◌||◌}
use mathlib.Core.List.{List, ◌++◌}
use mathlib.Core.Logic.{◌↔◌}
use Prim.Native.Nat.{ℕ, zero, suc, ◌+◌, ◌≤◌, ◌<◌, max}
use native.Mathlib.Omega.{arith}
use lib.Dec.{ltb}
use lib.ListN.{length, take}
use lib.Seq.{take_at}
use Rattle.limits.specs.Ceilings.{modes_most, colours_most}
use Rattle.model.specs.Automaton.{bit}
use Rattle.nets.specs.Net.{Net, Lasts}
use Rattle.nets.specs.Table.{raised_if}
use Rattle.groups.specs.declared.Row.{Row}
use Rattle.groups.specs.Rows.{colours_at, barred_at, on_at}
use Rattle.groups.specs.Grouped.{arc_count}
use Rattle.passes.specs.RowsNet.{rows_net}
use Rattle.closing.specs.declared.Level.{Level}
use Rattle.closing.specs.Closed.{ClosedLevel}
use Rattle.closing.specs.Stratum.{Stratum, stratum, graph_of, leaves_by, leaving, Staying, Leaving, Ready, Placed}
use Rattle.closing.specs.Tables.{Closable, Closes, Findable}
use Rattle.closing.proofs.Closed.{closed-level-same}
use Rattle.sets.specs.Levels.{LevelTable, StaysIn, LeavesFor, Entered}
use Rattle.sets.specs.Sets.{counted, LastTable}
use Rattle.sets.proofs.Levels.{entered-first, entered-bound, level-table, level-entered}
use Rattle.deciding.specs.declared.Question.{Question}
use Rattle.deciding.specs.Deciding.{word, last_of, level_at, asked_net, Decidable, Below, Enterable, EntersNext}
use Rattle.deciding.proofs.Words.{word-inside}

-- the numbers of a level, as the code makes them
pub level-none : (m k b l : ℕ) → k ≡ 0 → record { arcs = m; level = l; last = 1; every = ltb l 1; lasting = true; bound = b } ≡ level_at m k b l
level-none m k b l q = rw q refl

pub level-some : (m k b l : ℕ) → (k ≡ 0 → ⊥) → record { arcs = m; level = l; last = k; every = false; lasting = true; bound = b } ≡ level_at m k b l
level-some m zero b l q = absurd (q refl)
level-some m (suc k) b l q = refl

-- and what is read of them
level-arcs : (m k b l : ℕ) → (level_at m k b l).arcs ≡ m
level-arcs m zero b l = refl
level-arcs m (suc k) b l = refl

level-last : (m k b l : ℕ) → (level_at m k b l).last ≡ last_of k
level-last m zero b l = refl
level-last m (suc k) b l = refl

level-bound : (m k b l : ℕ) → (level_at m k b l).bound ≡ b
level-bound m zero b l = refl
level-bound m (suc k) b l = refl

pub last-low : (k : ℕ) → k ≤ colours_most → last_of k ≤ colours_most
last-low zero h = omega arith
last-low (suc k) h = h

pub last-max : (k : ℕ) → last_of k ≡ max k 1
last-max zero = refl
last-max (suc k) = omega arith

-- the arcs that stay and those that leave, in the words of levels
stay-iff : (m a l : ℕ) (o β v : Bool) → (((a < m) × (o ≡ true) × (β ≡ false)) × (v ≡ false))
    ↔ ((((a < m) × (o ≡ true)) × (not β ≡ true)) × (raised_if v l ≡ l))
stay-iff m a l o true v = (λ x. absurd (true≢false x.0.2), λ x. absurd (false≢true x.0.1))
stay-iff m a l o false true = (λ x. absurd (true≢false x.1), λ x. absurd (omega (arith, x.1)))
stay-iff m a l o false false = (λ x. (((x.0.0, x.0.1), refl), refl), λ x. ((x.0.0.0, x.0.0.1, refl), refl))

leave-iff : (m a l : ℕ) (o β v : Bool) → (((a < m) × (o ≡ true) × (β ≡ false)) × (v ≡ true))
    ↔ ((((a < m) × (o ≡ true)) × (not β ≡ true)) × (raised_if v l ≡ suc l))
leave-iff m a l o true v = (λ x. absurd (true≢false x.0.2), λ x. absurd (false≢true x.0.1))
leave-iff m a l o false true = (λ x. (((x.0.0, x.0.1), refl), refl), λ x. ((x.0.0.0, x.0.0.1, refl), refl))
leave-iff m a l o false false = (λ x. absurd (false≢true x.1), λ x. absurd (omega (arith, x.1)))

-- without duties every arc leaves level 0, whatever it meets
leaves-every : (p q : Bool) → p || (p && q) ≡ p && true
leaves-every true q = refl
leaves-every false q = refl

module _ (rows : List Row) (n s m b : ℕ) where
  abbrev net : ℕ → Net
  net k = rows_net rows n s k m

  -- a level closed, in the words of the net counted
  counted-level : (k l : ℕ) (from best later : ℕ → ℕ)
      → ClosedLevel (graph_of (stratum rows (level_at m k b l))) (Staying (stratum rows (level_at m k b l))) (Leaving (stratum rows (level_at m k b l))) b
      from best later
      → ClosedLevel (counted (net k)).graph (StaysIn (counted (net k)) (Lasts (counted (net k))) (counted (net k)).duties l)
      (LeavesFor (counted (net k)) (Lasts (counted (net k))) (counted (net k)).duties l) b from best later
  unfolding leaves_by
  counted-level zero l from best later z =
      let S = stratum rows (level_at m zero b l) in
      let G = counted (net zero) in
      let same : (a : ℕ) → leaving S a ≡ ltb l 1 && true = λ a. leaves-every (ltb l 1) (bit (colours_at rows a) l) in
      closed-level-same (graph_of S) (Staying S) (Leaving S) (StaysIn G (Lasts G) 1 l) (LeavesFor G (Lasts G) 1 l) b from best later
      (λ a.
      subst (λ (v : Bool). Staying S a ↔ (Lasts G a × (raised_if v l ≡ l))) (same a) (stay-iff m a l (on_at rows a) (barred_at rows a) (leaving S a)))
      (λ a.
      subst (λ (v : Bool). Leaving S a ↔ (Lasts G a × (raised_if v l ≡ suc l))) (same a)
      (leave-iff m a l (on_at rows a) (barred_at rows a) (leaving S a)))
      z
  counted-level (suc k) l from best later z =
      let S = stratum rows (level_at m (suc k) b l) in
      let G = counted (net (suc k)) in
      closed-level-same (graph_of S) (Staying S) (Leaving S) (StaysIn G (Lasts G) (suc k) l) (LeavesFor G (Lasts G) (suc k) l) b from best later
      (λ a. stay-iff m a l (on_at rows a) (barred_at rows a) (leaving S a)) (λ a. leave-iff m a l (on_at rows a) (barred_at rows a) (leaving S a)) z

  counted-last : (k : ℕ) → (counted (net k)).duties ≡ last_of k
  counted-last zero = refl
  counted-last (suc k) = refl

  counted-n : (k : ℕ) → (counted (net k)).modes ≡ n
  counted-n zero = refl
  counted-n (suc k) = refl

-- the net counted of what is asked
abbrev counted_net : List Row → List ℕ → Question → ℕ → Net
counted_net rows places q n = counted (asked_net rows places q n)

-- The levels below l are closed: best has the greatest charges with which level l is entered from the members of the set from.
pub record Touring (rows : List Row) (places : List ℕ) (q : Question) (n : ℕ) (from best : List ℕ) (l : ℕ) : Type 0 where
  pub within : l ≤ last_of q.duties
  pub size : length best ≡ n
  pub below : Below q.bound best
  pub entered : Entered (counted_net rows places q n) (Lasts (counted_net rows places q n)) (counted_net rows places q n).duties q.bound (word from) l
      (word best)

module _ {rows : List Row} {places : List ℕ} {q : Question} {n : ℕ} (able : Decidable rows places q n) where
  abbrev G : Net
  G = counted_net rows places q n

  abbrev numbers_at : ℕ → Level
  numbers_at l = level_at (arc_count places n) q.duties q.bound l

  -- what closing asks of rows and places
  ready : (l : ℕ) → Ready (stratum rows (numbers_at l)) n
  ready l =
      let m = arc_count places n in
      record {
        few_modes = able.few_modes;
        few_arcs = rw (level-arcs m q.duties q.bound l) able.few_arcs;
        targets = λ a h o. able.fits.targets a (rw (level-arcs m q.duties q.bound l) at h, o);
        levels = omega (arith, level-last m q.duties q.bound l, last-low q.duties able.few_duties);
        low = rw (level-bound m q.duties q.bound l) able.low;
      }

  placed : (l : ℕ) → Placed (stratum rows (numbers_at l)) n places
  placed l = rw (level-arcs (arc_count places n) q.duties q.bound l) able.grouped

  -- the first table: the set
  pub touring-none : (from : List ℕ) → length from ≡ n → Below q.bound from → Touring rows places q n from from 0
  touring-none from z low =
      record {
        within = omega arith;
        size = z;
        below = low;
        entered =
            entered-first G (Lasts G) G.duties q.bound (word from)
            (λ v h. omega (arith, word-inside from v h, counted-n rows n q.start (arc_count places n) q.bound q.duties));
      }

  module _ {from best : List ℕ} {l : ℕ} {numbers : Level} (k : Touring rows places q n from best l) (e : numbers ≡ numbers_at l) where
    pub touring-enterable : Enterable (stratum rows numbers) places best
    touring-enterable =
        rw e (record {
          ready = rw k.size (ready l);
          low = record { low = rw (level-bound (arc_count places n) q.duties q.bound l) k.below.below };
          placed = rw k.size (placed l);
        })

    module _ {closed later : List ℕ} (z : Closes (stratum rows numbers) best closed later) where
      level-closed : ClosedLevel G.graph (StaysIn G (Lasts G) G.duties l) (LeavesFor G (Lasts G) G.duties l) q.bound (word best) (word closed)
          (word later)
      level-closed =
          let z' = subst (λ (u : Level). Closes (stratum rows u) best closed later) e z in
          counted-level rows n q.start (arc_count places n) q.bound q.duties l (word best) (word closed) (word later)
          (rw (level-bound (arc_count places n) q.duties q.bound l) at z'.closed)

      -- one level more
      pub touring-more : length later ≡ length best → l < last_of q.duties → Below q.bound from → Touring rows places q n from later (l + 1)
      touring-more y h low =
          let i = level-entered G (Lasts G) G.duties q.bound (word from) l (word best) (word closed) (word later) k.entered level-closed in
          record {
            within = omega arith;
            size = y ∙ k.size;
            below =
                record {
                  below = λ v.
                      omega (
                        arith,
                        entered-bound G (Lasts G) G.duties q.bound (word from) (suc l) (word later)
                            (λ u. omega (arith, low.below u)) i v,
                      );
                };
            entered = subst (λ (u : ℕ). Entered G (Lasts G) G.duties q.bound (word from) u (word later)) (omega arith) i;
          }

      -- the last
      pub touring-done : last_of q.duties ≤ l → LastTable (asked_net rows places q n) q.bound (word from) (word closed)
      touring-done h =
          let i : l ≡ G.duties = omega (arith, k.within, counted-last rows n q.start (arc_count places n) q.bound q.duties) in
          subst (λ (u : ℕ). LevelTable G (Lasts G) G.duties q.bound (word from) u (word closed)) i
          (level-table G (Lasts G) G.duties q.bound (word from) l (word best) (word closed) (word later) k.entered level-closed)

-- the first table of the next level, copied from the words on the stack in which closing left it
pub enters-next : {S : Stratum} {best closed later copied : List ℕ} (rest : List ℕ) → Closes S best closed later → length later ≡ length best
    → copied ≡ take (length best) (later ++ rest) → EntersNext S best copied
enters-next {S} {best} {closed} {later} rest k z q =
    let same = q ∙ take_at later rest (length best) z in
    record { closed = closed; closes = subst (λ (w : List ℕ). Closes S best closed w) (sym same) k; size = ap length same ∙ z }

-- what closing a level asks, with words on the stack
pub enterable-closable : {S : Stratum} {places best later : List ℕ} → Enterable S places best → length later ≡ length best → Closable S places best later
enterable-closable k z = record { work = record { ready = k.ready; low = k.low }; placed = k.placed; size_later = z }

-- what the peaks ask
pub decidable-findable : {rows : List Row} {places : List ℕ} {q : Question} {best : List ℕ} → Decidable rows places q (length best)
    → Findable rows places q.start q.credit q.bound best
decidable-findable able =
    record {
      ready =
          record {
            few_modes = able.few_modes;
            few_arcs = able.few_arcs;
            targets = λ a i o. able.fits.targets a (i, o);
            levels = omega arith;
            low = able.low;
          };
      placed = able.grouped;
      starts = able.fits.starts;
      credit = able.credit;
    }

-- a set that was copied is toured as the set
module _ (rows : List Row) (places : List ℕ) (q : Question) {from copied : List ℕ} (same : copied ≡ from) where
  pub copied-asked : Decidable rows places q (length from) → Below q.bound from → Decidable rows places q (length copied) × Below q.bound copied
  copied-asked able low =
      subst (λ (w : List ℕ). Decidable rows places q (length w) × Below q.bound w) (sym same) (able, low)

  pub copied-table : (last : List ℕ) → LastTable (asked_net rows places q (length copied)) q.bound (word copied) (word last)
      → LastTable (asked_net rows places q (length from)) q.bound (word from) (word last)
  copied-table last t = subst (λ (w : List ℕ). LastTable (asked_net rows places q (length w)) q.bound (word w) (word last)) same t
