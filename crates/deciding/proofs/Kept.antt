-- What the set that is left says: while it is sifted it has every peak that a cycle keeps; where none is left there is no lasso; where all stay one of them is
-- kept. A tour from one mode alone tells whether a cycle keeps its peak. Assumes nothing.
use mathlib.Core.Path.{◌≡◌, refl, sym, ap, subst, fun_ext, ◌∙◌}
use mathlib.Core.Bool.{Bool, true, false, false≢true, true≢false}
use mathlib.Core.List.{List, ◌++◌}
use mathlib.Core.Logic.{◌↔◌}
use Prim.Native.Nat.{ℕ, suc, pred, ◌+◌, ◌≤◌, ◌<◌}
use native.Mathlib.Omega.{arith}
use native.Mathlib.Decide.{dec_lt, ℕ_discrete}
use lib.Dec.{eqb, leb}
use lib.ListN.{length, get_or, set, take, length-set, get_or-append, get_or-eq_default}
use lib.Seq.{length-take-le, get_or-set_same, get_or-set_other, get_or-take, take_at}
use borrow.Author.Tests.{eq-eqb, ne_eqb}
use Rattle.limits.specs.Ceilings.{modes_most}
use Rattle.nets.specs.Net.{Net, Fits, AcceptedLasso}
use Rattle.std.specs.Prelude.{Some, None}
use Rattle.groups.specs.declared.Row.{Row}
use Rattle.passes.specs.Outcome.{Peak, KeptPeak, FirstKept}
use Rattle.closing.specs.Closed.{word_if, only_at}
use Rattle.closing.specs.Tables.{PeaksFound}
use Rattle.closing.proofs.Lifts.{zeros}
use Rattle.sets.specs.Sets.{LastTable, PeakSet}
use Rattle.sets.proofs.Sets.{set_first, set_next, set-kept, member-lasso, set-empty, one_kept}
use Rattle.deciding.specs.declared.Question.{Question}
use Rattle.deciding.specs.declared.Sifting.{Sifting}
use Rattle.deciding.specs.declared.Sifting.TheVariants.{Empty, Same}
use Rattle.deciding.specs.Deciding.{word, asked_net, Decidable, Below, Sifted, SiftedOnce, KeptFound}
use Rattle.deciding.proofs.Words.{blank, word-inside}
use Rattle.deciding.proofs.Sifts.{same-some}

-- the set while it is sifted
pub record Deciding (g : Net) (b c : ℕ) (kept : List ℕ) : Type 0 where
  pub members : PeakSet g b c (word kept)
  pub below : Below b kept

-- at first, the peaks of all modes
pub deciding-first : {rows : List Row} {places best : List ℕ} {q : Question} {n : ℕ} → PeaksFound rows places n q.start q.credit q.bound best
    → Deciding (asked_net rows places q (length best)) q.bound q.credit best
deciding-first {rows} {places} {best} {q} {n} k =
    rw k.size (record {
      members =
          set_first (asked_net rows places q n) q.bound q.credit (λ l. word best) (k.peaks q.duties)
          (λ s h. omega (arith, word-inside best s h, k.size));
      below = record { below = k.low };
    })

-- the same of another name for the number of modes
module _ (rows : List Row) (places : List ℕ) (q : Question) (n n' : ℕ) (e : n ≡ n') where
  pub decidable-size : Decidable rows places q n → Decidable rows places q n'
  decidable-size k = subst (λ (u : ℕ). Decidable rows places q u) e k

  pub sifted-size : {kept kept' : List ℕ} {s : Sifting} → SiftedOnce (asked_net rows places q n) q.bound kept kept' s
      → SiftedOnce (asked_net rows places q n') q.bound kept kept' s
  sifted-size {kept} {kept'} {s} k = subst (λ (u : ℕ). SiftedOnce (asked_net rows places q u) q.bound kept kept' s) e k

  pub kept-size : {kept : List ℕ} {some : Bool} → KeptFound (asked_net rows places q n) q.bound q.credit kept some
      → KeptFound (asked_net rows places q n') q.bound q.credit kept some
  kept-size {kept} {some} k = subst (λ (u : ℕ). KeptFound (asked_net rows places q u) q.bound q.credit kept some) e k

-- what is answered tells whether there is a lasso
pub kept-lasso : {g : Net} {b c : ℕ} {kept : List ℕ} (some : Bool) → KeptFound g b c kept some → (some ≡ true) ↔ AcceptedLasso g b c
kept-lasso true k = (k.lasso, λ l. refl)
kept-lasso false k = (λ e. absurd (false≢true e), λ l. absurd (k.none refl l))

module _ {g : Net} {b c : ℕ} {kept kept' : List ℕ} {s : Sifting} (k : Deciding g b c kept) (z : SiftedOnce g b kept kept' s) where
  -- sifted once more
  pub deciding-next : Deciding g b c kept'
  deciding-next =
      record {
        members = set_next g b c (word kept) (word z.last) (word kept') k.members z.table z.sifts.words;
        below = record { below = λ v. low (word kept' v) (word kept v) (word z.last v) (z.sifts.words v) (k.below.below v) };
      }
    where
      low : (x y u : ℕ) → x ≡ word_if (leb y u) y → y ≤ b + 1 → x ≤ b + 1
      low x y u q h = go (leb y u) q
        where
          go : (v : Bool) → x ≡ word_if v y → x ≤ b + 1
          go true q = omega arith
          go false q = omega arith

  peaks-left : (s e : ℕ) → word kept' s ≡ suc e → Peak g b c s e
  peaks-left s e q =
      let m = deciding-next.members in
      record { high = m.high; peaks = m.peaks; mode = m.bounded s (omega arith); listed = m.listed s (omega arith) ∙ q }

  module _ (fits : Fits g) (hc : c ≤ b) where
    -- none is left
    pub deciding-none : s ≡ Empty → KeptFound g b c kept' false
    deciding-none q =
        record {
          peaks = peaks-left;
          below = deciding-next.below;
          kept = λ h. absurd (false≢true h);
          lasso = λ h. absurd (false≢true h);
          none = λ h. set-empty g b c (word kept') deciding-next.members fits hc (z.sifts.none q);
        }

    -- all stay, and there are some
    pub deciding-same : s ≡ Same → KeptFound g b c kept' true
    deciding-same q =
        let (same, up) = z.sifts.same q in
        let (v, h) = z.sifts.left (λ e. same-some (sym q ∙ e)) in
        let t = subst (λ (w : List ℕ). LastTable g b (word w) (word z.last)) (sym same) z.table in
        let m =
        set-kept g b c (word kept') (word z.last) deciding-next.members t
        (λ s. subst (λ (w : List ℕ). word w s ≤ word z.last s) (sym same) (up s)) v h
        in
        record {
          peaks = peaks-left;
          below = deciding-next.below;
          kept = λ h. m;
          lasso = λ h. member-lasso g b c (word kept') deciding-next.members fits hc m;
          none = λ h. absurd (true≢false h);
        }

-- the set sifted by the table that a tour left in the words on the stack
pub sifted-once : {g : Net} {b : ℕ} {kept kept' : List ℕ} {s : Sifting} (part rest : List ℕ) → LastTable g b (word kept) (word part)
    → length part ≡ length kept → Sifted kept (take (length kept) (part ++ rest)) kept' s → SiftedOnce g b kept kept' s
sifted-once {kept = kept} {kept' = kept'} {s = s} part rest t z k =
    record {
      last = part;
      table = t;
      sifts = subst (λ (w : List ℕ). Sifted kept w kept' s) (take_at part rest (length kept) z) k;
    }

-- one word alone is set in a table on the stack, of which a part is lent
module _ (n s y : ℕ) (few : n ≤ modes_most) (hs : s < n) where
  abbrev alone : List ℕ
  alone = set blank s y

  pub alone-lent : n ≡ length (take n alone)
  alone-lent = sym (length-take-le n alone (omega (arith, length-set blank s y)))

  alone-word : (v : ℕ) → word (take n alone) v ≡ only_at s y v
  alone-word v =
      elim (ℕ_discrete v s) [
        | yes e ↦ rw (e, eq-eqb s s refl) (get_or-take n alone s 0 hs ∙ get_or-set_same blank s y 0 (omega arith))
        | no e ↦ rw (ne_eqb v s e) (other v e)
      ]
    where
      other : (v : ℕ) → (v ≡ s → ⊥) → word (take n alone) v ≡ 0
      other v e =
          elim (dec_lt v n) [
            | yes h ↦ get_or-take n alone v 0 h ∙ get_or-set_other blank s v y 0 e ∙ zeros modes_most v
            | no h ↦ get_or-eq_default (take n alone) 0 {n = v} (omega (arith, alone-lent))
          ]

  pub alone-below : (b : ℕ) → y ≤ b + 1 → Below b (take n alone)
  alone-below b h = record { below = λ v. low v (eqb v s) (alone-word v) }
    where
      low : (v : ℕ) (t : Bool) → word (take n alone) v ≡ word_if t y → word (take n alone) v ≤ b + 1
      low v true q = omega arith
      low v false q = omega arith

  -- the word is reached again exactly where a cycle keeps its charge
  pub alone-kept : (rows : List Row) (places : List ℕ) (q : Question) (out rest : List ℕ) → 0 < y → length out ≡ length (take n alone)
      → LastTable (asked_net rows places q (length (take n alone))) q.bound (word (take n alone)) (word out)
      → (y ≤ word (out ++ rest) s) ↔ KeptPeak (asked_net rows places q n) q.bound s y
  alone-kept rows places q out rest hy z t =
      let g = asked_net rows places q n in
      let e : y ≡ suc (pred y) = omega arith in
      let t' : LastTable g q.bound (only_at s (suc (pred y))) (word out) =
      subst (λ (f : ℕ → ℕ). LastTable g q.bound f (word out)) (fun_ext alone-word ∙ ap {B = ℕ → ℕ} (λ (x : ℕ). only_at s x) e)
      (rw (← alone-lent) at t)
      in
      let k = one_kept g q.bound s (pred y) (word out) hs t' in
      let here : word (out ++ rest) s ≡ word out s = get_or-append out rest 0 s (omega (arith, alone-lent)) in (
        λ h. record { peak = pred y; listed = e; cycle = k.0 (omega arith) },
        λ p.
            let i : p.peak ≡ pred y = omega (arith, p.listed) in
            omega (arith, k.1 (rw i at p.cycle)),
      )

-- of the modes below i none has a peak that a cycle keeps
pub record NoneKept (g : Net) (b : ℕ) (kept : List ℕ) (i : ℕ) : Type 0 where
  pub none : (s : ℕ) → s < i → KeptPeak g b s (get_or kept s 0) → ⊥

module _ {g : Net} {b : ℕ} {kept : List ℕ} where
  -- there is no mode below 0
  pub first-none : NoneKept g b kept 0
  first-none = record { none = λ s h. absurd (omega arith) }

  module _ {i : ℕ} (n : NoneKept g b kept i) where
    -- one mode more
    pub first_more : (KeptPeak g b i (get_or kept i 0) → ⊥) → NoneKept g b kept (i + 1)
    first_more q =
        record {
          none = λ s hs k.
              elim (ℕ_discrete s i) [
                | yes z ↦ q (rw z at k)
                | no z ↦ n.none s (omega arith) k
              ];
        }

    -- the first mode whose peak is kept
    pub first_found : i < g.modes → KeptPeak g b i (get_or kept i 0) → FirstKept g b kept (Some i)
    first_found h k = record { mode = h; kept = k; none = n.none }

    -- every mode is tried
    pub first-end : g.modes ≤ i → FirstKept g b kept None
    first-end h = λ s hs. n.none s (omega arith)
