-- Short plans. Document 01: "where any plan exists, one exists with a run-in of at most n(b+1) and a round of at most (k+1)n(b+1) arcs."
-- A walk that stands twice in one mode with one level and one charge can do without the arcs between. Assumes nothing.
use mathlib.Core.Path.{◌≡◌, refl}
use mathlib.Core.List.{List, ◌++◌}
use Prim.Native.Nat.{ℕ, zero, suc, pred, ◌+◌, ◌*◌, ◌≤◌, ◌<◌}
use native.Mathlib.Omega.{arith}
use native.Mathlib.Nat.{one-mul}
use native.Mathlib.Numerals.{add-one}
use native.Mathlib.Decide.{dec_le}
use lib.ListN.{length, take, drop, length-append, length-take, length-drop, take-append-drop}
use Rattle.walks.specs.Moves.{charge, Possible}
use Rattle.walks.proofs.Charges.{charge-append, possible-append, charge-bound}
use Rattle.model.specs.Automaton.{Automaton}
use Rattle.model.specs.Fitness.{Fit}
use Rattle.model.specs.Plans.{Plan}
use Rattle.switches.specs.PlansOn.{ServesOn, SomePlanOn}
use Rattle.model.proofs.Required.{required-room}
use Rattle.nets.specs.Graph.{moves, Leads}
use Rattle.nets.specs.Net.{Net, Usable, Lasts, Fits, AcceptedLasso}
use Rattle.nets.specs.Table.{level, Reached, KeptCycle}
use Rattle.nets.specs.Whole.{whole}
use Rattle.nets.proofs.Pigeonhole.{pigeonhole, paired-bound, paired_same}
use Rattle.nets.proofs.Leads.{moves-append, leads-append, leads-weaken, leads-bound}
use Rattle.nets.proofs.Levels.{level-append, level-bound}
use Rattle.nets.proofs.Tables.{reached-on}
use Rattle.nets.proofs.Kept.{ReachedKept, lasso-kept, kept-returned, returned-kept}
use Rattle.nets.proofs.Whole.{whole-fits, whole-lasso, reached-serves}

-- a walk over the arcs u and then v, cut between them
record Cut (g : Net) (ok : ℕ → Type 0) (K b s e l t x : ℕ) (u v : List ℕ) : Type 0 where
  mode : ℕ
  leads : Leads g.graph ok s u mode
  possible : Possible b (moves g.graph u) e
  leads_on : Leads g.graph ok mode v t
  levels_on : level g K (level g K 0 u) v ≡ l
  possible_on : Possible b (moves g.graph v) (charge b (moves g.graph u) e)
  reaches_on : charge b (moves g.graph v) (charge b (moves g.graph u) e) ≡ x

module _ (g : Net) (ok : ℕ → Type 0) (K b s e l t x : ℕ) where
  -- a walk can be cut anywhere
  reached-cut : (r : Reached g ok K b s e l t x) (u v : List ℕ) → u ++ v ≡ r.arcs → Cut g ok K b s e l t x u v
  reached-cut r u v q =
      let m = moves-append g.graph u v in
      let (n, d, d') = (leads-append g.graph ok u v s t).0 (rw q r.leads) in
      let p = (possible-append b (moves g.graph u) (moves g.graph v) e).0 (rw (← m, q) r.possible) in
      record {
        mode = n;
        leads = d;
        possible = p.0;
        leads_on = d';
        levels_on = rw (← (level-append g K u v 0), q) r.levels;
        possible_on = p.1;
        reaches_on = rw (← (charge-append b (moves g.graph u) (moves g.graph v) e), ← m, q) r.reaches;
      }

  -- its first part is a walk
  abbrev first : (u v : List ℕ) (c : Cut g ok K b s e l t x u v)
      → Reached g ok K b s e (level g K 0 u) c.mode (charge b (moves g.graph u) e)
  first u v c = record { arcs = u; leads = c.leads; levels = refl; possible = c.possible; reaches = refl }

  module _ (usable : (a : ℕ) → ok a → Usable g a) (fits : Fits g) (hs : s < g.modes) (he : e ≤ b) where
    -- the mode of a cut is one of the net's
    cut-mode : (u v : List ℕ) (c : Cut g ok K b s e l t x u v) → c.mode < g.modes
    cut-mode u v c = leads-bound g fits u s c.mode hs (leads-weaken g.graph ok (Usable g) usable u s c.mode c.leads)

    -- level, mode and charge of a cut, its configuration, as one number
    abbrev configuration : (u v : List ℕ) → Cut g ok K b s e l t x u v → ℕ
    configuration u v c = (level g K 0 u * g.modes + c.mode) * suc b + charge b (moves g.graph u) e

    -- there are as many configurations as levels times modes times charges
    configuration-bound : (u v : List ℕ) (c : Cut g ok K b s e l t x u v) → configuration u v c < suc K * g.modes * suc b
    configuration-bound u v c =
        paired-bound (suc K * g.modes) (suc b) (level g K 0 u * g.modes + c.mode) (charge b (moves g.graph u) e)
        (paired-bound (suc K) g.modes (level g K 0 u) c.mode (omega (arith, level-bound g K u 0 (omega arith))) (cut-mode u v c))
        (omega (arith, charge-bound b (moves g.graph u) e he))

    -- the arcs between two cuts with the same configuration can be left out
    joined : (u v u' v' : List ℕ) (c : Cut g ok K b s e l t x u v) (c' : Cut g ok K b s e l t x u' v') → configuration u v c ≡ configuration u' v' c'
        → (r : Reached g ok K b s e l t x) × (r.arcs ≡ u ++ v')
    unfolding reached-on
    joined u v u' v' c c' q =
        let n = g.modes in
        let y = charge b (moves g.graph u) e in
        let y' = charge b (moves g.graph u') e in
        let h : y < suc b = omega (arith, charge-bound b (moves g.graph u) e he) in
        let h' : y' < suc b = omega (arith, charge-bound b (moves g.graph u') e he) in
        let (z, k) = paired_same (suc b) (level g K 0 u * n + c.mode) y (level g K 0 u' * n + c'.mode) y' h h' q in
        let (i, m) = paired_same n (level g K 0 u) c.mode (level g K 0 u') c'.mode (cut-mode u v c) (cut-mode u' v' c') z in (
          reached-on g ok K b s e (level g K 0 u) l c.mode t y x v' (first u v c)
              (rw m c'.leads_on) (rw i c'.levels_on) (rw k c'.possible_on) (rw k c'.reaches_on),
          refl {a = u ++ v'},
        )

    -- a walk with as many arcs as there are configurations can do without some
    shorter : (r : Reached g ok K b s e l t x) → suc K * g.modes * suc b ≤ length r.arcs
        → (r' : Reached g ok K b s e l t x) × (length r'.arcs < length r.arcs)
    shorter r h =
        let w = r.arcs in
        let c : (n : ℕ) → Cut g ok K b s e l t x (take n w) (drop n w) = λ n. reached-cut r (take n w) (drop n w) (take-append-drop n w) in
        let (i, j, u, k, q) =
        pigeonhole (suc K * g.modes * suc b) (λ n. configuration (take n w) (drop n w) (c n)) (λ n z. configuration-bound (take n w) (drop n w) (c n))
        in
        let (r', a) = joined (take i w) (drop i w) (take j w) (drop j w) (c i) (c j) q in
        (r', rw a (omega (arith, length-append (take i w) (drop j w), length-take i w, length-drop j w)))

    -- done over and over, it comes to fewer
    short-within : (n : ℕ) (r : Reached g ok K b s e l t x) → length r.arcs < n
        → (r' : Reached g ok K b s e l t x) × (length r'.arcs < suc K * g.modes * suc b)
    short-within zero r h = absurd (omega arith)
    short-within (suc n) r h =
        elim (dec_le (suc K * g.modes * suc b) (length r.arcs)) [
          | yes k ↦ let (r', z) = shorter r k in short-within n r' (omega arith)
          | no k ↦ (r, omega arith)
        ]

    -- so what is reached is reached with fewer arcs than there are configurations
    pub reached-short : Reached g ok K b s e l t x → (r : Reached g ok K b s e l t x) × (length r.arcs < suc K * g.modes * suc b)
    reached-short r = short-within (suc (length r.arcs)) r (omega arith)

-- so a kept cycle can be made short: repeated through every level, all of it but the last arc
pub kept-short : (g : Net) (b s e : ℕ) → Fits g → s < g.modes → e ≤ b → KeptCycle g b s e
    → (k : KeptCycle g b s e) × (length k.arcs ≤ suc g.duties * g.modes * suc b)
unfolding reached-on returned-kept
kept-short g b s e fits hs he t =
    let k = kept-returned g b s e t in
    let K = g.duties in
    let y = k.charged in
    let w = k.reached.arcs in
    let n = pred (length w) in
    let v = take n w in
    let a = drop n w in
    let c = reached-cut g (Lasts g) K b s e K s y k.reached v a (take-append-drop n w) in
    let l = level g K 0 v in
    let x = charge b (moves g.graph v) e in
    let (f, m) = reached-short g (Lasts g) K b s e l c.mode x (λ z h. h.0) fits hs he (first g (Lasts g) K b s e K s y v a c) in
    let r = reached-on g (Lasts g) K b s e l K c.mode s x y a f c.leads_on c.levels_on c.possible_on c.reaches_on in
    let z : length (f.arcs ++ a) ≡ suc (length f.arcs) = omega (arith, k.has_arc, length-append f.arcs a, length-drop n w) in
    (returned-kept g b s e (record { charged = y; reached = r; has_arc = omega arith; no_lower = k.no_lower }), omega arith)

-- a walk to a mode with a charge and a cycle from there that keeps the charge, both short: a short lasso, by reached-lasso
pub record ShortLasso (g : Net) (b c : ℕ) : Type 0 where
  pub lasso : ReachedKept g b c
  pub prefix_short : length lasso.reached.arcs < g.modes * suc b
  pub cycle_short : length lasso.kept.arcs ≤ suc g.duties * g.modes * suc b

-- a net with a lasso has a short one
pub lasso-short : (g : Net) (b c : ℕ) → Fits g → c ≤ b → AcceptedLasso g b c → ShortLasso g b c
lasso-short g b c fits hc p =
    let l = lasso-kept g b c hc p in
    let s = l.mode in
    let e = l.charged in
    let r = l.reached in
    let (r', m) = reached-short g (Usable g) 0 b g.start c 0 s e (λ a z. z) fits fits.starts hc r in
    let hs = leads-bound g fits r.arcs g.start s fits.starts r.leads in
    let he : e ≤ b = omega (arith, r.reaches, charge-bound b (moves g.graph r.arcs) c hc) in
    let (k', n) = kept-short g b s e fits hs he l.kept in
    record { lasso = record { mode = s; charged = e; reached = r'; kept = k' }; prefix_short = rw one-mul at m; cycle_short = n }

-- "where any plan exists, one exists with a run-in of at most n(b+1) and a round of at most (k+1)n(b+1) arcs", of the arcs that are on
pub plan-short : (g : Automaton) (x : ℕ) (on : List ℕ) (b c : ℕ) → Fit g → c ≤ b → SomePlanOn g x on b c
    → (p : Plan) × ServesOn g x on b c p × (length p.prefix ≤ g.modes * (b + 1)) × (length p.cycle ≤ (g.colours + 1) * g.modes * (b + 1))
plan-short g x on b c f hc p =
    let h = lasso-short (whole g x on) b c (whole-fits g x on f) hc ((whole-lasso g x on b c f.few_colours).0 p) in
    let l = h.lasso in
    let more = simp add-one at (required-room x g.colours 1 g.modes (b + 1)) in (
      record { prefix = l.reached.arcs; cycle = l.kept.arcs },
      reached-serves g x on b c f.few_colours l.mode l.charged l.reached l.kept,
      simp add-one (omega (arith, h.prefix_short)),
      simp add-one (omega (arith, h.cycle_short, more)),
    )
