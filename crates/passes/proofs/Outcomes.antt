-- What the pass from a mode with a charge leaves, in the words of nets: it says whether a cycle keeps the charge, and the arcs read back are that cycle. Assumes
-- nothing.
use Rattle.std.specs.Prelude.{Option, Some, None}
use Rattle.std.proofs.lemmas.Option.{none-some}
use mathlib.Core.Path.{◌≡◌, refl, sym, ap, subst, ◌∙◌}
use mathlib.Core.Bool.{true, ◌&&◌, and-eq-true_iff}
use mathlib.Core.Logic.{◌↔◌}
use mathlib.Core.List.{List, [], ◌∷◌, ◌++◌}
use Prim.Native.Nat.{ℕ, suc, ◌+◌, ◌/◌, ◌<◌}
use native.Mathlib.Omega.{arith}
use lib.ListN.{length, get_or}
use Rattle.walks.specs.BoundedStep.{after}
use Rattle.nets.specs.Net.{Net, Usable, Lasts, Fits}
use Rattle.nets.specs.Table.{next, ClosingArc, KeptCycle}
use Rattle.nets.proofs.Decides.{kept-closed, closed-kept}
use Rattle.passes.specs.declared.pass.Closing.{Closing}
use Rattle.passes.specs.Pass.{Pass, Ready, node, room}
use Rattle.passes.specs.Queue.{node_at, charge_at, Covers, Closes, Begun, Passed}
use Rattle.passes.specs.Trace.{Traced}
use Rattle.passes.specs.Outcome.{Kept, CyclePassed}
use Rattle.passes.proofs.Nodes.{node-level, node-mode}
use Rattle.passes.proofs.Steps.{closes-at, closes-not, along-taken, arc-along}
use Rattle.passes.proofs.Queue.{node-levels, queue-room, entry-low}
use Rattle.passes.proofs.Traces.{queue-linked}
use Rattle.passes.proofs.Walks.{traced-reached, covered-closed}

-- the pass from mode m with charge e: the levels 0 to k, and back to m in the last one with e or more
abbrev pub cycle_pass : Net → List ℕ → ℕ → ℕ → ℕ → Pass
cycle_pass g places b m e =
    record {
      net = g;
      places = places;
      ok = λ a. g.on a && g.lasting a;
      last = g.duties;
      bound = b;
      goal = node g.modes g.duties m;
      least = e;
    }

module _ (net : Net) (places : List ℕ) (b : ℕ) (fits : Fits net) where
  -- a cycle may use the arcs that last
  lasts-ok : (a : ℕ) → Lasts net a ↔ ((a < net.count) × ((net.on a && net.lasting a) ≡ true))
  lasts-ok a =
      let both = and-eq-true_iff (net.on a) (net.lasting a) in
      (λ h. (h.0.0, both.1 (h.0.1, h.1)), λ h. ((h.0, (both.0 h.1).0), (both.0 h.1).1))

  cycle-usable : (a : ℕ) → a < net.count → (net.on a && net.lasting a) ≡ true → Usable net a
  cycle-usable a h o = ((lasts-ok a).1 (h, o)).0

  module _ (m e : ℕ) (best w : List ℕ) (tail : ℕ) (hm : m < net.modes) (from : Begun (cycle_pass net places b m e) m e best w tail) where
    -- where every greatest charge is covered, no cycle from m keeps e: an arc would close it
    cycle-none : ((v x : ℕ) → get_or best v 0 ≡ x + 1 → (a : ℕ) → Covers (cycle_pass net places b m e) best a v x) → KeptCycle net b m e → ⊥
    cycle-none covers t =
        let P = cycle_pass net places b m e in
        let n = net.modes in
        let k = net.duties in
        let high : ℕ → ℕ → ℕ = λ j i. get_or best (node n j i) 0 in
        let closed = covered-closed P fits cycle-usable (Lasts net) lasts-ok m e best w tail hm from covers in
        let h : ClosingArc net b m e high = kept-closed net b m e high closed t in
        let a = h.arc in
        let u = node n (next net k h.from a) (net.graph.target a) in
        let x = after b (net.graph.move a) h.charged in
        let back : u ≡ node n k m = rw (h.last, h.back) refl in
        let d = arc-along P fits cycle-usable a h.from h.charged h.lasts.0.0 ((lasts-ok a).0 h.lasts).1 h.possible in
        let passes = (covers (node n h.from (net.graph.source a)) h.charged (omega (arith, h.listed)) a).passes u x d in
        closes-not (node n k m) e u x passes back h.kept

    -- where arc a closes the cycle at entry head, the arcs to the entry and arc a are a cycle from m that keeps e
    cycle-arcs : (head a : ℕ) → Ready (cycle_pass net places b m e) (length best) (length w) → head < tail
        → Closes (cycle_pass net places b m e) a (node_at w head) (charge_at w head) → (arcs : List ℕ) → Traced w head 0 arcs
        → Kept net b m e (arcs ++ (a ∷ []))
    unfolding closed-kept
    cycle-arcs head a r before closes arcs t =
        let P = cycle_pass net places b m e in
        let n = net.modes in
        let k = net.duties in
        let d = along-taken P fits cycle-usable closes.step in
        let c = (closes-at (node n k m) e closes.node closes.charge).0 closes.at_goal in
        let high : ℕ → ℕ → ℕ = λ j i. suc (charge_at w head) in
        let closing : ClosingArc net b m e high =
        record {
          from = node_at w head / n;
          arc = a;
          charged = charge_at w head;
          bounded = (node-levels r (entry-low head from.queue before).0).0;
          lasts = (lasts-ok a).1 (d.known, d.allowed);
          listed = refl;
          possible = d.possible;
          last = d.rises ∙ rw c.0 (node-level n k m hm);
          back = d.enters ∙ rw c.0 (node-mode n k m hm);
          kept = omega (arith, d.left, c.1);
        }
        in
        let z =
        traced-reached P fits cycle-usable (Lasts net) lasts-ok m e best w tail hm from head (node_at w head / n)
        (net.graph.source a) (charge_at w head) arcs before refl (sym d.leaves) refl t
        in
        record { cycle = closed-kept net b m e high closing z.0; same = ap {B = List ℕ} (λ (y : List ℕ). y ++ (a ∷ [])) z.1 }

  -- the pass from mode m with charge e finds a cycle that keeps e, or there is none
  pub passed-cycle : (m e : ℕ) {best w : List ℕ} {found : Option Closing} {tail : ℕ} → m < net.modes
      → Ready (cycle_pass net places b m e) (length best) (length w) → Passed (cycle_pass net places b m e) m e best w found tail
      → CyclePassed net b m e w found
  passed-cycle m e {best} {w} {found = None} {tail = tail} hm r p =
      record { none = λ f. cycle-none m e best w tail hm p.from (p.covers f); some = tt }
  passed-cycle m e {best} {w} {found = Some k} {tail = tail} hm r p =
      let q = p.from.queue in
      record {
        none = λ f. absurd (none-some _ (sym f));
        some =
            record {
              few = subst (λ (y : ℕ). k.head < room y b) r.table (omega (arith, p.before, queue-room q));
              linked = queue-linked r q p.before;
              byte = omega (arith, p.closing.step.known, r.few_arcs);
              arcs = cycle-arcs m e best w tail hm p.from k.head k.arc r p.before p.closing;
            };
      }
