-- The pass for the prefix: it ends at an arc that comes to a mode with its peak, since a walk of at least one arc does; the arcs to the entry that it was
-- tried at, and that arc, come there with the peak and no more. Assumes nothing.
use Rattle.std.specs.Prelude.{Option, Some, None}
use Rattle.std.specs.Option.{IsSome, IfSome}
use mathlib.Core.Path.{◌≡◌, refl, sym, ap, subst, ◌∙◌}
use mathlib.Core.Bool.{true}
use mathlib.Core.List.{List, [], ◌∷◌, ◌++◌}
use mathlib.Core.Logic.{◌↔◌}
use Prim.Native.Nat.{ℕ, suc, pred, ◌+◌, ◌≤◌, ◌<◌}
use native.Mathlib.Nat.{div-eq_of_lt, mod-eq_of_lt}
use native.Mathlib.Omega.{arith}
use lib.ListN.{length, get_or}
use Rattle.walks.specs.BoundedStep.{after}
use Rattle.walks.specs.Moves.{charge, Possible}
use Rattle.nets.specs.Graph.{moves, Leads}
use Rattle.nets.specs.Net.{Net, Usable, Fits}
use Rattle.nets.specs.Table.{next, Closed, Reached}
use Rattle.nets.proofs.Tables.{reached-below, reached-on}
use Rattle.passes.specs.declared.pass.Closing.{Closing}
use Rattle.passes.specs.Pass.{Pass, Ready, node, room}
use Rattle.passes.specs.Queue.{node_at, charge_at, Covers, Closes, Begun, Passed}
use Rattle.passes.specs.Trace.{Traced}
use Rattle.passes.specs.Outcome.{Arrival, Peak}
use Rattle.passes.proofs.Nodes.{node-first, nodes-first}
use Rattle.passes.proofs.Steps.{closes-at, closes-not, along-taken, arc-along}
use Rattle.passes.proofs.Queue.{queue-room, entry-low}
use Rattle.passes.proofs.Traces.{queue-linked}
use Rattle.passes.proofs.Walks.{traced-reached, covered-closed}
use Rattle.search.specs.Tasks.{PrefixPassed}

-- the pass to mode m with charge e: a single level, over all arcs that are on
abbrev pub prefix_pass : Net → List ℕ → ℕ → ℕ → ℕ → Pass
prefix_pass g places b m e = record { net = g; places = places; ok = g.on; last = 0; bound = b; goal = m; least = e }

-- an arc from an entry of a table that comes to mode m with e or more
record LastArc (g : Net) (b m e : ℕ) (high : ℕ → ℕ → ℕ) : Type 0 where
  pub arc : ℕ
  pub charged : ℕ
  pub usable : Usable g arc
  pub listed : high 0 (g.graph.source arc) ≡ suc charged
  pub possible : (g.graph.move arc).draw ≤ charged
  pub enters : g.graph.target arc ≡ m
  pub comes : e ≤ after b (g.graph.move arc) charged

-- where a walk from below an entry of a closed table ends at m, no lower than e, its last arc is one
last-arc : (g : Net) (b m e : ℕ) (high : ℕ → ℕ → ℕ) {s c : ℕ} → Closed g (Usable g) 0 b s c high → (w : List ℕ) (t y : ℕ) → y < high 0 t → 0 < length w
    → Leads g.graph (Usable g) t w m → Possible b (moves g.graph w) y → e ≤ charge b (moves g.graph w) y → LastArc g b m e high
last-arc g b m e high k [] t y h n d p r = absurd (omega arith)
last-arc g b m e high k (a ∷ []) t y h n d p r =
    record {
      arc = a;
      charged = pred (high 0 t);
      usable = d.0;
      listed = rw d.1 (omega arith);
      possible = omega arith;
      enters = d.2;
      comes = omega arith;
    }
last-arc g b m e high k (a ∷ x ∷ w) t y h n d p r =
    let z : high 0 (g.graph.source a) ≡ suc (pred (high 0 t)) = rw d.1 (omega arith) in
    last-arc g b m e high k (x ∷ w) (g.graph.target a) (after b (g.graph.move a) y)
    (omega (arith, k.steps 0 a (pred (high 0 t)) (omega arith) d.0 z (omega arith))) (omega arith) d.2 p.1 r

module _ (g : Net) (places : List ℕ) (b c m e : ℕ) (fits : Fits g) (peak : Peak g b c m e) (other : (m ≡ g.start) × (e ≡ c) → ⊥) where
  usable-ok : (a : ℕ) → Usable g a ↔ ((a < g.count) × (g.on a ≡ true))
  usable-ok a = (λ h. h, λ h. h)

  on-usable : (a : ℕ) → a < g.count → g.on a ≡ true → Usable g a
  on-usable a h o = (h, o)

  -- the walk to the peak has an arc
  walk : Reached g (Usable g) 0 b g.start c 0 m e
  walk = peak.peaks.attained 0 m e (omega arith) peak.mode peak.listed

  has_arc : (w : List ℕ) → Leads g.graph (Usable g) g.start w m → charge b (moves g.graph w) c ≡ e → 0 < length w
  has_arc [] d q = absurd (other (sym d, sym q))
  has_arc (a ∷ w) d q = omega arith

  module _ {best w : List ℕ} {tail : ℕ} (from : Begun (prefix_pass g places b m e) g.start c best w tail) where
    -- so the pass does not end without having come there
    unfinished : ((v x : ℕ) → get_or best v 0 ≡ x + 1 → (a : ℕ) → Covers (prefix_pass g places b m e) best a v x) → ⊥
    unfinished covers =
        let P = prefix_pass g places b m e in
        let n = g.modes in
        let high : ℕ → ℕ → ℕ = λ l t. get_or best (node n l t) 0 in
        let closed = covered-closed P fits on-usable (Usable g) usable-ok g.start c best w tail fits.starts from covers in
        let h = last-arc g b m e high closed walk.arcs g.start c closed.begins (has_arc walk.arcs walk.leads walk.reaches) walk.leads
        walk.possible (omega (arith, walk.reaches)) in
        let a = h.arc in
        let u = node n (next g 0 0 a) (g.graph.target a) in
        let x = after b (g.graph.move a) h.charged in
        let back : u ≡ m = rw h.enters (node-first n m) in
        let d = arc-along P fits on-usable a 0 h.charged h.usable.0 h.usable.1 h.possible in
        let passes = (covers (node n 0 (g.graph.source a)) h.charged (omega (arith, h.listed)) a).passes u x d in
        closes-not m e u x passes back h.comes

    -- where arc a comes there at entry head, the arcs to the entry and arc a are a walk to the peak, since no charge of the mode is above it
    prefix-arcs : (head a : ℕ) → length best ≡ g.modes → head < tail → Closes (prefix_pass g places b m e) a (node_at w head) (charge_at w head)
        → (arcs : List ℕ) → Traced w head 0 arcs → Arrival g b c m e (arcs ++ (a ∷ []))
    unfolding reached-on
    prefix-arcs head a size before closes arcs t =
        let P = prefix_pass g places b m e in
        let n = g.modes in
        let d = along-taken P fits on-usable closes.step in
        let k = (closes-at m e closes.node closes.charge).0 closes.at_goal in
        let low : node_at w head < n = omega (arith, (entry-low head from.queue before).0) in
        let z =
        traced-reached P fits on-usable (Usable g) usable-ok g.start c best w tail fits.starts from head 0
        (g.graph.source a) (charge_at w head) arcs before (div-eq_of_lt low) (sym d.leaves) refl t
        in
        let enters : g.graph.target a ≡ m = d.enters ∙ rw k.0 (mod-eq_of_lt peak.mode) in
        let on : (y : ℕ) → after b (g.graph.move a) (charge_at w head) ≡ y → Reached g (Usable g) 0 b g.start c 0 m y = λ y q.
        reached-on g (Usable g) 0 b g.start c 0 0 (g.graph.source a) m (charge_at w head) y (a ∷ []) z.0 ((d.known, d.allowed), refl, enters) refl
        (d.possible, tt) q
        in
        let below = reached-below g (Usable g) 0 b g.start c peak.high peak.peaks.closed 0 m closes.charge (on closes.charge d.left) in
        record {
          reached = on e (omega (arith, below, peak.listed, k.1, d.left));
          same = ap {B = List ℕ} (λ (y : List ℕ). y ++ (a ∷ [])) z.1;
        }

  -- what the pass leaves
  pub passed-prefix : {best w : List ℕ} {found : Option Closing} {tail : ℕ} → Ready (prefix_pass g places b m e) (length best) (length w)
      → Passed (prefix_pass g places b m e) g.start c best w found tail → IsSome found × IfSome found (λ k. PrefixPassed g b c m e w k.head k.arc)
  passed-prefix {found = None} r p = absurd (unfinished p.from (p.covers refl))
  passed-prefix {best} {w} {found = Some k} r p =
      let q = p.from.queue in
      let size : length best ≡ g.modes = r.table ∙ nodes-first g.modes in (
        refl,
        record {
          few = subst (λ (y : ℕ). k.head < room y b) size (omega (arith, p.before, queue-room q));
          linked = queue-linked r q p.before;
          byte = omega (arith, p.closing.step.known, r.few_arcs);
          arcs = prefix-arcs p.from k.head k.arc size p.before p.closing;
        },
      )
