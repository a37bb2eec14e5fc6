-- What relax meets at an arc: the step that it takes, or that there is none; and what visit has from place to place. Assumes nothing.
use Rattle.std.specs.Prelude.{Option, None}
use mathlib.Core.Path.{◌≡◌, refl, sym, ap, ◌∙◌}
use mathlib.Core.Bool.{Bool, true, false, not, ◌&&◌}
use mathlib.Core.List.{List}
use Prim.Native.Nat.{ℕ, ◌+◌, ◌%◌, ◌≤◌, ◌<◌}
use native.Mathlib.Nat.{mod-lt}
use native.Mathlib.Omega.{arith}
use lib.ListN.{length}
use Rattle.walks.specs.BoundedStep.{to}
use Rattle.walks.specs.BoundedStep.{stepped}
use Rattle.walks.proofs.Walks.{stepped-to, stepped-off}
use Rattle.limits.specs.Ceilings.{modes_most, colours_most}
use Rattle.model.specs.Automaton.{bit}
use Rattle.groups.specs.declared.Row.{Row}
use Rattle.groups.specs.Rows.{source_at, target_at, draw_at, gain_at, colours_at, barred_at, on_at}
use Rattle.groups.specs.Grouped.{arc_placed, arc_count}
use Rattle.passes.specs.Pass.{Pass, Along, node}
use Rattle.passes.specs.Queue.{node_at, charge_at, Arrives, Arrived, Tried}
use Rattle.passes.specs.declared.pass.Task.{Task}
use Rattle.passes.specs.declared.pass.Aim.{Aim}
use Rattle.passes.specs.declared.pass.Closing.{Closing}
use Rattle.passes.specs.declared.pass.Entry.{Entry}
use Rattle.passes.specs.declared.pass.Outcome.{Outcome}
use Rattle.passes.specs.Tasks.{level_after, pass_of, entry_at, Trying, Relaxed}
use Rattle.passes.proofs.Places.{place-known, place-stands, place-leaves}
use Rattle.passes.proofs.Queue.{raised-low, along-inside, entry-low, node-levels, queue-arrives}
use Rattle.passes.proofs.Passes.{entry-same, arrived-tried, arrived-entry, tried-impossible, tried-more}

-- no arc leads above the last level
pub level-after-low : (last colours l : ℕ) → l ≤ last → level_after last colours l ≤ last
unfolding level_after
level-after-low last colours l low = raised-low last l (bit colours l) low

module _ {rows : List Row} {places : List ℕ} {t : Task} {m : Aim} {h : Entry} {i : ℕ} {best w : List ℕ} {tail : ℕ}
    (f : Trying rows places t m h i best w tail) where
  -- the parts of the entry are those of its words
  level-same : h.level ≡ (entry_at t.modes w h.index).level
  level-same = ap {B = ℕ} (λ (x : Entry). x.level) f.entry

  mode-same : h.mode ≡ node_at w h.index % t.modes
  mode-same = ap {B = ℕ} (λ (x : Entry). x.mode) f.entry

  charge-same : h.charge ≡ charge_at w h.index
  charge-same = ap {B = ℕ} (λ (x : Entry). x.charge) f.entry

  mode-known : h.mode < t.modes
  mode-known = rw (mode-same) (mod-lt (node_at w h.index) f.running.ready.some-mode)

  -- the arc is one of the net's, and leaves the mode
  arc-known : arc_placed places i < arc_count places t.modes
  arc-known = place-known f.running.ready mode-known f.group

  -- it is on
  arc-stands : on_at rows (arc_placed places i) ≡ true
  arc-stands = place-stands f.running.ready mode-known f.group

  arc-leaves : source_at rows (arc_placed places i) ≡ node_at w h.index % t.modes
  arc-leaves = place-leaves f.running.ready mode-known f.group ∙ mode-same

  -- its target is a mode
  pub relax-target : {a u : ℕ} → a ≡ arc_placed places i → u ≡ target_at rows a → u < t.modes
  relax-target {a} ea eu = rw (eu, ea) (f.running.ready.targets (arc_placed places i) arc-known arc-stands)

  -- the node of the entry is one of the pass's
  node-inside : node_at w h.index < length best
  node-inside = (entry-low h.index f.running.queue f.before).0

  -- its level is one of the pass's
  pub relax-levels : (h.level ≤ m.last) × (m.last ≤ colours_most) × (t.modes ≤ modes_most)
  relax-levels =
      let low = (node-levels f.running.ready node-inside).0 in
      (rw (level-same) low, f.running.ready.levels, f.running.ready.few_modes)

-- what the code reads of the arc
pub record Reads (rows : List Row) (places : List ℕ) (i a d g : ℕ) : Type 0 where
  pub arc : a ≡ arc_placed places i
  pub draw : d ≡ draw_at rows a
  pub gain : g ≡ gain_at rows a

module _ {rows : List Row} {places : List ℕ} {t : Task} {m : Aim} {h : Entry} {i : ℕ} {best w : List ℕ} {tail a d g : ℕ}
    (f : Trying rows places t m h i best w tail) (r : Reads rows places i a d g) where
  -- the step is not possible
  pub relax-impossible : stepped t.bound (record { draw = d; gain = g }) h.charge ≡ None
      → Relaxed (pass_of rows places t m) h i best w tail best w (record { found = None; tail = tail })
  relax-impossible e =
      record {
        tried =
            tried-impossible f.running.queue
            (λ u x s.
            let drawn : draw_at rows (arc_placed places i) ≤ charge_at w h.index = s.possible in
            let low : d ≤ h.charge = omega (arith, charge-same f, r.draw, ap {B = ℕ} (draw_at rows) r.arc) in
            let high = stepped-off t.bound (record { draw = d; gain = g }) h.charge e in
            absurd (omega arith));
        entry = tt;
      }

  -- the step that the arc takes
  pub relax-along : {u x l k y : ℕ} → (m.lasting && barred_at rows a) ≡ false → stepped t.bound (record { draw = d; gain = g }) h.charge ≡ to x l → k ≡ colours_at rows a
      → y ≡ target_at rows a → u ≡ node t.modes (level_after m.last k h.level) y
      → Along (pass_of rows places t m) (arc_placed places i) (node_at w h.index) (charge_at w h.index) u x
  unfolding level_after
  relax-along {u} {x} {l} {k} used e ek ey eu =
      let (low, left, cut) = (stepped-to t.bound (record { draw = d; gain = g }) h.charge x l).0 e in
      record {
        known = arc-known f;
        allowed = ap {B = Bool} (λ (t : Bool). not t && on_at rows (arc_placed places i)) (rw r.arc at used) ∙ arc-stands f;
        leaves = arc-leaves f;
        possible = omega (arith, charge-same f, r.draw, ap {B = ℕ} (draw_at rows) r.arc);
        left = sym left ∙ rw (r.draw, r.gain, r.arc, charge-same f) refl;
        enters = eu ∙ rw (ek, ey, r.arc, level-same f) refl;
      }

-- where the arc takes a step
module _ {rows : List Row} {places : List ℕ} {t : Task} {m : Aim} {h : Entry} {i : ℕ} {best w : List ℕ} {tail a u x : ℕ}
    (f : Trying rows places t m h i best w tail) (ea : a ≡ arc_placed places i)
    (s : Along (pass_of rows places t m) (arc_placed places i) (node_at w h.index) (charge_at w h.index) u x) where
  inside : u < length best
  inside = along-inside f.running.ready (node-inside f) s

  -- there is room for what it comes to
  pub relax-arrives : Arrives best w tail u x h.index a
  relax-arrives = rw ea (queue-arrives f.running.ready f.running.queue f.before inside s)

  -- what is done there is what trying the arc asks
  pub relax-arrived : {best' w' : List ℕ} {r : Outcome} → Arrived m.goal m.least best w tail u x h.index a best' w' r.found r.tail
      → Relaxed (pass_of rows places t m) h i best w tail best' w' r
  relax-arrived d =
      record { tried = arrived-tried f.running.queue f.before s inside (rw ea at d); entry = arrived-entry d }

-- one place more at the entry
pub tried-next : {P : Pass} {best w b1 w1 b2 w2 : List ℕ} {tail lo i t1 t2 : ℕ} {found : Option Closing} (index head : ℕ)
    → Tried P best w tail lo i (node_at w head) (charge_at w head) b1 w1 None t1 → head < tail → index ≡ head
    → Tried P b1 w1 t1 i (i + 1) (node_at w1 index) (charge_at w1 index) b2 w2 found t2
    → Tried P best w tail lo (i + 1) (node_at w head) (charge_at w head) b2 w2 found t2
tried-next index head s low e r =
    let (Node-kept, charge-kept) = entry-same head s.grown low in
    tried-more s (rw (e, Node-kept, charge-kept) at r)
