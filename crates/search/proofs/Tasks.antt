-- Laws of a task: its passes are ready, what they leave, and the table of the code that the pass from a mode is lent. Assumes nothing.
use Rattle.std.specs.Prelude.{Option}
use Rattle.std.specs.Option.{IsSome, IfSome}
use mathlib.Core.Path.{◌≡◌, refl, sym, ap, subst, fun_ext, ◌∙◌}
use mathlib.Core.Bool.{Bool, true, false, not, ◌&&◌, and-eq-true_iff}
use mathlib.Core.List.{List}
use Prim.Native.Nat.{ℕ, zero, suc, ◌+◌, ◌*◌, ◌≤◌, ◌<◌}
use native.Mathlib.Nat.{one-mul, mul-le-mul, mul-le-mul_right}
use native.Mathlib.Omega.{arith}
use lib.ListN.{length, take, replicate, length-replicate}
use Rattle.limits.specs.Ceilings.{modes_most, colours_most, work_space}
use Rattle.groups.specs.declared.Row.{Row}
use Rattle.groups.specs.Rows.{barred_at, on_at}
use Rattle.passes.specs.declared.pass.Closing.{Closing}
use Rattle.passes.specs.Pass.{Pass, Ready, node, room}
use Rattle.passes.specs.Queue.{Passed}
use Rattle.passes.specs.Outcome.{Peak, CyclePassed}
use Rattle.passes.specs.declared.pass.Task.{Task}
use Rattle.passes.specs.Tasks.{task_net, pass_of}
use Rattle.passes.proofs.Outcomes.{cycle_pass, passed-cycle}
use Rattle.passes.proofs.Queue.{ready-kept}
use Rattle.search.specs.Tasks.{Searchable, PrefixPassed}
use Rattle.search.proofs.Prefix.{prefix_pass, passed-prefix}

-- the most nodes of a pass
abbrev pub nodes_most : ℕ
nodes_most = (colours_most + 1) * modes_most

-- a part of a blank table is blank
pub take-replicate : (n m : ℕ) → n ≤ m → take {A = ℕ} n (replicate m 0) ≡ replicate n 0
take-replicate zero m h = refl
take-replicate (suc n) zero h = absurd (omega arith)
take-replicate (suc n) (suc m) h = rw (take-replicate n m (omega arith)) refl

-- a pass of a task, over the levels 0 to last
abbrev task_pass : List Row → List ℕ → Task → Bool → ℕ → ℕ → ℕ → Pass
task_pass rows places t lasting last goal least = pass_of rows places t (record { lasting = lasting; last = last; goal = goal; least = least })

module _ {rows : List Row} {places : List ℕ} {t : Task} (able : Searchable rows places t) where
  few-levels : t.duties + 1 ≤ colours_most + 1
  few-levels = omega (arith, able.few_duties)

  -- where nothing is barred all arcs last, so that the pass from mode m with charge e is that over the arcs that last
  cycle-same : (m e : ℕ) → task_pass rows places t t.barred t.duties (node t.modes t.duties m) e
      ≡ cycle_pass (task_net rows places t) places t.bound m e
  cycle-same m e =
      ap {B = Pass}
      (λ (ok : ℕ → Bool).
      record {
        net = task_net rows places t;
        places = places;
        ok = ok;
        last = t.duties;
        bound = t.bound;
        goal = node t.modes t.duties m;
        least = e;
      })
      (fun_ext (λ a. same a t.barred able.unbarred))
    where
      both : (o t : Bool) → (t && o) ≡ (o && t)
      both true true = refl
      both true false = refl
      both false true = refl
      both false false = refl

      same : (a : ℕ) (s : Bool) → (s ≡ false → (a : ℕ) → barred_at rows a ≡ false)
          → (not (s && barred_at rows a) && on_at rows a) ≡ (on_at rows a && not (barred_at rows a))
      same a true none = both (on_at rows a) (not (barred_at rows a))
      same a false none = both (on_at rows a) true ∙ ap {B = Bool} (λ (t : Bool). on_at rows a && not t) (sym (none refl a))

  -- the nodes of the pass from a mode fit the table of the code
  pub nodes-few : (t.duties + 1) * t.modes ≤ nodes_most
  nodes-few = omega (arith, mul-le-mul few-levels able.few_modes)

  -- the part of that table which is lent to the pass is blank
  pub table-blank : take {A = ℕ} ((t.duties + 1) * t.modes) (replicate nodes_most 0) ≡ replicate ((t.duties + 1) * t.modes) 0
  table-blank = take-replicate ((t.duties + 1) * t.modes) nodes_most nodes-few

  -- with working space that is long enough
  module _ {words : ℕ} (space : work_space t.duties t.modes t.bound ≤ words) where
    -- a pass over the levels 0 to last, with a blank table that has a word for each node
    module _ {last m : ℕ} {table : List ℕ} (levels : last ≤ t.duties) (count : m ≡ (last + 1) * t.modes)
        (blank : table ≡ replicate m 0) where
      size : length table ≡ m
      size = ap length blank ∙ length-replicate m 0

      more : (last + 1) * (t.modes * (t.bound + 1)) ≤ (t.duties + 1) * (t.modes * (t.bound + 1))
      more = mul-le-mul_right (t.modes * (t.bound + 1)) (omega arith)

      -- it is ready, with a table and a working space as long
      pass-ready : (lasting : Bool) {goal least nodes words' : ℕ} → nodes ≡ length table → words' ≡ words → Ready (task_pass rows places t lasting last goal least) nodes words'
      unfolding room node
      pass-ready lasting hb hw =
          ready-kept (record {
            some-mode = able.some-mode;
            few_modes = able.few_modes;
            few_arcs = able.few_arcs;
            targets = λ a h o. able.fits.targets a (h, o);
            allows = λ a o. ((and-eq-true_iff (not (lasting && barred_at rows a)) (on_at rows a)).0 o).1;
            grouped = able.grouped;
            levels = omega (arith, few-levels);
            low = able.low;
            table = omega arith;
            small = omega (arith, mul-le-mul few-levels able.product, more);
            space = omega (arith, space, more);
          }) (hb ∙ size ∙ count) hw

      -- what it asks, where it begins at mode s with charge c
      pub pass-asked : (lasting : Bool) {goal least s c : ℕ} → s < t.modes → c ≤ t.bound
          → Ready (task_pass rows places t lasting last goal least) (length table) words
          × ((s < length table) × (c ≤ t.bound) × (table ≡ replicate (length table) 0))
      pass-asked lasting hs hc = (pass-ready lasting refl refl, (omega (arith, size, count), hc, rw size blank))

    -- what the pass to mode m with its peak leaves
    pub prefix-left : {m e : ℕ} {table best w : List ℕ} {found : Option Closing} {tail : ℕ} → Peak (task_net rows places t) t.bound t.credit m e
        → ((m ≡ t.start) × (e ≡ t.credit) → ⊥) → table ≡ replicate t.modes 0 → length best ≡ length table → length w ≡ words
        → Passed (prefix_pass (task_net rows places t) places t.bound m e) t.start t.credit best w found tail
        → IsSome found × IfSome found (λ k. PrefixPassed (task_net rows places t) t.bound t.credit m e w k.head k.arc)
    prefix-left {m} {e} peak other q hb hw p =
        passed-prefix (task_net rows places t) places t.bound t.credit m e able.fits peak other
        (pass-ready (omega arith) (sym (one-mul t.modes)) q false hb hw) p

    -- what the pass from mode m with charge e leaves
    pub cycle-left : {m e : ℕ} {table best w : List ℕ} {found : Option Closing} {tail : ℕ} → m < t.modes
        → table ≡ replicate ((t.duties + 1) * t.modes) 0 → length best ≡ length table → length w ≡ words
        → Passed (task_pass rows places t t.barred t.duties (node t.modes t.duties m) e) m e best w found tail
        → CyclePassed (task_net rows places t) t.bound m e w found
    cycle-left {m} {e} {best = best} {w} {found} {tail} hm q hb hw p =
        passed-cycle (task_net rows places t) places t.bound able.fits m e hm
        (subst (λ (x : Pass). Ready x (length best) (length w)) (cycle-same m e) (pass-ready (omega arith) refl q t.barred hb hw))
        (subst (λ (x : Pass). Passed x m e best w found tail) (cycle-same m e) p)
