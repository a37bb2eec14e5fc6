-- The words on the stack: what closing asks of them, and that the table that it leaves there has the charges of the model's table. Assumes nothing.
use mathlib.Core.Path.{◌≡◌, refl, sym, ap, subst, ◌∙◌}
use mathlib.Core.List.{List, ◌++◌}
use Prim.Native.Nat.{ℕ, ◌+◌, ◌-◌, ◌≤◌, ◌<◌}
use native.Mathlib.Decide.{dec_lt}
use native.Mathlib.Omega.{arith}
use lib.ListN.{length, get_or, take, drop, replicate, get_or-append}
use lib.Seq.{length-take-le, get_or-append-add, get_or-drop}
use Rattle.limits.specs.Ceilings.{modes_most, bound_most}
use Rattle.model.specs.declared.Model.{Model}
use Rattle.model.specs.Required.{required}
use Rattle.model.specs.Lists.{held}
use Rattle.nets.specs.Net.{Net}
use Rattle.nets.specs.Table.{Peaks}
use Rattle.groups.specs.declared.Groups.{Groups}
use Rattle.groups.specs.Groups.{places_of, groups_of}
use Rattle.groups.specs.Rows.{rows_of}
use Rattle.groups.specs.Grouped.{arc_count}
use Rattle.groups.proofs.Filled.{zeros-at}
use Rattle.passes.specs.RowsNet.{rows_net}
use Rattle.passes.proofs.RowsNet.{count_same, net-same, rows_fit, rows-grouped}
use Rattle.closing.specs.Stratum.{stratum, level_alone, Ready, Placed}
use Rattle.closing.specs.Tables.{Findable, PeaksFound}
use Rattle.reach.specs.Table.{IsTable}
use Rattle.reach.specs.Words.{Charged, Tabled}
use Rattle.reach.proofs.Tables.{peaks-table}

-- a table as it is made
abbrev blank : List ℕ
blank = replicate modes_most 0

-- and once the words for n modes are those of best
abbrev filled : ℕ → List ℕ → List ℕ
filled n best = best ++ drop n blank

-- a word for each mode is lent
pub lent-words : {g : Model} {b c : ℕ} → Tabled g b c → g.modes ≡ length (take g.modes blank)
lent-words {g} able = sym (length-take-le g.modes blank (omega (arith, able.holds.fit.few_modes)))

module _ {g : Model} (on : List ℕ) {b c : ℕ} {groups : Groups} (able : Tabled g b c) (same : groups ≡ groups_of g 0 on) where
  -- the rows and places are those of the model, ..
  ready : Ready (stratum (rows_of g 0 on) (level_alone (arc_count (places_of g on) g.modes) b)) g.modes
  ready =
      let h = able.holds in
      record {
        few_modes = h.fit.few_modes;
        few_arcs = omega (arith, count_same g 0 on h, h.count, h.fit.few_arcs);
        targets = λ a k o. (rows_fit g 0 on h).targets a (k, o);
        levels = omega arith;
        low = omega (arith, able.low);
      }

  -- .. with as many modes as words are lent: what closing asks
  pub findable : Findable groups.rows groups.places g.start c b (take g.modes blank)
  findable =
      let e = lent-words able in
      rw same (record {
        ready = subst (λ (m : ℕ). Ready (stratum (rows_of g 0 on) (level_alone (arc_count (places_of g on) m) b)) m) e ready;
        placed =
            subst (λ (m : ℕ). Placed (stratum (rows_of g 0 on) (level_alone (arc_count (places_of g on) m) b)) m (places_of g on)) e
            (rows-grouped g 0 on able.holds);
        starts = omega (arith, e, able.holds.fit.starts);
        credit = able.credit;
      })

  module _ {best : List ℕ} (found : PeaksFound groups.rows groups.places (length (take g.modes blank)) g.start c b best) where
    size : length best ≡ g.modes
    size = found.size ∙ sym (lent-words able)

    -- the words for the modes are those of the peaks, the others are 0
    front : (s : ℕ) → s < g.modes → get_or (filled g.modes best) s 0 ≡ get_or best s 0
    front s h = get_or-append best (drop g.modes blank) 0 s (omega (arith, size))

    past : (s : ℕ) → g.modes ≤ s → get_or (filled g.modes best) s 0 ≡ 0
    past s h =
        let e : length best + (s - g.modes) ≡ s = omega (arith, size) in
        ap {B = ℕ} (λ (i : ℕ). get_or (filled g.modes best) i 0) (sym e) ∙ get_or-append-add best (drop g.modes blank) (s - g.modes) 0
        ∙ get_or-drop g.modes blank (s - g.modes) 0 ∙ zeros-at modes_most (g.modes + (s - g.modes))

    -- none is above the bound plus 1
    pub words-low : (s : ℕ) → get_or (filled g.modes best) s 0 ≤ bound_most + 1
    words-low s =
        elim (dec_lt s g.modes) [
          | yes h ↦ omega (arith, front s h, found.low s, able.low)
          | no h ↦ omega (arith, past s (omega arith))
        ]

    peaks : Peaks (rows_net groups.rows g.modes g.start (required 0 g.colours) (arc_count groups.places g.modes)) b c (λ l t. get_or best t 0)
    peaks =
        subst (λ (n : ℕ). Peaks (rows_net groups.rows n g.start (required 0 g.colours) (arc_count groups.places n)) b c (λ l t. get_or best t 0))
        (sym (lent-words able)) (found.peaks (required 0 g.colours))

    -- so their charges are the model's table
    pub words-table : {charges : List ℕ} → Charged (filled g.modes best) modes_most charges → IsTable (held g) on b c charges
    words-table {charges} k =
        let high : ℕ → ℕ → ℕ = λ l t. get_or best t 0 in
        peaks-table (held g) 0 on b c able.holds.fit high
        (subst (λ (y : Net). Peaks y b c high) (net-same g 0 on able.holds) (rw same at peaks))
        (filled g.modes best) charges front past k
