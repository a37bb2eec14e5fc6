-- The peaks of the net of a model, in words, are the table of greatest charges. Assumes nothing.
use mathlib.Core.Path.{◌≡◌, sym, ap, subst, ◌∙◌}
use mathlib.Core.List.{List}
use mathlib.Core.Logic.{◌↔◌}
use Prim.Native.Nat.{ℕ, zero, suc, ◌≤◌, ◌<◌}
use native.Mathlib.Decide.{dec_lt}
use native.Mathlib.Omega.{arith}
use lib.ListN.{get_or}
use Rattle.limits.specs.Ceilings.{modes_most}
use Rattle.walks.specs.Walk.{Ends}
use Rattle.walks.proofs.Walks.{walked-moves, walked_to}
use Rattle.model.specs.Automaton.{Automaton, moves_of}
use Rattle.model.specs.Fitness.{Fit}
use Rattle.nets.specs.Net.{Usable}
use Rattle.nets.specs.Table as nets
use Rattle.nets.specs.Table.{Peaks}
use Rattle.nets.specs.Whole.{whole}
use Rattle.nets.proofs.Leads.{leads-bound}
use Rattle.nets.proofs.Levels.{level-bound}
use Rattle.nets.proofs.Tables.{reached-below}
use Rattle.nets.proofs.Whole.{whole-fits, whole-usable}
use Rattle.reach.specs.Table.{Reachable, Greatest, charge, none, IsTable}
use Rattle.reach.specs.Words.{charge_of, Charged}

module _ (g : Automaton) (x : ℕ) (on : List ℕ) (b c : ℕ) where
  -- what can be reached in the model is what is reached in its net, in the one level that there is
  pub reachable-net : (s e : ℕ) → Reachable g on b c s e ↔ nets.Reached (whole g x on) (Usable (whole g x on)) 0 b g.start c 0 s e
  reachable-net s e = (
    λ r.
        let (possible, reaches) = walked_to b (moves_of g r.arcs) c e r.ends in
        record {
          arcs = r.arcs;
          leads = (whole-usable g x on r.arcs g.start s).0 (r.leads, r.all_on);
          levels = omega (arith, level-bound (whole g x on) 0 r.arcs 0 (omega arith));
          possible = possible;
          reaches = reaches;
        },
    λ r.
        let (leads, all_on) = (whole-usable g x on r.arcs g.start s).1 r.leads in
        record {
          arcs = r.arcs;
          leads = leads;
          all_on = all_on;
          ends = (walked-moves b (moves_of g r.arcs) c).leads r.possible ∙ ap Ends r.reaches;
        },
  )

  module _ (fit : Fit g) (high : ℕ → ℕ → ℕ) (peaks : Peaks (whole g x on) b c high) where
    -- only a mode of the model can be reached
    reachable-mode : (s e : ℕ) → Reachable g on b c s e → s < g.modes
    reachable-mode s e r =
        let w = (reachable-net s e).0 r in
        leads-bound (whole g x on) (whole-fits g x on fit) w.arcs g.start s fit.starts w.leads

    -- and with no charge above its peak
    below : (s e : ℕ) → Reachable g on b c s e → e < high 0 s
    below s e r = reached-below (whole g x on) (Usable (whole g x on)) 0 b g.start c high peaks.closed 0 s e ((reachable-net s e).0 r)

    -- the charge of the peak is the greatest
    peak-greatest : (s w : ℕ) → s < g.modes → high 0 s ≡ w → Greatest g on b c s (charge_of w)
    peak-greatest s zero h q = none (λ e r. absurd (omega (arith, below s e r)))
    peak-greatest s (suc e) h q =
        charge ((reachable-net s e).1 (peaks.attained 0 s e (omega arith) h q)) (λ y r. omega (arith, below s y r))

    other-greatest : (s w : ℕ) → g.modes ≤ s → w ≡ 0 → Greatest g on b c s (charge_of w)
    other-greatest s zero h q = none (λ e r. absurd (omega (arith, reachable-mode s e r)))
    other-greatest s (suc w) h q = absurd (omega arith)

    -- words that are those of the peaks, and 0 for modes that are none of the model's, have the charges of the table
    pub peaks-table : (words charges : List ℕ) → ((s : ℕ) → s < g.modes → get_or words s 0 ≡ high 0 s)
        → ((s : ℕ) → g.modes ≤ s → get_or words s 0 ≡ 0) → Charged words modes_most charges → IsTable g on b c charges
    peaks-table words charges same past k = record { size = k.size; words = λ s h. go s h (dec_lt s g.modes) }
      where
        go : (s : ℕ) → s < modes_most → Dec (s < g.modes) → Greatest g on b c s (get_or charges s 0)
        go s h (yes l) =
            subst (λ (y : ℕ). Greatest g on b c s y) (sym (k.charges_of s h)) (peak-greatest s (get_or words s 0) l (sym (same s l)))
        go s h (no l) =
            subst (λ (y : ℕ). Greatest g on b c s y) (sym (k.charges_of s h)) (other-greatest s (get_or words s 0) (omega arith) (past s (omega arith)))
