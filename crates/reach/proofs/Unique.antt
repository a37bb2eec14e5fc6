-- There is one table of greatest charges, what its words say, and which switches matter for it. Assumes nothing.
use mathlib.Core.Path.{◌≡◌, refl, sym, ◌∙◌}
use mathlib.Core.List.{List, []}
use mathlib.Core.Logic.{◌↔◌}
use Prim.Native.Nat.{ℕ, ◌≤◌, ◌<◌}
use native.Mathlib.Omega.{arith}
use lib.ListN.{length, get_or}
use lib.Seq.{ext_get_or}
use Rattle.limits.specs.Ceilings.{modes_most, bound_most}
use Rattle.walks.specs.Walk.{walked}
use Rattle.walks.proofs.Charges.{charge-bound}
use Rattle.walks.proofs.Walks.{walked_to}
use Rattle.model.specs.Automaton.{Automaton, moves_of}
use Rattle.switches.specs.Switches.{SameBelow}
use Rattle.switches.proofs.PlansOn.{MoreOn, leads-more}
use Rattle.reach.specs.Table as table
use Rattle.reach.specs.Table.{Reachable, unreached, Greatest, none, IsTable}

module _ {g : Automaton} {on : List ℕ} {b c : ℕ} where
  -- a mode has one word
  greatest-one : {s x y : ℕ} → Greatest g on b c s x → Greatest g on b c s y → x ≡ y
  greatest-one (table.charge {e} r up) (table.charge {e = y} q low) = omega (arith, up y q, low e r)
  greatest-one (table.charge {e} r up) (none nowhere) = absurd (nowhere e r)
  greatest-one (none nowhere) (table.charge {e = y} q low) = absurd (nowhere y q)
  greatest-one (none nowhere) (none never) = refl

  -- so there is one table
  pub table-one : {u v : List ℕ} → IsTable g on b c u → IsTable g on b c v → u ≡ v
  table-one {u} {v} h k =
      ext_get_or 0 u v (h.size ∙ sym k.size) (λ i l. greatest-one (h.words i (omega (arith, h.size))) (k.words i (omega (arith, h.size))))

  -- where 6 does not apply
  module _ (hc : c ≤ b) (hb : b ≤ bound_most) where
    -- no charge is the word for unreached
    reachable-low : {s e : ℕ} → Reachable g on b c s e → e < unreached
    reachable-low {s} {e} r =
        let (possible, reaches) = walked_to b (moves_of g r.arcs) c e r.ends in
        omega (arith, reaches, charge-bound b (moves_of g r.arcs) c hc)

    -- the word tells whether a mode can be reached, ..
    pub table-unreached : {u : List ℕ} {s : ℕ} → IsTable g on b c u → s < modes_most
        → (get_or u s 0 ≡ unreached) ↔ ((e : ℕ) → Reachable g on b c s e → ⊥)
    table-unreached {u} {s} h l = go (get_or u s 0) (h.words s l)
      where
        go : (w : ℕ) → Greatest g on b c s w → (w ≡ unreached) ↔ ((e : ℕ) → Reachable g on b c s e → ⊥)
        go w (table.charge {e} r up) = (λ q. absurd (omega (arith, reachable-low r)), λ f. absurd (f e r))
        go w (none nowhere) = (λ q. nowhere, λ f. refl)

    -- .. and with which charge, the greatest
    pub table-charge : {u : List ℕ} {s : ℕ} → IsTable g on b c u → s < modes_most → (e : ℕ) → e < unreached
        → (get_or u s 0 ≡ e) ↔ (Reachable g on b c s e × ((x : ℕ) → Reachable g on b c s x → x ≤ e))
    table-charge {u} {s} h l e low = go (get_or u s 0) (h.words s l)
      where
        go : (w : ℕ) → Greatest g on b c s w → (w ≡ e) ↔ (Reachable g on b c s e × ((x : ℕ) → Reachable g on b c s x → x ≤ e))
        go w (table.charge r up) = (λ q. rw (sym q) (r, up), λ (z, top). greatest-one (table.charge r up) (table.charge z top))
        go w (none nowhere) = (λ q. absurd (omega arith), λ (z, top). absurd (nowhere e z))

module _ {g : Automaton} (on : List ℕ) {b c : ℕ} where
  -- "the start mode by no arc with c"
  pub start-reachable : Reachable g on b c g.start c
  unfolding walked
  start-reachable = record { arcs = []; leads = refl; all_on = tt; ends = refl }

  -- so its word is no lower than c
  pub start-charge : {u : List ℕ} → c ≤ b → b ≤ bound_most → g.start < modes_most → IsTable g on b c u → c ≤ get_or u g.start 0
  start-charge {u} hc hb l h = go (get_or u g.start 0) (h.words g.start l)
    where
      go : (w : ℕ) → Greatest g on b c g.start w → c ≤ w
      go w (table.charge r up) = up c start-reachable
      go w (none nowhere) = omega arith

module _ {g : Automaton} {b c : ℕ} where
  -- with more arcs on, what can be reached still can ..
  pub reachable-more : {on on' : List ℕ} {s e : ℕ} → MoreOn g on on' → Reachable g on b c s e → Reachable g on' b c s e
  reachable-more {on} {on'} {s} more r =
      record {
        arcs = r.arcs;
        leads = r.leads;
        all_on = leads-more g on on' more r.arcs g.start s r.leads r.all_on;
        ends = r.ends;
      }

  greatest-same : {on on' : List ℕ} {s w : ℕ} → MoreOn g on on' → MoreOn g on' on → Greatest g on b c s w → Greatest g on' b c s w
  greatest-same more less (table.charge r up) = table.charge (reachable-more more r) (λ x q. up x (reachable-more less q))
  greatest-same more less (none nowhere) = none (λ x q. nowhere x (reachable-more less q))

  -- .. so switches that are the same below m have the same table: "Bits at or above m are ignored."
  pub table_same : {on on' u : List ℕ} → SameBelow (length g.arcs) on on' → IsTable g on b c u → IsTable g on' b c u
  table_same {on} {on'} same h =
      record { size = h.size; words = λ s l. greatest-same (λ a k q. sym (same a k) ∙ q) (λ a k q. same a k ∙ q) (h.words s l) }
