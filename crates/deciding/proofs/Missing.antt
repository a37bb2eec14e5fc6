-- A duty that no arc of a cycle can meet: there is no lasso, and the empty set says so. Assumes nothing.
use mathlib.Core.Path.{◌≡◌, refl, sym, ap, ◌∙◌}
use mathlib.Core.Bool.{Bool, true, false, false≢true, not}
use mathlib.Core.List.{List, [], ◌∷◌}
use mathlib.Core.Logic.{inl, inr}
use Prim.Native.Nat.{ℕ}
use native.Mathlib.Omega.{arith}
use lib.ListN.{get_or, replicate}
use Rattle.model.specs.Automaton.{bit}
use Rattle.model.specs.Plans.{SomeArc}
use Rattle.nets.specs.Graph.{Leads}
use Rattle.nets.specs.Net.{Lasts}
use Rattle.groups.specs.declared.Row.{Row}
use Rattle.groups.specs.Rows.{colours_at, barred_at}
use Rattle.groups.specs.Grouped.{arc_count}
use Rattle.closing.proofs.Lifts.{zeros}
use Rattle.deciding.specs.declared.Question.{Question}
use Rattle.deciding.specs.Deciding.{asked_net, SomeUnmet, KeptFound}

-- arcs that last meet it nowhere, so that no cycle has it
module _ (rows : List Row) (places : List ℕ) (q : Question) (n : ℕ) (k : SomeUnmet rows (arc_count places n) q.duties) where
  lasting-no : (β : Bool) → not β ≡ true → β ≡ false
  lasting-no true h = absurd (false≢true h)
  lasting-no false h = refl

  none-meets : (w : List ℕ) (s t : ℕ) → Leads (asked_net rows places q n).graph (Lasts (asked_net rows places q n)) s w t
      → SomeArc (λ a. bit (colours_at rows a) k.duty) w → ⊥
  none-meets [] s t d h = h
  none-meets (a ∷ w) s t d (inl h) =
      false≢true (sym (k.unmet a d.0.0.0 d.0.0.1 (lasting-no (barred_at rows a) d.0.1)) ∙ h)
  none-meets (a ∷ w) s t d (inr h) = none-meets w ((asked_net rows places q n).graph.target a) t d.2 h

  pub unmet-none-kept : (kept : List ℕ) → kept ≡ replicate n 0 → KeptFound (asked_net rows places q n) q.bound q.credit kept false
  unmet-none-kept kept z =
      record {
        peaks = λ s e h. absurd (omega (arith, h, zero_word s));
        below = record { below = λ v. omega (arith, zero_word v) };
        kept = λ h. absurd (false≢true h);
        lasso = λ h. absurd (false≢true h);
        none = λ h p. none-meets p.cycle p.mode p.mode p.closed.leads (p.meets k.duty k.below);
      }
    where
      zero_word : (v : ℕ) → get_or kept v 0 ≡ 0
      zero_word v = ap (λ (w : List ℕ). get_or w v 0) z ∙ zeros n v
