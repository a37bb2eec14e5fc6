-- The table of greatest charges. Document 02, Ask 9: "Keep for each mode the greatest charge with which it can be reached (the start mode by no arc
-- with c), or 'unreached'." By arcs that are on, under the bound b.
use Rattle.std.specs.Prelude.{ℕ, ◌≤◌, ◌<◌, ◌≡◌, List, length, get_or}
use Rattle.limits.specs.Ceilings.{modes_most}
use Rattle.walks.specs.Walk.{Ends}
use Rattle.model.specs.Automaton.{Automaton}
use Rattle.model.specs.Plans.{Leads, walked_arcs}
use Rattle.switches.specs.PlansOn.{AllOn}

-- mode s can be reached with charge e: arcs that are on lead there from the start mode, every step is possible from c, and the last leads to e
pub record Reachable (g : Automaton) (on : List ℕ) (b c s e : ℕ) : Type 0 where
  pub arcs : List ℕ
  pub leads : Leads g g.start arcs s
  pub all_on : AllOn on arcs
  pub ends : walked_arcs g b arcs c ≡ Ends e

-- the word that stands for "unreached"; no charge is as high
abbrev pub unreached : ℕ
unreached = 65535

-- the word of mode s: "the greatest charge with which it can be reached .., or 'unreached'"
pub data Greatest (g : Automaton) (on : List ℕ) (b c s : ℕ) : ℕ → Type 0 where
  charge : {e : ℕ} → Reachable g on b c s e → ((x : ℕ) → Reachable g on b c s x → x ≤ e) → Greatest g on b c s e
  none : ((x : ℕ) → Reachable g on b c s x → ⊥) → Greatest g on b c s unreached

-- a word for each mode that a model may have; one that is none of the model's is unreached, as nothing leads there
pub record IsTable (g : Automaton) (on : List ℕ) (b c : ℕ) (charges : List ℕ) : Type 0 where
  pub size : length charges ≡ modes_most
  pub words : (s : ℕ) → s < modes_most → Greatest g on b c s (get_or charges s 0)
