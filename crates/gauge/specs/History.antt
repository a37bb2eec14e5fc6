-- Steps one after the other. Document 02, Ask 2: "For any sequence of accepted steps from a start", with "the sum, over the history, of what
-- each step lost"; Ask 4: "c plus gains equals charge plus draws plus spill."
use Rattle.std.specs.Prelude.{ℕ, ◌+◌, List, [], ◌∷◌, map, Ok, Err}
use Rattle.walks.specs.BoundedStep.{Move, stepped}
use Rattle.walks.specs.Spill.{lost_in}
use Rattle.model.specs.Automaton.{Automaton, arc_at, move_of}
use Rattle.model.specs.Lists.{Lists, automaton_of}
use Rattle.gauge.specs.declared.Gauge.{Gauge}
use Rattle.gauge.specs.Gauge.{Gauged, gauge_or, after_gauged, stepped_of}

-- a call of the step: what it takes beside the gauge, a model, a bound and an arc of its own
pub record Call : Type 0 where
  pub modes : ℕ
  pub start : ℕ
  pub colours : ℕ
  pub lists : Lists
  pub bound : ℕ
  pub arc : ℕ

abbrev pub call_model : Call → Automaton
call_model d = automaton_of d.modes d.start d.colours d.lists

abbrev pub called : Call → Gauge → Gauged
called d x = stepped_of d.modes d.start d.colours d.lists d.bound d.arc x

-- the calls made one after the other, up to the first refusal
unfoldable pub called_all : List Call → Gauge → Gauged
called_all [] x = Ok x
called_all (d ∷ h) x = after_gauged (called d x) (called_all h)

-- the gauge that there is after these calls: the last one's, or the one that the first refusal leaves as found
abbrev pub gauge_on : Gauge → Gauged → (Gauge → Gauge) → Gauge
gauge_on x (Ok y) f = f y
gauge_on x (Err r) f = x

unfoldable pub gauge_after : List Call → Gauge → Gauge
gauge_after [] x = x
gauge_after (d ∷ h) x = gauge_on x (called d x) (gauge_after h)

-- the calls on the arcs of a list, with one model and bound
abbrev pub calls_of : ℕ → ℕ → ℕ → Lists → ℕ → List ℕ → List Call
calls_of n s k l b w = map (λ a. record { modes = n; start = s; colours = k; lists = l; bound = b; arc = a }) w

abbrev pub steps_of : ℕ → ℕ → ℕ → Lists → ℕ → List ℕ → Gauge → Gauged
steps_of n s k l b w = called_all (calls_of n s k l b w)

-- what the arc of a call draws and gains
abbrev pub call_move : Call → Move
call_move d = move_of (arc_at (call_model d) d.arc)

-- "the sum, over the history, of what each step lost": of calls none of which is refused
unfoldable pub lost_by : List Call → Gauge → ℕ
lost_by [] x = 0
lost_by (d ∷ h) x = lost_in (stepped d.bound (call_move d) x.charge) + lost_by h (gauge_or x (called d x))
