-- What the inner functions are given and leave: the words of the table that closing leaves, the charges that are handed back, an arc that is
-- switched. No public promise rests on these words.
use Rattle.std.specs.Prelude.{ℕ, zero, suc, ◌≤◌, ◌<◌, ◌≡◌, Bool, List, length, get_or, Result, Ok}
use Rattle.limits.specs.Ceilings.{modes_most, bound_most}
use Rattle.refusals.specs.declared.Refusal.{Refusal}
use Rattle.refusals.specs.Refusals.{and_then}
use Rattle.model.specs.declared.Model.{Model}
use Rattle.model.specs.Automaton.{Automaton}
use Rattle.model.specs.Lists.{Lists, model_of}
use Rattle.model.specs.Fitness.{Holds}
use Rattle.switches.specs.Switches.{is_on, switched}
use Rattle.reach.specs.declared.Reach.{Reach}
use Rattle.reach.specs.Table.{unreached, IsTable}
use Rattle.reach.specs.Reach.{levelled}

-- a word of closing: 0 for none, else the charge plus 1
abbrev pub charge_of : ℕ → ℕ
charge_of zero = unreached
charge_of (suc e) = e

-- the first s charges are those of the words
pub record Charged (words : List ℕ) (s : ℕ) (charges : List ℕ) : Type 0 where
  pub size : length charges ≡ modes_most
  pub charges_of : (i : ℕ) → i < s → get_or charges i 0 ≡ charge_of (get_or words i 0)

-- the value holds a fit model, and 6 does not apply
pub record Tabled (g : Model) (b c : ℕ) : Type 0 where
  pub holds : Holds g
  pub credit : c ≤ b
  pub low : b ≤ bound_most

-- arc a of the table y switched, where none of 1 to 6 and 12 applies
pub record Turned (g : Automaton) (b c a : ℕ) (told : Bool) (y z : Reach) : Type 0 where
  pub already : is_on y.on a ≡ told → z ≡ y
  pub turned : (is_on y.on a ≡ told → ⊥) → z.on ≡ switched told y.on a
  pub table : (is_on y.on a ≡ told → ⊥) → IsTable g (switched told y.on a) b c z.charges

-- 1 to 6, and the model where none of them applies
abbrev pub levelled_model : ℕ → ℕ → ℕ → Lists → ℕ → ℕ → Result Model Refusal
levelled_model n s k l b c = and_then (levelled n s k l b c) (Ok (model_of n s k l))
