-- Sets of peaks. A set begins as the peaks of all modes; from all its members at once, those stay that are reached again in the last level with
-- the peak or more, as Emerson and Lei do for sets of states. A set is a table: the peak of a member plus 1, and 0 for a mode that is none.
use Rattle.std.specs.Prelude.{ℕ, zero, suc, ◌<◌, ◌≡◌, true, leb}
use Rattle.nets.specs.Net.{Net, Lasts}
use Rattle.nets.specs.Table.{Peaks, KeptCycle}
use Rattle.closing.specs.Closed.{word_if}
use Rattle.sets.specs.Levels.{LevelTable}

-- With no duties at all every arc counts as meeting duty 0: then the last level is reached by a walk of at least one arc only, as a cycle is.
abbrev pub counted_from : ℕ → Net → Net
counted_from zero g =
    record {
      graph = g.graph;
      modes = g.modes;
      start = g.start;
      count = g.count;
      on = g.on;
      lasting = g.lasting;
      duties = 1;
      meets = λ j a. true;
    }
counted_from (suc k) g = g

abbrev pub counted : Net → Net
counted g = counted_from g.duties g

-- last has the greatest charges with which the modes are reached in the last level from the members of the set, over arcs that last
abbrev pub LastTable : Net → ℕ → (ℕ → ℕ) → (ℕ → ℕ) → Type 0
LastTable g b set last = LevelTable (counted g) (Lasts (counted g)) (counted g).duties b set (counted g).duties last

-- the word of a member that is reached again with its peak or more stays
abbrev pub sifted : ℕ → ℕ → ℕ
sifted x y = word_if (leb x y) x

-- a set of peaks that has every peak that a cycle keeps
pub record PeakSet (g : Net) (b c : ℕ) (set : ℕ → ℕ) : Type 0 where
  pub high : ℕ → ℕ → ℕ
  pub peaks : Peaks g b c high
  pub bounded : (s : ℕ) → 0 < set s → s < g.modes
  pub listed : (s : ℕ) → 0 < set s → high 0 s ≡ set s
  pub holds : (s e : ℕ) → s < g.modes → high 0 s ≡ suc e → KeptCycle g b s e → 0 < set s

-- some member's peak is kept by a cycle
pub record KeptMember (g : Net) (b : ℕ) (set : ℕ → ℕ) : Type 0 where
  pub mode : ℕ
  pub peak : ℕ
  pub listed : set mode ≡ suc peak
  pub cycle : KeptCycle g b mode peak
