-- Walking a candidate loop, and climbing it from its top. Document 001, section 4: loops raised to their fixed point.
use Rattle.std.specs.Prelude.{ℕ, ◌≤◌, ◌<◌, ◌≡◌, Bool, true, false, Option, Some, None, List, ◌⊎◌, length, get_or}
use Rattle.walks.specs.BoundedStep.{after}
use Rattle.closing.specs.declared.steps.Stepped.{Stepped}
use Rattle.closing.specs.Closed.{Spread}
use Rattle.closing.specs.Stratum.{Stratum, graph_of, left_out, leaving, Staying}
use Rattle.closing.specs.Tables.{Low, Attained}

-- arc a may be used and is possible from charge e: it comes to mode t with charge x, and leaves the level or not
pub record Moved (S : Stratum) (a e : ℕ) (leaves : Bool) (t x : ℕ) : Type 0 where
  pub lasts : left_out S a ≡ false
  pub possible : ((graph_of S).move a).draw ≤ e
  pub left : leaves ≡ leaving S a
  pub reaches : x ≡ after S.numbers.bound ((graph_of S).move a) e
  pub enters : t ≡ (graph_of S).target a

-- what trying arc a from charge e gives: it is left out or draws more, or else it moves
abbrev pub Moves : Stratum → ℕ → ℕ → Option Stepped → Type 0
Moves S a e None = (left_out S a ≡ true) ⊎ (e < ((graph_of S).move a).draw)
Moves S a e (Some s) = Moved S a e s.leaves s.mode s.charge

-- arc a, which stays in the level, takes mode u with charge e to mode t with charge x
pub record Steps (S : Stratum) (a u e t x : ℕ) : Type 0 where
  pub stays : Staying S a
  pub leaves : (graph_of S).source a ≡ u
  pub possible : ((graph_of S).move a).draw ≤ e
  pub reaches : x ≡ after S.numbers.bound ((graph_of S).move a) e
  pub enters : t ≡ (graph_of S).target a

-- where mode v is reached with charge e it is reached with charge x
pub record Tops (S : Stratum) (v e x : ℕ) : Type 0 where
  pub low : x ≤ S.numbers.bound
  pub attained : (from : ℕ → ℕ) → Spread (graph_of S) (Staying S) S.numbers.bound from v e
      → Spread (graph_of S) (Staying S) S.numbers.bound from v x

-- what a walk from mode v with charge e leaves of the table, where that is attained
pub record Climbed (S : Stratum) (v e : ℕ) (best best' : List ℕ) : Type 0 where
  pub up : (t : ℕ) → get_or best t 0 ≤ get_or best' t 0
  pub size : length best' ≡ length best
  pub low : Low S best → Low S best'
  pub attained : (from : ℕ → ℕ) → Spread (graph_of S) (Staying S) S.numbers.bound from v e → Attained S from best → Attained S from best'
