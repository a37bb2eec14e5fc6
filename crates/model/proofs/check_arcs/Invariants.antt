use mathlib.Core.Path.{◌≡◌}
use mathlib.Core.List.{List}
use Prim.Native.Nat.{ℕ}
use lib.ListN.{length}
use Rattle.model.specs.declared.Arc.{Arc}
use Rattle.model.specs.declared.Model.{Model}
use Rattle.model.specs.Lists.{Lists, lists_of}
use Rattle.model.proofs.Arcs.{Copying}
use Rattle.model.proofs.check_arcs.Given as goal

-- the model with these numbers, whose places have these arcs
abbrev pub model_with : ℕ → ℕ → ℕ → Lists → List Arc → Model
model_with n s k l arcs = record { modes = n; start = s; colours = k; count = length l.sources; arcs = arcs }

-- the arcs below i are copied, and nothing else of the model has changed
pub record CopyingInto (n s k power : ℕ) (l : Lists) (g : Model) (i : ℕ) : Type 0 where
  pub copying : Copying n power l g.arcs i
  pub same : g ≡ model_with n s k l g.arcs

abbrev pub invariant-loop-i : goal.invariant-loop-i
invariant-loop-i l = CopyingInto l.fn.given.n l.fn.given.start l.fn.given.k l.power (lists_of l.fn.given.lists) l.model l.i
