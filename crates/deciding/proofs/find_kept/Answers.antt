-- `find_kept` meets its contract. Assumes nothing.
use mathlib.Core.Path.{subst}
use Prim.Native.Nat.{ℕ}
use Rattle.deciding.specs.Deciding.{SomeUnmet}
use Rattle.deciding.proofs.Missing.{unmet-none-kept}
use Rattle.deciding.proofs.find_kept.Goals as goal

pub returns-then-some_unmet : goal.returns-then-some_unmet
returns-then-some_unmet c =
    let a = c.args in
    let arcs = c.first_place-arcs.ensures in
    let some = c.some_unmet.ensures c.if-some_unmet.true in
    unmet-none-kept a.groups.now.rows a.groups.now.places a.question _ (subst (λ (m : ℕ). SomeUnmet a.groups.now.rows m a.question.duties) arcs some) _
    (c.fill.ensures.after (λ y e. e))
