-- What the fields of Found say of the plan that search hands back: how long it is, and the bytes behind it. Assumes nothing.
use mathlib.Core.Path.{◌≡◌, sym, ap, ◌∙◌}
use mathlib.Core.List.{List}
use Prim.Native.Nat.{ℕ, ◌+◌, ◌-◌, ◌*◌, ◌≤◌}
use native.Mathlib.Omega.{arith}
use lib.ListN.{length, get_or, take, length-take, length-drop}
use lib.Seq.{length-take-le, get_or-drop}
use Rattle.limits.specs.Ceilings.{plan_most}
use Rattle.model.specs.Automaton.{Automaton}
use Rattle.model.specs.Plans.{Plan}
use Rattle.judge.specs.Shape.{plan_of}
use Rattle.search.specs.Search.{Found}

module _ {g : Automaton} {x : ℕ} {on : List ℕ} {b c p q : ℕ} {plan plan' : List ℕ} (f : Found g x on b c p q plan plan') where
  abbrev bytes : Plan
  bytes = plan_of p (take (p + q) plan')

  -- how long the plan is: "a run-in of at most n(b+1) and a round of at most (k+1)n(b+1) arcs", "no longer than judging takes"; this pins
  -- prefix_short, cycle_short, short and within
  pub found-short : (length bytes.prefix ≤ g.modes * (b + 1)) × (length bytes.cycle ≤ (g.colours + 1) * g.modes * (b + 1))
      × (length bytes.prefix + length bytes.cycle ≤ plan_most)
  found-short =
      let long = length-take-le (p + q) plan' f.within in
      let front = length-take p (take (p + q) plan') in
      let rest = length-drop p (take (p + q) plan') in
      (omega (arith, front, f.prefix_short), omega (arith, rest, long, f.cycle_short), omega (arith, front, rest, long, f.short))

  -- "Later bytes of the buffer are not touched.", byte by byte; this pins later
  pub found-later : (i : ℕ) → p + q ≤ i → get_or plan' i 0 ≡ get_or plan i 0
  found-later i h =
      let sum : p + q + (i - (p + q)) ≡ i = omega arith in
      rw sum at (sym (get_or-drop (p + q) plan' (i - (p + q)) 0) ∙ ap (λ (w : List ℕ). get_or w (i - (p + q)) 0) f.later ∙ get_or-drop (p + q) plan (i - (p + q)) 0)
