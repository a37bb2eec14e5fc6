-- Of the list the loop knows that its first wearers have their verdicts (`upto`), and of the answer that it is that of these (`so_far`).
use mathlib.Core.Path.{◌≡◌}
use Rattle.model.specs.Lists.{lists_of}
use Rattle.ward.specs.declared.Wearer.{Wearer}
use Rattle.ward.specs.Ward.{verdict_of, with_verdict}
use Rattle.ward.proofs.Upto.{upto}
use Rattle.ward.proofs.SoFar.{so_far}
use Rattle.ward.proofs.ward.Given as goal

abbrev pub invariant-loop-place : goal.invariant-loop-place
invariant-loop-place l =
    let f = verdict_of l.n l.k (lists_of l.lists) l.barred l.plan.p l.plan.q l.plan.arcs.now in
    record {
      filled : l.wearers ≡ upto (λ (y : Wearer). with_verdict y (f y)) l.place l.fn.wearers;
      answered : l.answer ≡ so_far f l.initial.answer 0 l.fn.wearers l.place;
    }
