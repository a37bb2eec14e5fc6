-- `ward` meets its contract: each turn of the loop is one of `turn-filled` and `turn-answered`, and at its end all wearers are judged. Assumes nothing.
use mathlib.Core.Path.{◌≡◌, sym, ap, ◌∙◌}
use mathlib.Core.Bool.{false}
use Prim.Native.Nat.{◌<◌}
use native.Mathlib.Omega.{arith}
use lib.ListN.{length}
use Rattle.std.specs.Result.{is_err}
use Rattle.refusals.specs.declared.Answer.{Answer}
use Rattle.refusals.specs.Refusals.{answer_of}
use Rattle.model.specs.Lists.{lists_of}
use Rattle.ward.specs.Ward.{verdict_of, ward_fitness}
use Rattle.ward.proofs.SoFar.{judged_of, judged-all, turn-filled, turn-answered, answered-at, filled-at}
use Rattle.ward.proofs.ward.Goals as goal

pub loop-place-preserved : goal.loop-place-preserved
loop-place-preserved c =
    let a = c.args in
    let w = a.plan.now in
    let f = verdict_of a.n a.k (lists_of a.lists.now) a.barred w.p w.q w.arcs.now in
    let ys = a.wearers.now in
    let h = c.loop-place.invariant in
    let here : c.loop-place.place < length ys = omega arith in
    record {
      filled = turn-filled f ys c.loop-place.wearers c.loop-place.place _ h.filled c.judge_wearer-verdict.ensures here;
      answered =
          turn-answered f ys c.loop-place.wearers c.loop-place.answer _ _ c.loop-place.place _ h.filled h.answered c.judge_wearer-verdict.ensures
          c.after_verdict-answer.ensures here;
    }

pub returns : goal.returns
returns c =
    let a = c.args in
    let w = a.plan.now in
    let v = ward_fitness a.n a.k (lists_of a.lists.now) in
    let f = verdict_of a.n a.k (lists_of a.lists.now) a.barred w.p w.q w.arcs.now in
    let ys = a.wearers.now in
    let h = c.loop-place.invariant in
    let fit : is_err v ≡ false = cc in
    let all : judged_of v (length ys) ≡ c.loop-place.place = judged-all v (length ys) fit ∙ omega arith in
    let first : c.from-answer.result ≡ answer_of v = c.from-answer.ensures ∙ ap {B = Answer} answer_of c.check_ward-checked.ensures in
    record {
      answered = answered-at v f ys _ all _ (rw first at h.answered);
      filled = filled-at v f ys _ all _ h.filled;
    }
