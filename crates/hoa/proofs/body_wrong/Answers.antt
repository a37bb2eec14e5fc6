-- `hoa::body_wrong` meets its contract: line by line, by `Walked`. Assumes nothing.
use Rattle.std.proofs.Common.{arith}
use Rattle.fields.proofs.Wrong.{wrong_at, wrong_none}
use Rattle.hoa.proofs.Bodies.{walked-first, walked-ends, walked_more, walked-done, walked-stops, walked-goes, some-left, none-left}
use Rattle.hoa.proofs.body_wrong.Goals as goal

pub loop-line-init : goal.loop-line-init
loop-line-init c = (tt, tt, walked-first _ _ _ _ c.lines-lines.ensures)

pub returns-then-is_some : goal.returns-then-is_some
returns-then-is_some c =
    wrong_at _ _ (omega arith) (walked_more _ _ _ _ _ _ c.loop-line.invariant.2 _ _ c.in-Some.ensures.steps _ c.is_end.ensures c.if-is_end.true (some-left _ _ _ c.if-is_some.ensures c.next-then-is_end.ensures.steps))

pub returns-then-is_end : goal.returns-then-is_end
returns-then-is_end c =
    wrong_none _ (walked-done _ _ _ _ _ _ c.loop-line.invariant.2 _ _ c.in-Some.ensures.steps _ c.is_end.ensures c.if-is_end.true (none-left _ _ _ c.if-is_some.ensures c.next-then-is_end.ensures.steps))

pub returns-then-not-may_stand : goal.returns-then-not-may_stand
returns-then-not-may_stand c =
    wrong_at _ _ (omega arith) (walked-stops _ _ _ _ _ _ c.loop-line.invariant.2 _ _ c.in-Some.ensures.steps _ c.is_end.ensures c.if-is_end.false
    _ c.may_stand.ensures c.if-not-may_stand.true)

pub loop-line-preserved : goal.loop-line-preserved
loop-line-preserved c = (
  tt,
  tt,
  walked-goes _ _ _ _ _ _ c.loop-line.invariant.2 _ _ c.in-Some.ensures.steps _ c.is_end.ensures c.if-is_end.false
      _ c.may_stand.ensures c.if-not-may_stand.false _ c.blocks_after-blocks.ensures,
)

pub returns : goal.returns
returns c = wrong_at _ _ (omega arith) (walked-ends _ _ _ _ _ _ c.loop-line.invariant.2 c.in_default.ensures.steps.0)
