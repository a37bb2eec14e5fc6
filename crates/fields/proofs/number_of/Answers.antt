-- `fields::number_of` meets its contract: the digits so far have the value v. Assumes nothing.
use Rattle.std.proofs.Common.{◌≡◌, true, take, arith, rules, tests, ◌∙◌}
use Rattle.std.proofs.lemmas.List.{length-take-le}
use Rattle.fields.specs.Fields.{digit_count, is_plain}
use Rattle.fields.proofs.Numbers.{number-some, plain-bounds, digits_le, taken-digit, value-turn, value-done, below_power, below-most}
use Rattle.fields.proofs.number_of.Goals as goal

pub slice_bounds-x-items-end : goal.slice_bounds-x-items-end
slice_bounds-x-items-end c =
    let few = digits_le c.args.s.now in
    omega (arith, length-take-le c.digit_count-count.result c.args.s.now (omega (arith, few, c.digit_count-count.ensures)))

pub overflow_mul-v : goal.overflow_mul-v
overflow_mul-v c =
    let s = c.args.s.now in
    let l = c.loop-x in
    let yes : is_plain (digit_count s) ≡ true = search (rules, tests) in
    let (less, low, high) = taken-digit s _ l.x-index c.digit_count-count.ensures c.loop-x-test.true in
    omega (arith, below-most l.x-index l.v (omega (arith, plain-bounds (digit_count s) yes)) l.invariant.0)

pub overflow_sub-x : goal.overflow_sub-x
overflow_sub-x c = (taken-digit c.args.s.now _ c.loop-x.x-index c.digit_count-count.ensures c.loop-x-test.true).1

pub overflow_add-v : goal.overflow_add-v
overflow_add-v c =
    let s = c.args.s.now in
    let l = c.loop-x in
    let yes : is_plain (digit_count s) ≡ true = search (rules, tests) in
    let (less, low, high) = taken-digit s _ l.x-index c.digit_count-count.ensures c.loop-x-test.true in
    omega (arith, below-most l.x-index l.v (omega (arith, plain-bounds (digit_count s) yes)) l.invariant.0)

pub loop-x-preserved : goal.loop-x-preserved
loop-x-preserved c =
    let s = c.args.s.now in
    let l = c.loop-x in
    let ds = take c.digit_count-count.result s in
    let (less, low, high) = taken-digit s _ l.x-index c.digit_count-count.ensures c.loop-x-test.true in (
      rw c.from.ensures (below_power l.x-index l.v _ l.invariant.0 (omega arith)),
      l.invariant.1 ∙ value-turn ds l.x-index l.v c.loop-x-test.true ∙ rw c.from.ensures,
    )

pub returns : goal.returns
returns c =
    let s = c.args.s.now in
    let yes : is_plain (digit_count s) ≡ true = search (rules, tests) in
    number-some s _ c.loop-x.v yes c.digit_count-count.ensures
    (c.loop-x.invariant.1 ∙ value-done _ c.loop-x.x-index c.loop-x.v c.loop-x-test.false)
