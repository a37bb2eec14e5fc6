-- `fields::SplitAfterIterator::next` meets its contract: the first piece, and the pieces after it. Assumes nothing.
use Rattle.std.proofs.Common.{◌≡◌, ◌<◌, length, rules, tests, arith, ap}
use Rattle.fields.proofs.Pieces.{split-next, piece-most}
use Rattle.fields.proofs.Places.{split-end}
use Rattle.fields.proofs.SplitAfterIterator.next.Goals as goal

pub returns-then-is_empty-clause-steps : goal.returns-then-is_empty-clause-steps
returns-then-is_empty-clause-steps c =
    let p = c.args.self.now in
    let none : length p.rest.now ≡ 0 = search (rules, tests) in
    let e = split-end p.end p.rest.now 0 (omega arith) in
    (e, e)

pub split_at-requires : goal.split_at-requires
split_at-requires c = omega (arith, piece-most c.args.self.now.end c.args.self.now.rest.now, c.piece_length.ensures)

pub returns-clause-steps : goal.returns-clause-steps
returns-clause-steps c =
    let p = c.args.self.now in
    let some : 0 < length p.rest.now = search (rules, tests) in
    split-next p.end p.rest.now _ _ _ some c.piece_length.ensures c.split_at.ensures.front c.split_at.ensures.back

pub returns-clause-goes : goal.returns-clause-goes
returns-clause-goes c =
    let p = c.args.self.now in
    let some : 0 < length p.rest.now = search (rules, tests) in
    let steps = split-next p.end p.rest.now _ _ _ some c.piece_length.ensures c.split_at.ensures.front c.split_at.ensures.back in
    record { on = λ _. (tt, tt, omega (arith, ap length steps)); keeps = tt; rests = λ _. tt }
