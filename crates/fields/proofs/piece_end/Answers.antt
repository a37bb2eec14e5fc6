-- `fields::piece_end` meets its contract: past the text there is no piece. Assumes nothing.
use Rattle.std.proofs.Common.{◌-◌, drop, length, length-drop, arith, ap}
use Rattle.std.proofs.lemmas.List.{take_all}
use Rattle.fields.specs.Fields.{piece_length}
use Rattle.fields.proofs.Heads.{piece-end}
use Rattle.fields.proofs.Pieces.{piece-most}
use Rattle.fields.proofs.piece_end.Goals as goal

pub returns-then-at-s : goal.returns-then-at-s
returns-then-at-s c = omega (arith, piece-end c.args.b c.args.s.now c.args.at (omega arith))

pub overflow_add-result : goal.overflow_add-result
overflow_add-result c =
    let a = c.args in
    let s = drop a.at a.s.now in
    let size = length-drop a.at a.s.now in
    let all = take_all (length a.s.now - a.at) s (omega (arith, size)) in
    omega (arith, size, piece-most a.b s, ap (piece_length a.b) all, c.piece_length.ensures)
