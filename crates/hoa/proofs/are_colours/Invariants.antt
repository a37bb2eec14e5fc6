use Rattle.std.proofs.Common.{◌≡◌}
use Rattle.fields.specs.Bytes.{blank}
use Rattle.fields.specs.Fields.{split, pieces_left}
use Rattle.hoa.specs.Lines.{are_colours}
use Rattle.hoa.proofs.are_colours.Given as goal

abbrev pub invariant-loop-piece : goal.invariant-loop-piece
invariant-loop-piece l = are_colours l.k (split blank l.s) ≡ are_colours l.k (pieces_left l.piece-iterator)
