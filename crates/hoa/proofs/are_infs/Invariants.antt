use Rattle.std.proofs.Common.{◌≡◌}
use Rattle.std.specs.Iterator.Adapters.{enumerate_source, enumerate_count}
use Rattle.fields.specs.Bytes.{ampersand}
use Rattle.fields.specs.Fields.{split, pieces_left}
use Rattle.hoa.specs.Lines.{are_infs}
use Rattle.hoa.proofs.are_infs.Given as goal

abbrev pub invariant-loop-j : goal.invariant-loop-j
invariant-loop-j l = are_infs l.k 0 (split ampersand l.s) ≡ are_infs l.k (enumerate_count l.j-iterator) (pieces_left (enumerate_source l.j-iterator))
