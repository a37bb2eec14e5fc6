-- `hoa::are_infs` meets its contract: there are no more pieces than a place can count. Assumes nothing.
use Rattle.std.proofs.Common.{◌≡◌, arith, ap, ◌∙◌, length}
use mathlib.Core.Logic.{inl}
use Rattle.std.specs.Iterator.Adapters.{enumerate_source, enumerate_count}
use Rattle.fields.specs.Bytes.{ampersand}
use Rattle.fields.specs.Fields.{split, pieces_left}
use Rattle.fields.proofs.Pieces.{split_few}
use Rattle.hoa.proofs.are_infs.Goals as goal

pub loop-j-init-derived : goal.loop-j-init-derived
loop-j-init-derived c =
    let s = c.args.s.now in
    let it = c.into_iter-j-iterator.ensures.into_iter_gives in
    let none : enumerate_count c.into_iter-j-iterator.result ≡ 0 = ap enumerate_count it ∙ c.enumerate-j-items.ensures.count in
    let all : pieces_left (enumerate_source c.into_iter-j-iterator.result) ≡ split ampersand s =
    ap (λ x. pieces_left (enumerate_source x)) it ∙ ap pieces_left c.enumerate-j-items.ensures.source ∙ c.split_after.ensures in
    ((tt, tt, inl (omega (arith, none, ap length all, split_few ampersand s))), tt)
