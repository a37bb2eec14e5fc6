-- `fields::piece_length` meets its contract: the first byte that ends a piece. Assumes nothing.
use Rattle.std.proofs.Common.{rules, tests, arith}
use Rattle.std.proofs.lemmas.Iterator.{YieldsList-from_slice}
use Rattle.std.proofs.lemmas.Iterator.Search.{position_from_yields_List}
use lib.Dec.{eqb}
use Rattle.fields.proofs.Heads.{piece-first}
use Rattle.fields.proofs.piece_length.Goals as goal

pub returns-in-Some : goal.returns-in-Some
returns-in-Some c =
    let s = c.args.s.now in
    let found = position_from_yields_List (λ x. eqb x c.args.b) _ _ c.position.result c.position.ensures.ran
    (YieldsList-from_slice s c.iter.ensures.rest) (λ x b q k. search (rules, tests)) in
    grind (arith, piece-first c.args.b s, found)

pub returns-in-None : goal.returns-in-None
returns-in-None c =
    let s = c.args.s.now in
    let found = position_from_yields_List (λ x. eqb x c.args.b) _ _ c.position.result c.position.ensures.ran
    (YieldsList-from_slice s c.iter.ensures.rest) (λ x b q k. search (rules, tests)) in
    grind (arith, piece-first c.args.b s, found)
