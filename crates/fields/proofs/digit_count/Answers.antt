-- `fields::digit_count` meets its contract: the first byte that is no digit. Assumes nothing.
use Rattle.std.proofs.Common.{rules, tests, arith}
use Rattle.std.proofs.lemmas.Iterator.{YieldsList-from_slice}
use Rattle.std.proofs.lemmas.Iterator.Search.{position_from_yields_List}
use Rattle.std.specs.Prelude.{not}
use Rattle.fields.specs.Fields.{is_digit}
use Rattle.fields.proofs.Heads.{digits-first}
use Rattle.fields.proofs.Numbers.{digits_le}
use Rattle.fields.proofs.digit_count.Goals as goal

pub returns : goal.returns
unfolding is_digit
returns c =
    let s = c.args.s.now in
    let found = position_from_yields_List (λ x. not (is_digit x)) _ _ c.position.result c.position.ensures.ran
    (YieldsList-from_slice s c.iter.ensures.rest) (λ x b q k. search (rules, tests)) in
    grind (arith, digits-first s, digits_le s, found, c.unwrap_or.ensures)
