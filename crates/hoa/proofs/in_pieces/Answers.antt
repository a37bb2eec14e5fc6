-- `hoa::in_pieces` meets its contract: some piece says the colour. Assumes nothing.
use Rattle.std.proofs.Common.{rules, tests, ◌∙◌, sym}
use Rattle.std.proofs.lemmas.Iterator.Consumers.{YieldsList-from_first}
use Rattle.std.proofs.lemmas.Iterator.Search.{any_from_yields_List}
use lib.Dec.{eqb}
use Rattle.fields.specs.Bytes.{blank}
use Rattle.fields.specs.Fields.{number_of, split, pieces_left}
use Rattle.hoa.proofs.Colours.{contains-any}
use Rattle.hoa.proofs.in_pieces.Goals as goal

pub returns : goal.returns
returns c =
    any_from_yields_List (λ p. eqb c.args.colour (number_of p)) c.any.new.self _ c.any.result c.any.ensures.ran
    (YieldsList-from_first (λ x. x.now) pieces_left _ c.split_after.ensures) (λ x b q k. search (rules, tests))
    ∙ sym (contains-any c.args.colour (split blank c.args.s.now))
