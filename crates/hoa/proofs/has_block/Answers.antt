-- `hoa::has_block` meets its contract: some line of those opens the block. Assumes nothing.
use Rattle.std.proofs.Common.{rules, tests, ◌∙◌, sym, ap, take}
use Rattle.std.proofs.lemmas.Iterator.{YieldsList-from_take}
use Rattle.std.proofs.lemmas.Iterator.Consumers.{YieldsList-from_first}
use Rattle.std.proofs.lemmas.Iterator.Search.{any_from_yields_List}
use Rattle.fields.specs.Fields.{lines_of, pieces_left}
use Rattle.hoa.specs.Text.{opens_block}
use Rattle.hoa.proofs.BlockLines.{block-any}
use Rattle.hoa.proofs.has_block.Goals as goal

pub returns : goal.returns
returns c =
    any_from_yields_List (opens_block c.args.mode) c.any.new.self _ c.any.result c.any.ensures.ran
    (YieldsList-from_take c.args.count (YieldsList-from_first (λ x. x.now) pieces_left (lines_of c.args.body.now) (ap pieces_left c.take.ensures.source ∙ c.lines.ensures)) c.take.ensures.count)
    (λ x b q k. search (rules, tests))
    ∙ sym (block-any c.args.mode (take c.args.count (lines_of c.args.body.now)))
