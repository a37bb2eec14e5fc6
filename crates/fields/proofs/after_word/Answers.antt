-- `fields::after_word` meets its contract: what `strip_prefix` leaves. Assumes nothing.
use Rattle.std.proofs.lemmas.Bool.Decides.{Decides-eqb}
use Rattle.std.proofs.lemmas.Slice.Eq.{strip_prefix_is}
use Rattle.std.proofs.Common.{ap, ◌∙◌, rules}
use Rattle.fields.proofs.Heads.{word-stripped}
use Rattle.fields.proofs.after_word.Goals as goal

pub returns : goal.returns
returns c =
    let s = c.args.s.now in
    let w = c.args.word.now in
    ap (λ x. x.now) c.unwrap_or.ensures
    ∙ word-stripped w s c.strip_prefix.result _ (search rules) (strip_prefix_is Decides-eqb s w c.strip_prefix.result c.strip_prefix.ensures.cases)
