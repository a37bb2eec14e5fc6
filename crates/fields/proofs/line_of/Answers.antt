-- `fields::line_of` meets its contract: the item at place j. Assumes nothing.
use Rattle.std.proofs.Common.{◌≡◌, ℕ, List, [], Option, Some, None, get_or, rules, ◌∙◌, refl, ap, Bor}
use Rattle.std.specs.Prelude.{unwrap_or}
use Rattle.std.specs.Option.{option_map}
use Rattle.std.specs.List.{slice_get}
use Rattle.std.proofs.lemmas.Iterator.Consumers.{YieldsList-from_first, nth_from_yields_List}
use Rattle.std.proofs.lemmas.Option.{unwrap_or-slice_get}
use Rattle.fields.specs.Fields.{lines_of, pieces_left}
use Rattle.fields.proofs.line_of.Goals as goal

read : (r : Option (Bor (List ℕ))) (d : Bor (List ℕ)) (ls : List (List ℕ)) (j : ℕ) → d.now ≡ [] → option_map (λ x. x.now) r ≡ slice_get ls j
    → (unwrap_or r d).now ≡ get_or ls j []
read r d ls j e h = step r ∙ ap (λ o. unwrap_or o []) h ∙ unwrap_or-slice_get ls j []
  where
    step : (r : Option (Bor (List ℕ))) → (unwrap_or r d).now ≡ unwrap_or (option_map (λ x. x.now) r) []
    step None = e
    step (Some x) = refl

pub returns : goal.returns
returns c =
    let ls = lines_of c.args.text.now in
    let j = c.args.j in
    ap (λ x. x.now) c.unwrap_or.ensures
    ∙ read c.nth.result _ ls j (search rules)
    (nth_from_yields_List c.nth.result c.nth.new.self j c.nth.ensures.ran (YieldsList-from_first (λ x. x.now) pieces_left ls c.lines.ensures))
