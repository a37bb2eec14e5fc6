-- The references to lists that are lent stay the same. Assumes nothing.
use mathlib.Core.Path.{refl, ◌∙◌}
use Rattle.filling.specs.declared.LentLists.{LentLists}
use Rattle.filling.specs.Filling.{SameLent}

-- where nothing is done
pub same-lent : (l : LentLists) → SameLent l l
same-lent l = record { sources = refl; targets = refl; draws = refl; gains = refl; colours = refl; actions = refl }

-- over two calls
pub same-then : {old between new : LentLists} → SameLent old between → SameLent between new → SameLent old new
same-then a b =
    record {
      sources = b.sources ∙ a.sources;
      targets = b.targets ∙ a.targets;
      draws = b.draws ∙ a.draws;
      gains = b.gains ∙ a.gains;
      colours = b.colours ∙ a.colours;
      actions = b.actions ∙ a.actions;
    }
