-- What a reading leaves in the lists, and that what stood there does not matter. Assumes nothing.
use Rattle.std.specs.Prelude.{Result, Ok}
use mathlib.Core.Path.{◌≡◌, ap}
use mathlib.Core.List.{List}
use Prim.Native.Nat.{ℕ, ◌≤◌}
use lib.ListN.{length}
use Rattle.model.specs.Lists.{Lists, automaton_of}
use Rattle.model.specs.Fitness.{fitness}
use Rattle.refusals.specs.declared.Refusal.{Refusal}
use Rattle.fields.specs.Fields.{lines_of}
use Rattle.filling.specs.declared.Numbers.{Numbers}
use Rattle.filling.specs.Filling.{room_in, reading_if, numbers_in, first_places, later_places}
use Rattle.filling.proofs.Filled.{accepted-model, filled-rest, filled-fitness}
use Rattle.reading.specs.ModelRead.{model_read}
use Rattle.reading.specs.Reading.{readable, read_verdict, read_of, lists_read}
use Rattle.reading.proofs.Verdicts.{readable-yes}
use Rattle.reading.proofs.Said.{read-fit}

module _ (hoa dimacs : List ℕ) where
  -- the lists do not matter but for how many arcs the shortest takes
  pub read_same : (l l' : Lists) → room_in l ≡ room_in l' → read_of hoa dimacs l ≡ read_of hoa dimacs l'
  read_same l l' e = ap {B = Result Numbers Refusal} (λ (room : ℕ). reading_if (readable (lines_of hoa) (lines_of dimacs) room) (model_read hoa dimacs)) e

  module _ (l : Lists) (yes : read_verdict hoa dimacs l ≡ Ok tt) where
    -- there is room for the arcs
    roomy : length (model_read hoa dimacs).arcs ≤ room_in l
    roomy = let (_, _, _, room, _) = (readable-yes (lines_of hoa) (lines_of dimacs) (room_in l)).0 yes in room

    -- the first m places of the lists, with n, the start mode and k, are the model read, whatever stood there
    pub read-model : let r = numbers_in (read_of hoa dimacs l) in
        automaton_of r.modes r.start r.colours (first_places r.count (lists_read hoa dimacs l)) ≡ model_read hoa dimacs
    read-model = accepted-model (read_verdict hoa dimacs l) (model_read hoa dimacs) yes l roomy

    -- the later places are as they were
    pub read-rest : let m = (numbers_in (read_of hoa dimacs l)).count in later_places m (lists_read hoa dimacs l) ≡ later_places m l
    read-rest = rw yes (filled-rest (model_read hoa dimacs) l roomy)

    -- so no call refuses it by 1 to 5
    pub read-fitness : let r = numbers_in (read_of hoa dimacs l) in
        fitness r.modes r.start r.colours (first_places r.count (lists_read hoa dimacs l)) ≡ Ok tt
    read-fitness = rw yes (filled-fitness (model_read hoa dimacs) l roomy (read-fit hoa dimacs l yes))
