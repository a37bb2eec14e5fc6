-- From a yes to what reading answers and leaves in the lists, by the lines that the code holds. Assumes nothing.
use Rattle.std.specs.Prelude.{Ok}
use mathlib.Core.Path.{◌≡◌, refl}
use mathlib.Core.List.{List, map}
use Prim.Native.Nat.{ℕ}
use lib.ListN.{drop}
use Rattle.model.specs.Lists.{Lists}
use Rattle.fields.specs.Fields.{lines_of}
use Rattle.hoa.specs.Text.{edges_from}
use Rattle.dimacs.specs.Text.{text_arc_on, arc_lines, count_of}
use Rattle.filling.specs.Filling.{AllNarrow, room_in}
use Rattle.filling.proofs.Widths.{fit-narrow}
use Rattle.reading.specs.ModelRead.{arcs_read, model_read}
use Rattle.reading.specs.Reading.{read_verdict, read_of}
use Rattle.reading.specs.Within.{read_by}
use Rattle.reading.proofs.Verdicts.{arcs-count, readable-yes}

module _ (hoa dimacs : List ℕ) (l : Lists) (yes : read_verdict hoa dimacs l ≡ Ok tt) where
  pub read-accepted : (m : ℕ) → m ≡ count_of (lines_of dimacs) → Ok (read_by (lines_of hoa) m) ≡ read_of hoa dimacs l
  read-accepted m e =
      let (_, right, same, _, _) = (readable-yes (lines_of hoa) (lines_of dimacs) (room_in l)).0 yes in
      rw (yes, e, arcs-count (lines_of hoa) (lines_of dimacs) right same) refl

  module _ (body lines : List (List ℕ)) (at_body : body ≡ drop 6 (lines_of hoa)) (at-lines : lines ≡ arc_lines (lines_of dimacs)) where
    pub may-fill : AllNarrow (arcs_read (edges_from 0 body) (map text_arc_on lines))
    may-fill =
        let (_, _, _, _, fit) = (readable-yes (lines_of hoa) (lines_of dimacs) (room_in l)).0 yes in
        rw (at_body, at-lines) (fit-narrow (model_read hoa dimacs) fit)
