-- Reading a model from two texts: the answer, and what is left in the lent lists. Document 02, Ask 1: 19, 20 and 21 "are looked at in that order,
-- before 1".
use Rattle.std.specs.Prelude.{ℕ, ◌^◌, Bool, not, ◌||◌, List, ltb, eqb, length, Result}
use Rattle.limits.specs.Ceilings.{arcs_most}
use Rattle.refusals.specs.declared.Answer.{Answer}
use Rattle.refusals.specs.declared.Refusal.{Refusal}
use Rattle.refusals.specs.declared.Refusal.TheVariants.{HoaLine, DimacsLine, TextsDisagree}
use Rattle.refusals.specs.Refusals.{Verdict, refuse, and_then, answer_of}
use Rattle.model.specs.Automaton.{Automaton}
use Rattle.model.specs.Lists.{Lists}
use Rattle.model.specs.Fitness.{header, arcs_verdict}
use Rattle.fields.specs.Fields.{lines_of}
use Rattle.hoa.specs.Text.{hoa_wrong}
use Rattle.dimacs.specs.Text.{dimacs_wrong}
use Rattle.filling.specs.declared.Numbers.{Numbers}
use Rattle.filling.specs.Filling.{room_in, reading_if, written_if}
use Rattle.reading.specs.Agreement.{agree}
use Rattle.reading.specs.ModelRead.{model_in, model_read}

-- "More edges than the shortest of them takes is 3; lists lent to be filled may have any length": m arcs, and room for so many. More than 255 are
-- 3 in every call.
unfoldable pub no_room : ℕ → ℕ → Bool
no_room room m = ltb room m || ltb arcs_most m

-- 1 to 5 are those of a model; only 3 has another condition
unfoldable pub fitness_read : Automaton → ℕ → Verdict
fitness_read g room =
    and_then (header g.modes g.start g.colours (no_room room (length g.arcs))) (arcs_verdict g.modes (2 ^ g.colours) g.arcs 0)

-- 19, 20, 21, then 1 to 5, of the lines of the two texts; "A HOA line outside these forms or missing is 19, a DIMACS line 20, both with the first
-- such line counted from 1 as detail"
unfoldable pub readable : List (List ℕ) → List (List ℕ) → ℕ → Verdict
readable h d room =
    refuse (not (eqb (hoa_wrong h) 0)) (HoaLine (hoa_wrong h))
    (refuse (not (eqb (dimacs_wrong d) 0)) (DimacsLine (dimacs_wrong d))
    (refuse (not (agree h d)) TextsDisagree
    (fitness_read (model_in h d) room)))

-- the verdict on a reading into these lists
abbrev pub read_verdict : List ℕ → List ℕ → Lists → Verdict
read_verdict hoa dimacs l = readable (lines_of hoa) (lines_of dimacs) (room_in l)

-- what reading answers
abbrev pub read_of : List ℕ → List ℕ → Lists → Result Numbers Refusal
read_of hoa dimacs l = reading_if (read_verdict hoa dimacs l) (model_read hoa dimacs)

-- the number and the detail
abbrev pub read_answer : List ℕ → List ℕ → Lists → Answer
read_answer hoa dimacs l = answer_of (read_verdict hoa dimacs l)

-- the lent lists as the call leaves them
abbrev pub lists_read : List ℕ → List ℕ → Lists → Lists
lists_read hoa dimacs l = written_if (read_verdict hoa dimacs l) (model_read hoa dimacs).arcs l
