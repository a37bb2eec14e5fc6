-- What reading and the join answer, told field by field. Assumes nothing.
use mathlib.Core.Path.{◌≡◌, refl}
use Rattle.refusals.specs.declared.Answer.{Answer}
use Rattle.refusals.specs.declared.Refusal.{Refusal}
use Rattle.std.specs.Prelude.{Result}
use Rattle.filling.specs.declared.Numbers.{Numbers}
use Rattle.filling.specs.Filling.{numbers_in}
use Rattle.packing.specs.Desk.{read_with}

-- of equal answers and equal numbers
pub read_same : {a b : Answer} {x y : Result Numbers Refusal} → a ≡ b → x ≡ y → read_with a (numbers_in x) ≡ read_with b (numbers_in y)
read_same ea ex = rw (ea, ex) refl
