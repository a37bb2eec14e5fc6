-- `sift` meets its contract: a word more is sifted at each turn. Assumes nothing.
use mathlib.Core.Path.{refl}
use native.Mathlib.Omega.{arith}
use Rattle.deciding.proofs.Sifts.{sifted-to-more}
use Rattle.deciding.proofs.sift.Goals as goal

pub loop-v-preserved : goal.loop-v-preserved
loop-v-preserved c =
    let l = c.loop-v in
    sifted-to-more l.set _ _ _ (omega arith) l.invariant c.sift_word-kept.ensures refl refl
