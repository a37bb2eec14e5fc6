-- The words of DIMACS text, as they are written. Document 02, Ask 1. Assumes nothing.
use mathlib.Core.Path.{◌≡◌, refl}
use mathlib.Core.List.{List, [], ◌∷◌}
use Prim.Native.Nat.{ℕ}
use Rattle.fields.proofs.Spelling.{bytes}
use Rattle.dimacs.specs.Words.{comment_letter, problem_word, arc_word, blank_word}

pub words-spelled : ◌≡◌ {A = List (List ℕ)}
    ((comment_letter ∷ []) ∷ problem_word ∷ arc_word ∷ blank_word ∷ [])
    (bytes "c" ∷ bytes "p sp " ∷ bytes "a " ∷ bytes " " ∷ [])
unfolding bytes
words-spelled = refl
