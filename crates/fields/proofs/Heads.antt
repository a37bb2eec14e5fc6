-- Words, digits and pieces at the head of a list: what the library's methods find there. Assumes nothing.
use mathlib.Core.Path.{◌≡◌, refl, sym, ap, ◌∙◌}
use mathlib.Core.Bool.{Bool, true, false, not, cond}
use mathlib.Core.List.{List, [], ◌∷◌, ◌++◌}
use mathlib.Core.Logic.{◌≢◌}
use Prim.Native.Nat.{ℕ, suc, ◌+◌, ◌≤◌}
use native.Mathlib.Omega.{arith}
use denote.Ref.{Bor}
use lib.Dec.{eqb}
use lib.ListN.{length, drop, drop_of_length-le}
use Rattle.std.specs.Prelude.{Option, Some, None, unwrap_or, min}
use Rattle.std.specs.Option.{MatchOption}
use Rattle.std.specs.List.{position_or_len}
use Rattle.std.proofs.lemmas.List.Recursion.{is_position_or_len}
use Rattle.fields.specs.Fields.{after_word, is_digit, digit_count, piece_length}
use Rattle.fields.proofs.Forms.{word-form}
use Rattle.fields.proofs.Printed.{after-word}

no-word : (w s : List ℕ) → ((rest : List ℕ) → s ≢ w ++ rest) → after_word w s ≡ []
no-word w s h = go (after_word w s) refl
  where
    go : (l : List ℕ) → after_word w s ≡ l → l ≡ []
    go [] e = refl
    go (x ∷ l) e = absurd (h (after_word w s) (word-form w s (rw e (omega arith))))

-- what follows a word, as `strip_prefix` finds it
pub word-stripped : (w s : List ℕ) (r : Option (Bor (List ℕ))) (d : Bor (List ℕ)) → d.now ≡ []
    → MatchOption r ((rest : List ℕ) → s ≢ w ++ rest) (λ x. s ≡ w ++ x.now) → (unwrap_or r d).now ≡ after_word w s
word-stripped w s None d e h = e ∙ sym (no-word w s h)
word-stripped w s (Some x) d e h = sym (ap (after_word w) h ∙ after-word w x.now)

-- how many digits, as `position` finds the first byte that is none
pub digits-first : (s : List ℕ) → digit_count s ≡ position_or_len (λ x. not (is_digit x)) s
unfolding digit_count
digits-first s = is_position_or_len digit_count (λ x. not (is_digit x)) refl (λ x l. go x l (is_digit x)) s
  where
    go : (x : ℕ) (l : List ℕ) (t : Bool) → cond t (suc (digit_count l)) 0 ≡ cond (not t) 0 (1 + digit_count l)
    go x l true = omega arith
    go x l false = refl

-- how long the first piece is, as `position` finds its end
pub piece-first : (b : ℕ) (s : List ℕ) → piece_length b s ≡ min (position_or_len (λ x. eqb x b) s + 1) (length s)
unfolding piece_length
piece-first b [] = omega arith
piece-first b (x ∷ s) = go (eqb x b) (piece-first b s)
  where
    k : ℕ
    k = position_or_len (λ y. eqb y b) s

    go : (t : Bool) → piece_length b s ≡ min (k + 1) (length s) → cond t 1 (suc (piece_length b s)) ≡ min (cond (not t) (1 + k) 0 + 1) (suc (length s))
    go true e = omega arith
    go false e = omega (arith, e)

pub piece-end : (b : ℕ) (s : List ℕ) (i : ℕ) → length s ≤ i → piece_length b (drop i s) ≡ 0
unfolding piece_length
piece-end b s i h = rw (drop_of_length-le s h)
