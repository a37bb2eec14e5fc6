-- The words of HOA text, as they are written. Document 02, Ask 1. Assumes nothing.
use mathlib.Core.Path.{◌≡◌, refl}
use mathlib.Core.List.{List, [], ◌∷◌}
use Prim.Native.Nat.{ℕ}
use Rattle.fields.proofs.Spelling.{bytes}
use Rattle.hoa.specs.Words.{
  hoa_word,
  states_word,
  start_word,
  ap_word,
  accept_word,
  blank_word,
  true_word,
  inf_word,
  close_word,
  body_word,
  state_word,
  edge_word,
  open_brace,
  close_brace,
  end_word,
}

-- before the body
pub head-spelled : ◌≡◌ {A = List (List ℕ)}
    (hoa_word ∷ states_word ∷ start_word ∷ ap_word ∷ accept_word ∷ body_word ∷ [])
    (bytes "HOA: v1" ∷ bytes "States: " ∷ bytes "Start: " ∷ bytes "AP: 0" ∷ bytes "Acceptance: " ∷ bytes "--BODY--" ∷ [])
unfolding bytes
head-spelled = refl

-- behind the number of colours
pub condition-spelled : ◌≡◌ {A = List (List ℕ)}
    (blank_word ∷ true_word ∷ inf_word ∷ close_word ∷ [])
    (bytes " " ∷ bytes "t" ∷ bytes "Inf(" ∷ bytes ")" ∷ [])
unfolding bytes
condition-spelled = refl

-- in the body
pub body_spelled : ◌≡◌ {A = List (List ℕ)}
    (state_word ∷ edge_word ∷ open_brace ∷ close_brace ∷ end_word ∷ [])
    (bytes "State: " ∷ bytes "[t] " ∷ bytes " {" ∷ bytes "}" ∷ bytes "--END--" ∷ [])
unfolding bytes
body_spelled = refl
