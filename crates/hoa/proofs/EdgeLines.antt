-- An edge's line that is right: its target is below n and its colours below k, and it is no `State:` line. Assumes nothing.
use mathlib.Core.Path.{◌≡◌, refl, sym, ◌∙◌}
use mathlib.Core.Bool.{Bool, true, false, cond, ◌&&◌, ◌||◌, and-false}
use mathlib.Core.List.{List, [], ◌∷◌, map}
use Prim.Native.Nat.{ℕ, zero, suc, ◌<◌}
use native.Mathlib.Omega.{arith}
use lib.Dec.{ltb, eqb}
use lib.ListN.{drop}
use borrow.Author.Tests.{ltb-true, eqb-true}
use Rattle.fields.specs.Bytes.{feed, blank}
use Rattle.fields.specs.Fields.{after_word, is_only, digit_count, is_plain, number_of, after_number, with_byte, split, is_word}
use Rattle.fields.proofs.Numbers.{both}
use Rattle.hoa.specs.Words.{close_brace, open_brace}
use Rattle.hoa.specs.Lines.{is_state, target_of, target_tail, inside, are_colours, is_braces, is_edge}
use Rattle.hoa.specs.Text.{colours_said}
use Rattle.hoa.specs.Edges.{Below}

pub conflict : {A : Type 0} → true ≡ false → A
conflict e = absurd (let z : ◌≡◌ {A = ℕ} 0 1 = cc in omega arith)

-- Pieces of a list that is split after each b: all but the last end with b.
abbrev pub Ends : ℕ → List ℕ → Type 0
Ends b [] = ⊥
Ends b (x ∷ []) = x ≡ b
Ends b (x ∷ y ∷ l) = Ends b (y ∷ l)

abbrev pub EndAll : ℕ → List (List ℕ) → Type 0
EndAll b [] = Unit
EndAll b (p ∷ []) = Unit
EndAll b (p ∷ q ∷ ps) = Ends b p × EndAll b (q ∷ ps)

ends_more : (b x : ℕ) (p : List ℕ) → Ends b p → Ends b (x ∷ p)
ends_more b x [] h = absurd h
ends_more b x (y ∷ p) h = h

pub split-ends : (b : ℕ) (l : List ℕ) → EndAll b (split b l)
unfolding split with_byte
split-ends b [] = tt
split-ends b (x ∷ l) = go (eqb x b) refl (split b l) (split-ends b l)
  where
    go : (t : Bool) → eqb x b ≡ t → (ps : List (List ℕ)) → EndAll b ps → EndAll b (cond t ((x ∷ []) ∷ ps) (with_byte x ps))
    go true e [] h = tt
    go true e (p ∷ ps) h = (eqb-true x b e, h)
    go false e [] h = tt
    go false e (p ∷ []) h = tt
    go false e (p ∷ q ∷ ps) h = (ends_more b x p h.0, h.1)

ends-drop : (b c : ℕ) (l : List ℕ) → Ends b (drop c l) → Ends b l
ends-drop b zero l h = h
ends-drop b (suc c) [] h = h
ends-drop b (suc c) (x ∷ l) h = ends_more b x l (ends-drop b c l h)

pub ends-one : (b c : ℕ) (l : List ℕ) → Ends b l → Ends c l → b ≡ c
ends-one b c [] h k = absurd h
ends-one b c (x ∷ []) h k = sym h ∙ k
ends-one b c (x ∷ y ∷ l) h k = ends-one b c (y ∷ l) h k

-- what is a closing brace ends with a line feed
pub only-ends : (b : ℕ) (l : List ℕ) → is_only b l ≡ true → Ends b l
unfolding is_only
only-ends b [] e = conflict (sym e)
only-ends b (x ∷ []) e = eqb-true x b e
only-ends b (x ∷ y ∷ l) e = conflict (sym e)

pub after-ends : (b : ℕ) (w l : List ℕ) → Ends b (after_word w l) → Ends b l
unfolding after_word
after-ends b [] l h = h
after-ends b (w ∷ ws) [] h = h
after-ends b (w ∷ ws) (x ∷ l) h = go (eqb x w) (after-ends b ws l) h
  where
    go : (t : Bool) → (Ends b (after_word ws l) → Ends b l) → Ends b (cond t (after_word ws l) []) → Ends b (x ∷ l)
    go true ih h = ends_more b x l (ih h)
    go false ih h = absurd h

pub number-ends : (b : ℕ) (l : List ℕ) → Ends b (after_number l) → Ends b l
unfolding after_number
number-ends b l h = go (is_plain (digit_count l)) h
  where
    go : (t : Bool) → Ends b (cond t (drop (digit_count l) l) []) → Ends b l
    go true h = ends-drop b (digit_count l) l h
    go false h = absurd h

pub closed-ends : (p : List ℕ) → is_word close_brace (after_number p) ≡ true → Ends feed p
closed-ends p e = number-ends feed p (after-ends feed close_brace (after_number p) (only-ends feed (after_word close_brace (after_number p)) e))

-- the colours in braces that are right are below k
colours-below : (k : ℕ) (ps : List (List ℕ)) → EndAll blank ps → are_colours k ps ≡ true → Below k (map number_of ps)
unfolding are_colours
colours-below k [] h e = conflict (sym e)
colours-below k (p ∷ []) h e = (ltb-true _ _ (both _ _ e).0, tt)
colours-below k (p ∷ q ∷ ps) h e =
    let (low, rest) = both _ _ e in
    (ltb-true _ _ low, go (is_word close_brace (after_number p)) refl rest (colours-below k (q ∷ ps)))
  where
    go : (t : Bool) → is_word close_brace (after_number p) ≡ t → (t || (is_only blank (after_number p) && are_colours k (q ∷ ps))) ≡ true
        → (EndAll blank (q ∷ ps) → are_colours k (q ∷ ps) ≡ true → Below k (map number_of (q ∷ ps))) → Below k (map number_of (q ∷ ps))
    go true z r ih = absurd (let w = ends-one blank feed p h.0 (closed-ends p z) in omega (arith, w))
    go false z r ih = ih h.1 (both (is_only blank (after_number p)) (are_colours k (q ∷ ps)) r).1

-- an edge's line that is right: target below n, colours below k
fed-inside : (r : List ℕ) → is_only feed r ≡ true → after_word open_brace r ≡ []
unfolding is_only after_word
fed-inside [] e = refl
fed-inside (x ∷ []) e = rw (eqb-true x feed e)
fed-inside (x ∷ y ∷ r) e = conflict (sym e)

pub fed-none : (l : List ℕ) → is_only feed (target_tail l) ≡ true → colours_said l ≡ []
unfolding colours_said is_only after_word split
fed-none l e = rw (fed-inside (target_tail l) e)

braces-below : (k : ℕ) (l : List ℕ) → is_braces k (inside l) ≡ true → Below k (colours_said l)
unfolding is_braces colours_said
braces-below k l e = go (is_word close_brace (inside l)) e
  where
    go : (t : Bool) → (t || are_colours k (split blank (inside l))) ≡ true → Below k (cond t [] (map number_of (split blank (inside l))))
    go true z = tt
    go false z = colours-below k (split blank (inside l)) (split-ends blank (inside l)) z

pub edge-below : (n k : ℕ) (l : List ℕ) → is_edge n k l ≡ true → (target_of l < n) × Below k (colours_said l)
unfolding is_edge
edge-below n k l e =
    let (low, rest) = both (ltb (target_of l) n) (is_only feed (target_tail l) || is_braces k (inside l)) e in
    (ltb-true (target_of l) n low, go (is_only feed (target_tail l)) refl rest)
  where
    go : (t : Bool) → is_only feed (target_tail l) ≡ t → (t || is_braces k (inside l)) ≡ true → Below k (colours_said l)
    go true z r = rw (fed-none l z) tt
    go false z r = braces-below k l r

-- a `State:` line is no edge's line: their first bytes differ
pub state-no-edge : (n k : ℕ) (l : List ℕ) → is_state l ≡ true → is_edge n k l ≡ false
unfolding is_edge is_braces are_colours after_word is_only after_number digit_count is_plain split
state-no-edge n k [] e = conflict (sym e)
state-no-edge n k (x ∷ l) e = go (eqb x 83) refl e
  where
    go : (t : Bool) → eqb x 83 ≡ t → is_only feed (after_number (cond t (after_word (116 ∷ 97 ∷ 116 ∷ 101 ∷ 58 ∷ 32 ∷ []) l) [])) ≡ true
        → is_edge n k (x ∷ l) ≡ false
    go true z r = rw (eqb-true x 83 z) (and-false (ltb (number_of []) n))
    go false z r = conflict (sym r)
