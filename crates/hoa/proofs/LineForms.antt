-- What an edge's line and an `Acceptance:` line are, piece by piece. Document 02, Ask 1: "edges `[t] target {colours}` with the braces optional";
-- "`Inf(0)` to `Inf(k-1)` in order with a bare `&` between (`0 t` for none)". Assumes nothing.
use mathlib.Core.Path.{◌≡◌, refl, sym, ap, subst}
use mathlib.Core.Bool.{Bool, true, false, cond, ◌&&◌, ◌||◌}
use mathlib.Core.List.{List, [], ◌∷◌, ◌++◌}
use mathlib.Core.Logic.{◌⊎◌, inl, inr}
use Prim.Native.Nat.{ℕ, suc, ◌≤◌, ◌<◌}
use native.Mathlib.Omega.{arith}
use lib.Dec.{ltb, eqb}
use lib.ListN.{length}
use borrow.Author.Tests.{lt-ltb, eqb-true}
use Rattle.fields.specs.Bytes.{feed, blank, ampersand}
use Rattle.fields.specs.Fields.{after_word, is_only, digit_count, is_plain, number_of, after_number, split, is_word}
use Rattle.fields.proofs.Pieces.{ended}
use Rattle.fields.proofs.Num.{numbered_word, numbered_is, numbered-says}
use Rattle.fields.proofs.Forms.{Plain, only-form, word-form, plain_form, plain-some, plain-last, tail-form, word_line}
use Rattle.fields.proofs.Numbers.{both}
use Rattle.hoa.specs.Words.{edge_word, open_brace, close_brace, inf_word, close_word, accept_word, blank_word, true_word}
use Rattle.hoa.specs.Lines.{
  target_of,
  target_tail,
  inside,
  are_colours,
  is_braces,
  is_edge,
  colour_count,
  condition,
  inf_number,
  inf_tail,
  are_infs,
  is_acceptance,
}
use Rattle.hoa.specs.Text.{is_end, edges_from, colours_said}
use Rattle.hoa.specs.Edges.{no_edge}
use Rattle.hoa.proofs.EdgeLines.{conflict, Ends, EndAll, split-ends, ends-one, only-ends, after-ends, number-ends, closed-ends}
use Rattle.hoa.proofs.BlockOnce.{end-no-state}

-- an edge's line without braces
pub edge-bare : (n k t : ℕ) → n ≤ 100000 → t < n → is_edge n k (ended (numbered_word edge_word t)) ≡ true
unfolding is_edge
edge-bare n k t many h = rw (numbered-says edge_word t (omega arith), numbered_is edge_word t (omega arith), lt-ltb t n h) refl

-- a number, a word and what follows
module _ (w f : List ℕ) (h : 0 < length (after_word w (after_number f))) (some : 0 < length w) where
  pub cut-some : 0 < length (after_number f)
  cut-some = number_cut (after_number f) (word-form w (after_number f) h)
    where
      long : (v r : List ℕ) → 0 < length v → 0 < length (v ++ r)
      long [] r q = absurd (omega arith)
      long (x ∷ v) r q = omega arith

      number_cut : (r : List ℕ) → r ≡ w ++ after_word w (after_number f) → 0 < length r
      number_cut r e = subst (λ (l : List ℕ). 0 < length l) (sym e) (long w (after_word w (after_number f)) some)

  pub cut-form : Plain f (number_of f) (w ++ after_word w (after_number f))
  cut-form = subst (Plain f (number_of f)) (word-form w (after_number f) h) (plain_form f cut-some)

-- colours with a blank between, and what closes the braces after the last
abbrev pub ColourPieces : List (List ℕ) → Type 0
ColourPieces [] = ⊥
ColourPieces (p ∷ []) = Plain p (number_of p) (close_brace ++ feed ∷ [])
ColourPieces (p ∷ q ∷ ps) = Plain p (number_of p) (blank ∷ []) × ColourPieces (q ∷ ps)

close-form : (p : List ℕ) → is_word close_brace (after_number p) ≡ true → Plain p (number_of p) (close_brace ++ feed ∷ [])
close-form p e =
    let end = only-form feed (after_word close_brace (after_number p)) e in
    subst (λ (r : List ℕ). Plain p (number_of p) (close_brace ++ r)) end (cut-form close_brace p (rw end (omega arith)) (omega arith))

blank-form : (p : List ℕ) → is_only blank (after_number p) ≡ true → Plain p (number_of p) (blank ∷ [])
blank-form p e =
    let end = only-form blank (after_number p) e in
    subst (Plain p (number_of p)) end (plain_form p (rw end (omega arith)))

colours-form : (k : ℕ) (ps : List (List ℕ)) → EndAll blank ps → are_colours k ps ≡ true → ColourPieces ps
unfolding are_colours
colours-form k [] h e = conflict (sym e)
colours-form k (p ∷ []) h e = go (is_word close_brace (after_number p)) refl (is_only blank (after_number p)) (both (ltb (number_of p) k) _ e).1
  where
    go : (t : Bool) → is_word close_brace (after_number p) ≡ t → (u : Bool) → (t || (u && false)) ≡ true → ColourPieces (p ∷ [])
    go true z u r = close-form p z
    go false z true r = conflict (sym r)
    go false z false r = conflict (sym r)
colours-form k (p ∷ q ∷ ps) h e =
    go (is_word close_brace (after_number p)) refl (both (ltb (number_of p) k) _ e).1 (colours-form k (q ∷ ps) h.1)
  where
    go : (t : Bool) → is_word close_brace (after_number p) ≡ t → (t || (is_only blank (after_number p) && are_colours k (q ∷ ps))) ≡ true
        → (are_colours k (q ∷ ps) ≡ true → ColourPieces (q ∷ ps)) → ColourPieces (p ∷ q ∷ ps)
    go true z r ih = absurd (let w = ends-one blank feed p h.0 (closed-ends p z) in omega (arith, w))
    go false z r ih = let (a, b) = both (is_only blank (after_number p)) (are_colours k (q ∷ ps)) r in (blank-form p a, ih b)

-- braces: nothing, or colours
pub braces-form : (k : ℕ) (l : List ℕ) → is_braces k l ≡ true → (l ≡ close_brace ++ feed ∷ []) ⊎ ColourPieces (split blank l)
unfolding is_braces
braces-form k l e = go (is_word close_brace l) refl e
  where
    go : (t : Bool) → is_word close_brace l ≡ t → (t || are_colours k (split blank l)) ≡ true → (l ≡ close_brace ++ feed ∷ []) ⊎ ColourPieces (split blank l)
    go true z r = inl (word_line close_brace l z)
    go false z r = inr (colours-form k (split blank l) (split-ends blank l) r)

braces-some : (k : ℕ) (l : List ℕ) → is_braces k l ≡ true → 0 < length l
unfolding split
braces-some k [] e = elim (braces-form k [] e) [ inl z ↦ absurd (omega (arith, ap {B = ℕ} length z)) | inr z ↦ absurd z ]
braces-some k (x ∷ l) e = omega arith

-- an edge's line: the target, and the line feed or the braces
pub edge-form : (n k : ℕ) (l : List ℕ) → is_edge n k l ≡ true → let f = after_word edge_word l in
    (l ≡ edge_word ++ f) × (Plain f (target_of l) (feed ∷ []) ⊎ (Plain f (target_of l) (open_brace ++ inside l) × (is_braces k (inside l) ≡ true)))
unfolding is_edge
edge-form n k l e = go (is_only feed (target_tail l)) refl (both (ltb (target_of l) n) _ e).1
  where
    go : (t : Bool) → is_only feed (target_tail l) ≡ t → (t || is_braces k (inside l)) ≡ true → let f = after_word edge_word l in
        (l ≡ edge_word ++ f) × (Plain f (target_of l) (feed ∷ []) ⊎ (Plain f (target_of l) (open_brace ++ inside l) × (is_braces k (inside l) ≡ true)))
    go true z r =
        ((tail-form edge_word l (rw (only-form feed (target_tail l) z) (omega arith))).0, inl (plain-last (after_word edge_word l) z))
    go false z r =
        let f = after_word edge_word l in
        let some = braces-some k (inside l) r in (
          word-form edge_word l (plain-some f (cut-some open_brace f some (omega arith))),
          inr (cut-form open_brace f some (omega arith), r),
        )

-- `Inf(j)` and a byte
abbrev pub InfPiece : ℕ → ℕ → List ℕ → Type 0
InfPiece j b p = (p ≡ inf_word ++ after_word inf_word p) × Plain (after_word inf_word p) j (close_word ++ b ∷ [])

-- `Inf(j)` to `Inf(k-1)`
abbrev pub InfPieces : ℕ → ℕ → List (List ℕ) → Type 0
InfPieces k j [] = ⊥
InfPieces k j (p ∷ []) = (suc j ≡ k) × InfPiece j feed p
InfPieces k j (p ∷ q ∷ ps) = InfPiece j ampersand p × InfPieces k (suc j) (q ∷ ps)

inf-form : (j b : ℕ) (p : List ℕ) → inf_number p ≡ j → is_only b (inf_tail p) ≡ true → InfPiece j b p
inf-form j b p number e =
    let f = after_word inf_word p in
    let end = only-form b (inf_tail p) e in
    let some : 0 < length (inf_tail p) = rw end (omega arith) in (
      word-form inf_word p (plain-some f (cut-some close_word f some (omega arith))),
      subst (λ (x : ℕ). Plain f x (close_word ++ b ∷ [])) number
          (subst (λ (r : List ℕ). Plain f (inf_number p) (close_word ++ r)) end (cut-form close_word f some (omega arith))),
    )

inf-ends : (b : ℕ) (p : List ℕ) → is_only b (inf_tail p) ≡ true → Ends b p
inf-ends b p e =
    let f = after_word inf_word p in
    after-ends b inf_word p (number-ends b f (after-ends b close_word (after_number f) (only-ends b (inf_tail p) e)))

infs-form : (k j : ℕ) (ps : List (List ℕ)) → EndAll ampersand ps → are_infs k j ps ≡ true → InfPieces k j ps
unfolding are_infs
infs-form k j [] h e = conflict (sym e)
infs-form k j (p ∷ []) h e =
    let (number, rest) = both (eqb (inf_number p) j) _ e in
    go (is_only feed (inf_tail p)) refl (is_only ampersand (inf_tail p)) (eqb-true (inf_number p) j number) rest
  where
    go : (t : Bool) → is_only feed (inf_tail p) ≡ t → (u : Bool) → inf_number p ≡ j → cond t (eqb (suc j) k) (u && false) ≡ true → InfPieces k j (p ∷ [])
    go true z u number r = (eqb-true (suc j) k r, inf-form j feed p number z)
    go false z true number r = conflict (sym r)
    go false z false number r = conflict (sym r)
infs-form k j (p ∷ q ∷ ps) h e =
    let (number, rest) = both (eqb (inf_number p) j) _ e in
    go (is_only feed (inf_tail p)) refl (eqb-true (inf_number p) j number) rest (infs-form k (suc j) (q ∷ ps) h.1)
  where
    go : (t : Bool) → is_only feed (inf_tail p) ≡ t → inf_number p ≡ j
        → cond t (eqb (suc j) k) (is_only ampersand (inf_tail p) && are_infs k (suc j) (q ∷ ps)) ≡ true
        → (are_infs k (suc j) (q ∷ ps) ≡ true → InfPieces k (suc j) (q ∷ ps)) → InfPieces k j (p ∷ q ∷ ps)
    go true z number r ih = absurd (let w = ends-one ampersand feed p h.0 (inf-ends feed p z) in omega (arith, w))
    go false z number r ih =
        let (a, b) = both (is_only ampersand (inf_tail p)) (are_infs k (suc j) (q ∷ ps)) r in
        (inf-form j ampersand p number a, ih b)

-- an `Acceptance:` line, from its condition on: `t` where k is 0, else the `Inf`s
pub condition-form : (l : List ℕ) → is_acceptance l ≡ true → let k = colour_count l in
    ((k ≡ 0) × (condition l ≡ true_word ++ feed ∷ [])) ⊎ InfPieces k 0 (split ampersand (condition l))
unfolding is_acceptance
condition-form l e = go (eqb (colour_count l) 0) refl e
  where
    go : (t : Bool) → eqb (colour_count l) 0 ≡ t
        → cond t (is_word true_word (condition l)) (are_infs (colour_count l) 0 (split ampersand (condition l))) ≡ true
        → ((colour_count l ≡ 0) × (condition l ≡ true_word ++ feed ∷ [])) ⊎ InfPieces (colour_count l) 0 (split ampersand (condition l))
    go true z r = inl (eqb-true (colour_count l) 0 z, word_line true_word (condition l) r)
    go false z r = inr (infs-form (colour_count l) 0 (split ampersand (condition l)) (split-ends ampersand (condition l)) r)

infs-some : (k : ℕ) (l : List ℕ) → InfPieces k 0 (split ampersand l) → 0 < length l
unfolding split
infs-some k [] z = absurd z
infs-some k (x ∷ l) z = omega arith

-- the whole line
pub acceptance-form : (l : List ℕ) → is_acceptance l ≡ true → let f = after_word accept_word l in
    (l ≡ accept_word ++ f) × Plain f (colour_count l) (blank_word ++ condition l)
acceptance-form l e =
    let f = after_word accept_word l in
    (word-form accept_word l (plain-some f (cut-some blank_word f long (omega arith))), cut-form blank_word f long (omega arith))
  where
    long : 0 < length (condition l)
    long = elim (condition-form l e) [ inl z ↦ rw z.1 (omega arith) | inr z ↦ infs-some (colour_count l) (condition l) z ]

-- no edge stands behind `--END--`
pub edges-ended : (s : ℕ) (l : List ℕ) (t : List (List ℕ)) → is_end l ≡ true → edges_from s (l ∷ t) ≡ []
unfolding edges_from
edges-ended s l t e = rw (end-no-state l e, e) refl

-- no line says the edge that is not there
pub none_said : no_edge ≡ record { source = 0; target = target_of []; colours = colours_said [] }
unfolding colours_said after_word is_only number_of after_number is_plain digit_count split
none_said = refl
