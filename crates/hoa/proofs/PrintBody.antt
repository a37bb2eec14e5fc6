-- A body that is printed reads back, where the edges of one source stand together. Assumes nothing.
use mathlib.Core.Path.{◌≡◌, refl, ap, subst, ◌∙◌}
use mathlib.Core.Bool.{Bool, true, false, ◌||◌, cond}
use mathlib.Core.List.{List, [], ◌∷◌, ◌++◌, map}
use Prim.Native.Nat.{ℕ, ◌≤◌, ◌<◌}
use native.Mathlib.Omega.{arith}
use lib.Dec.{eqb}
use lib.ListN.{length, length-append}
use borrow.Author.Tests.{lt-ltb, eqb-true}
use Rattle.refusals.proofs.Tests.{or_no}
use Rattle.fields.specs.Fields.{after_word, is_only, digit_count, is_plain, after_number}
use Rattle.fields.proofs.Pieces.{ended}
use Rattle.fields.proofs.Num.{Small, numbered_word, numbered_is, numbered-says}
use Rattle.hoa.specs.Words.{state_word, end_word}
use Rattle.hoa.specs.Lines.{is_state}
use Rattle.hoa.specs.Text.{Edge, contains, edges_from, opens_block, has_block, is_new_block, may_stand, is_end, body_wrong}
use Rattle.hoa.specs.Edges.{Below, EdgeFits, EdgesFit}
use Rattle.hoa.proofs.BlockLines.{block_more}
use Rattle.hoa.proofs.Print.{edged, edge-back, edge-target, edge-colours}

abbrev pub stated : ℕ → List ℕ
stated i = numbered_word state_word i

abbrev pub edge_text : Edge → List ℕ
edge_text e = edged e.target e.colours

-- the lines from an edge on, where the block of mode s is open; a line for a block where the source is another
abbrev pub body_from : ℕ → List Edge → List (List ℕ)
body_from s [] = end_word ∷ []
body_from s (e ∷ es) = cond (eqb e.source s) (edge_text e ∷ body_from e.source es) (stated e.source ∷ edge_text e ∷ body_from e.source es)

abbrev pub body_text : List Edge → List (List ℕ)
body_text [] = end_word ∷ []
body_text (e ∷ es) = stated e.source ∷ edge_text e ∷ body_from e.source es

-- a source other than the last is none of those before
abbrev pub Together : List ℕ → ℕ → List Edge → Type 0
Together v s [] = Unit
Together v s (e ∷ es) = (eqb e.source s ≡ false → contains e.source v ≡ false) × Together (e.source ∷ v) e.source es

-- the edges of one source stand together
abbrev pub TogetherAll : List Edge → Type 0
TogetherAll [] = Unit
TogetherAll (e ∷ es) = Together (e.source ∷ []) e.source es

below_more : (k : ℕ) (cs : List ℕ) → k ≤ 100000 → Below k cs → Below 100000 cs
below_more k [] h f = tt
below_more k (c ∷ cs) h f = (omega (arith, f.0), below_more k cs h f.1)

-- the three kinds of line are told apart by their first byte
end_is : is_end (ended end_word) ≡ true
unfolding after_word is_only
end_is = refl

end-no-state : is_state (ended end_word) ≡ false
unfolding after_word is_only after_number is_plain digit_count
end-no-state = refl

edge-no-end : (t : ℕ) (cs : List ℕ) → is_end (ended (edged t cs)) ≡ false
unfolding after_word is_only
edge-no-end t cs = refl

edge-no-state : (t : ℕ) (cs : List ℕ) → is_state (ended (edged t cs)) ≡ false
unfolding after_word is_only after_number is_plain digit_count
edge-no-state t cs = refl

state-no-end : (i : ℕ) → is_end (ended (stated i)) ≡ false
unfolding after_word is_only
state-no-end i = refl

opens-edge : (m t : ℕ) (cs : List ℕ) → opens_block m (ended (edged t cs)) ≡ false
unfolding opens_block
opens-edge m t cs = rw (edge-no-state t cs)

opens-state : (m i : ℕ) → Small i → opens_block m (ended (stated i)) ≡ eqb m i
unfolding opens_block
opens-state m i low = rw (numbered_is state_word i low, numbered-says state_word i low)

-- no mode has a block in these lines but those of the list
abbrev pub OnlyThese : List ℕ → List (List ℕ) → Type 0
OnlyThese v ls = (m : ℕ) → contains m v ≡ false → has_block m ls ≡ false

these-same : (v : List ℕ) (ls : List (List ℕ)) (t : ℕ) (cs : List ℕ) → OnlyThese v ls → OnlyThese v (ls ++ ended (edged t cs) ∷ [])
these-same v ls t cs f m h = block_more m ls (ended (edged t cs)) ∙ rw (f m h) (opens-edge m t cs)

these-edge : (v : List ℕ) (ls : List (List ℕ)) (s t : ℕ) (cs : List ℕ) → OnlyThese v ls → OnlyThese (s ∷ v) (ls ++ ended (edged t cs) ∷ [])
unfolding contains
these-edge v ls s t cs f m h =
    block_more m ls (ended (edged t cs)) ∙ rw (f m ((or_no (eqb m s) (contains m v)).0 h).1) (opens-edge m t cs)

these-state : (v : List ℕ) (ls : List (List ℕ)) (s : ℕ) → Small s → OnlyThese v ls → OnlyThese (s ∷ v) (ls ++ ended (stated s) ∷ [])
unfolding contains
these-state v ls s low f m h =
    let (a, b) = (or_no (eqb m s) (contains m v)).0 h in
    block_more m ls (ended (stated s)) ∙ rw (f m b) (opens-state m s low ∙ a)

or_true : (t : Bool) → (t || true) ≡ true
or_true true = refl
or_true false = refl

module _ (n k : ℕ) (many : n ≤ 100000) (few : k ≤ 100000) where
  -- an edge's line, after some line
  edge_goes : (before ls : List (List ℕ)) (e : Edge) → EdgeFits n k e → 0 < length before
      → body_wrong n k before (ended (edge_text e) ∷ ls) ≡ body_wrong n k (before ++ ended (edge_text e) ∷ []) ls
  unfolding body_wrong may_stand
  edge_goes before ls e f h =
      rw (
        edge-no-end e.target e.colours,
        edge-back n k e.target e.colours many few f.target f.colours,
        lt-ltb 0 (length before) h,
        or_true (is_new_block n before (ended (edge_text e))),
      )

  -- a block's line, of a mode without a block
  state-goes : (before ls : List (List ℕ)) (i : ℕ) → i < n → has_block i before ≡ false
      → body_wrong n k before (ended (stated i) ∷ ls) ≡ body_wrong n k (before ++ ended (stated i) ∷ []) ls
  unfolding body_wrong may_stand is_new_block
  state-goes before ls i h new =
      rw (state-no-end i, numbered_is state_word i (omega arith), numbered-says state_word i (omega arith), lt-ltb i n h, new)

  more : (ls : List (List ℕ)) (l : List ℕ) → 0 < length (ls ++ l ∷ [])
  more ls l = rw (length-append ls (l ∷ [])) (omega arith)

  pub body_back : (v : List ℕ) (s : ℕ) (es : List Edge) (before : List (List ℕ)) → 0 < length before → OnlyThese v before
      → Together v s es → EdgesFit n k es → body_wrong n k before (map ended (body_from s es)) ≡ 0
  unfolding body_wrong
  body_back v s [] before h f g q = rw end_is
  body_back v s (e ∷ es) before h f g q =
      go (eqb e.source s) refl
      (λ b a. body_back (e.source ∷ v) e.source es b a.0 a.1 g.1 q.1)
    where
      go : (t : Bool) → eqb e.source s ≡ t
          → ((b : List (List ℕ)) → (0 < length b) × OnlyThese (e.source ∷ v) b → body_wrong n k b (map ended (body_from e.source es)) ≡ 0)
          → body_wrong n k before
          (map ended (cond t (edge_text e ∷ body_from e.source es) (stated e.source ∷ edge_text e ∷ body_from e.source es))) ≡ 0
      go true z ih =
          edge_goes before (map ended (body_from e.source es)) e q.0 h
          ∙ ih (before ++ ended (edge_text e) ∷ []) (more before (ended (edge_text e)), these-edge v before e.source e.target e.colours f)
      go false z ih =
          let i = e.source in
          let b = before ++ ended (stated i) ∷ [] in
          let low : i < n = q.0.source in
          state-goes before (ended (edge_text e) ∷ map ended (body_from i es)) i low (f i (g.0 z))
          ∙ edge_goes b (map ended (body_from i es)) e q.0 (more before (ended (stated i)))
          ∙ ih (b ++ ended (edge_text e) ∷ []) (
            more b (ended (edge_text e)),
            these-same (i ∷ v) b e.target e.colours (these-state v before i (omega arith) f),
          )

  pub bodies-back : (es : List Edge) → 0 < length es → TogetherAll es → EdgesFit n k es → body_wrong n k [] (map ended (body_text es)) ≡ 0
  unfolding has_block
  bodies-back [] h g q = absurd (omega arith)
  bodies-back (e ∷ es) h g q =
      let i = e.source in
      let low : i < n = q.0.source in
      let b = ended (stated i) ∷ [] in
      state-goes [] (ended (edge_text e) ∷ map ended (body_from i es)) i low refl
      ∙ edge_goes b (map ended (body_from i es)) e q.0 (omega arith)
      ∙ body_back (i ∷ []) i es (b ++ ended (edge_text e) ∷ []) (more b (ended (edge_text e)))
      (these-same (i ∷ []) b e.target e.colours (these-state [] [] i (omega arith) λ m z. refl)) g q.1

  pub empty_back : body_wrong n k [] (map ended (body_text [])) ≡ 0
  unfolding body_wrong
  empty_back = rw end_is

  -- the edges read back
  edge-read : (s : ℕ) (ls : List (List ℕ)) (e : Edge) → EdgeFits n k e → e.source ≡ s → edges_from s (ended (edge_text e) ∷ ls) ≡ e ∷ edges_from s ls
  unfolding edges_from
  edge-read s ls e f z =
      rw (
        edge-no-state e.target e.colours,
        edge-no-end e.target e.colours,
        edge-target e.target e.colours (omega (arith, f.target)),
        edge-colours e.target e.colours (omega (arith, f.target)) (below_more k e.colours few f.colours),
        ← z,
      )

  state-read : (s i : ℕ) (ls : List (List ℕ)) → i < n → edges_from s (ended (stated i) ∷ ls) ≡ edges_from i ls
  unfolding edges_from
  state-read s i ls h = rw (numbered_is state_word i (omega arith), numbered-says state_word i (omega arith))

  pub edges-back : (s : ℕ) (es : List Edge) → EdgesFit n k es → edges_from s (map ended (body_from s es)) ≡ es
  unfolding edges_from
  edges-back s [] q = rw (end-no-state, end_is)
  edges-back s (e ∷ es) q = go (eqb e.source s) refl (edges-back e.source es q.1)
    where
      go : (t : Bool) → eqb e.source s ≡ t → edges_from e.source (map ended (body_from e.source es)) ≡ es
          → edges_from s (map ended (cond t (edge_text e ∷ body_from e.source es) (stated e.source ∷ edge_text e ∷ body_from e.source es)))
          ≡ e ∷ es
      go true z ih =
          let same : e.source ≡ s = eqb-true e.source s z in
          edge-read s (map ended (body_from e.source es)) e q.0 same
          ∙ ap (λ (l : List Edge). e ∷ l) (subst (λ (x : ℕ). edges_from x (map ended (body_from e.source es)) ≡ es) same ih)
      go false z ih =
          state-read s e.source (ended (edge_text e) ∷ map ended (body_from e.source es)) q.0.source
          ∙ edge-read e.source (map ended (body_from e.source es)) e q.0 refl
          ∙ ap (λ (l : List Edge). e ∷ l) ih

  pub all-edges-back : (s : ℕ) (es : List Edge) → EdgesFit n k es → edges_from s (map ended (body_text es)) ≡ es
  unfolding edges_from
  all-edges-back s [] q = rw (end-no-state, end_is)
  all-edges-back s (e ∷ es) q =
      state-read s e.source (ended (edge_text e) ∷ map ended (body_from e.source es)) q.0.source
      ∙ edge-read e.source (map ended (body_from e.source es)) e q.0 refl
      ∙ ap (λ (l : List Edge). e ∷ l) (edges-back e.source es q.1)
