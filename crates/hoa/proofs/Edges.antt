-- The edges of a text that is right: below n and k, and each as its line and its block say. Assumes nothing.
use mathlib.Core.Path.{◌≡◌, refl, sym, ap, subst, ◌∙◌}
use mathlib.Core.Bool.{Bool, true, false, cond}
use mathlib.Core.List.{List, [], ◌∷◌, ◌++◌}
use Prim.Native.Nat.{ℕ, zero, suc, ◌+◌, ◌-◌, ◌≤◌, ◌<◌}
use native.Mathlib.Decide.{dec_le}
use native.Mathlib.Nat.{zero-add}
use native.Mathlib.Omega.{arith}
use lib.ListN.{length, get_or, drop, length-drop}
use Rattle.fields.specs.Fields.{line_of}
use Rattle.hoa.specs.Lines.{is_state, state_of, target_of}
use Rattle.hoa.specs.Text.{Edge, is_end, body_wrong, hoa_wrong, modes_of, colours_of, colours_said, edges_from, edges_of}
use Rattle.hoa.specs.Edges.{EdgesFit, no_edge, edge_lines, EdgeAt}
use Rattle.hoa.proofs.EdgeLines.{edge-below}
use Rattle.hoa.proofs.Stands.{Stands, last, block, edge, stands, some-line, right-body, at-line, next-line}

-- the edge on a line where the block of mode s is open
abbrev edge_on : ℕ → List ℕ → Edge
edge_on s l = record { source = s; target = target_of l; colours = colours_said l }

-- the edges in lines, by the first of them
edges-last : (s : ℕ) (l : List ℕ) → is_end l ≡ true → edges_from s (l ∷ []) ≡ []
unfolding edges_from
edges-last s l e = go (is_state l)
  where
    go : (t : Bool) → cond t [] (cond (is_end l) [] (edge_on s l ∷ [])) ≡ []
    go true = refl
    go false = rw e

edges-block : (s : ℕ) (l : List ℕ) (t : List (List ℕ)) → is_state l ≡ true → edges_from s (l ∷ t) ≡ edges_from (state_of l) t
unfolding edges_from
edges-block s l t e = rw e

edges-edge : (s : ℕ) (l : List ℕ) (t : List (List ℕ)) → is_state l ≡ false → is_end l ≡ false
    → edges_from s (l ∷ t) ≡ edge_on s l ∷ edges_from s t
unfolding edges_from
edges-edge s l t e h = rw (e, h)

-- edges are below n and k
edges_fit : (n k s : ℕ) (before rest : List (List ℕ)) → (0 < length before → s < n) → body_wrong n k before rest ≡ 0
    → EdgesFit n k (edges_from s rest)
edges_fit n k s before [] h e = absurd (omega (arith, some-line n k before [] e))
edges_fit n k s before (l ∷ t) h e = go (stands n k before l t e) (λ s b. edges_fit n k s b t)
  where
    go : Stands n k before l t
        → ((s : ℕ) (b : List (List ℕ)) → (0 < length b → s < n) → body_wrong n k b t ≡ 0 → EdgesFit n k (edges_from s t))
        → EdgesFit n k (edges_from s (l ∷ t))
    go (last x y) ih = rw (y, edges-last s l x) tt
    go (block x y low new r) ih = rw (edges-block s l t y) (ih (state_of l) (before ++ l ∷ []) (λ z. low) r)
    go (edge x y some right r) ih =
        let (low, few) = edge-below n k l right in
        rw (edges-edge s l t y x) (record { source = h some; target = low; colours = few }, ih s (before ++ l ∷ []) (λ z. h some) r)

-- "Every mode but the start is below its own text's n", and each colour below its k
pub edges-right : (ls : List (List ℕ)) → hoa_wrong ls ≡ 0 → EdgesFit (modes_of ls) (colours_of ls) (edges_of ls)
edges-right ls e = edges_fit (modes_of ls) (colours_of ls) 0 [] (drop 6 ls) (λ z. absurd (omega (arith, z))) (right-body ls e)

module _ (ls : List (List ℕ)) (n k : ℕ) where
  -- before line j of the body the block of mode s is open
  record Open (j s : ℕ) : Type 0 where
    at : ℕ
    body : 6 ≤ at
    earlier : at < 6 + j
    opens : is_state (line_of ls at) ≡ true
    within : (x : ℕ) → at < x → x < 6 + j → is_state (line_of ls x) ≡ false
    source : s ≡ state_of (line_of ls at)

  lines-block : (j : ℕ) → is_state (line_of ls (6 + j)) ≡ true → edge_lines ls (suc j) ≡ edge_lines ls j
  unfolding edge_lines
  lines-block j e = rw e (omega arith)

  lines-edge : (j : ℕ) → is_state (line_of ls (6 + j)) ≡ false → edge_lines ls (suc j) ≡ suc (edge_lines ls j)
  unfolding edge_lines
  lines-edge j e = rw e (omega arith)

  module _ (j s : ℕ) (l : List ℕ) (t : List (List ℕ)) (here : drop (6 + j) ls ≡ l ∷ t) where
    -- the block that line j opens
    opened : is_state l ≡ true → Open (suc j) (state_of l)
    opened z =
        record {
          at = 6 + j;
          body = omega arith;
          earlier = omega arith;
          opens = rw (at-line ls j l t here).here z;
          within = λ x h g. absurd (omega (arith, h, g));
          source = rw (at-line ls j l t here).here;
        }

    no-state : is_state l ≡ false → (o : Open j s) (x : ℕ) → o.at < x → x ≤ 6 + j → is_state (line_of ls x) ≡ false
    no-state z o x h g =
        elim (dec_le (6 + j) x) [
          | yes r ↦ let same : x ≡ 6 + j = omega arith in rw (same, (at-line ls j l t here).here) z
          | no r ↦ o.within x h (omega arith)
        ]

    -- the block that stays open
    stays : is_state l ≡ false → Open j s → Open (suc j) s
    stays z o =
        record {
          at = o.at;
          body = o.body;
          earlier = omega (arith, o.earlier);
          opens = o.opens;
          within = λ x h g. no-state z o x h (omega (arith, g));
          source = o.source;
        }

    more-lines : 0 < length t → suc (6 + j) < length ls
    more-lines h =
        let left : length (drop (suc (6 + j)) ls) ≡ length ls - suc (6 + j) = length-drop (suc (6 + j)) ls in
        let same : length (drop (suc (6 + j)) ls) ≡ length t = ap length (at-line ls j l t here).next in
        omega arith

    -- what is said of the edge on line j
    said_here : is_state l ≡ false → 0 < length t → Open j s → EdgeAt ls (edge_lines ls j) (edge_on s l)
    said_here z more o =
        record {
          line = 6 + j;
          block = o.at;
          body = o.body;
          later = o.earlier;
          not_last = more-lines more;
          opens = o.opens;
          within = no-state z o;
          source = o.source;
          target = rw (at-line ls j l t here).here;
          colours = rw (at-line ls j l t here).here;
          before = ap (edge_lines ls) (omega arith);
        }

  -- the edges in the lines from line j of the body on, and their number
  said : (j s i : ℕ) (before rest : List (List ℕ)) → drop (6 + j) ls ≡ rest → body_wrong n k before rest ≡ 0 → (0 < length before → Open j s)
      → i < length (edges_from s rest) → EdgeAt ls (edge_lines ls j + i) (get_or (edges_from s rest) i no_edge)
  said j s i before [] here e o h = absurd (omega (arith, some-line n k before [] e))
  said j s i before (l ∷ t) here e o h =
      go (stands n k before l t e) (λ s i b. said (suc j) s i b t (next-line ls j l t here)) i h
    where
      go : Stands n k before l t
          → ((s i : ℕ) (b : List (List ℕ)) → body_wrong n k b t ≡ 0 → (0 < length b → Open (suc j) s) → i < length (edges_from s t)
          → EdgeAt ls (edge_lines ls (suc j) + i) (get_or (edges_from s t) i no_edge))
          → (i : ℕ) → i < length (edges_from s (l ∷ t)) → EdgeAt ls (edge_lines ls j + i) (get_or (edges_from s (l ∷ t)) i no_edge)
      go (last x y) ih i h = absurd (let z : i < length (edges_from s (l ∷ [])) = rw y at h in omega (arith, z, ap length (edges-last s l x)))
      go (block x y low new r) ih i h =
          let same = edges-block s l t y in
          rw (same, ← (lines-block j (rw (at-line ls j l t here).here y)))
          (ih (state_of l) i (before ++ l ∷ []) r (λ z. opened j s l t here y) (rw same at h))
      go (edge x y some right r) ih zero h =
          let none : edge_lines ls j + 0 ≡ edge_lines ls j = omega arith in
          rw (edges-edge s l t y x, none) (said_here j s l t here y (some-line n k (before ++ l ∷ []) t r) (o some))
      go (edge x y some right r) ih (suc i) h =
          let same = edges-edge s l t y x in
          let one = lines-edge j (rw (at-line ls j l t here).here y) in
          let next : edge_lines ls j + suc i ≡ edge_lines ls (suc j) + i = omega (arith, one) in
          let left : suc i < suc (length (edges_from s t)) = rw same at h in
          rw (same, next) (ih s i (before ++ l ∷ []) r (λ z. stays j s l t here y (o some)) (omega arith))

  counted : (j s : ℕ) (before rest : List (List ℕ)) → drop (6 + j) ls ≡ rest → body_wrong n k before rest ≡ 0
      → edge_lines ls j + length (edges_from s rest) ≡ edge_lines ls (length ls - 7)
  counted j s before [] here e = absurd (omega (arith, some-line n k before [] e))
  counted j s before (l ∷ t) here e = go (stands n k before l t e) (λ s b. counted (suc j) s b t (next-line ls j l t here))
    where
      go : Stands n k before l t
          → ((s : ℕ) (b : List (List ℕ)) → body_wrong n k b t ≡ 0 → edge_lines ls (suc j) + length (edges_from s t) ≡ edge_lines ls (length ls - 7))
          → edge_lines ls j + length (edges_from s (l ∷ t)) ≡ edge_lines ls (length ls - 7)
      go (last x y) ih =
          let size : length (drop (6 + j) ls) ≡ length ls - (6 + j) = length-drop (6 + j) ls in
          let one : length (drop (6 + j) ls) ≡ 1 = rw (here, y) in
          let end : length ls - 7 ≡ j = omega arith in
          rw (y, edges-last s l x, end) (omega arith)
      go (block x y low new r) ih =
          rw (edges-block s l t y, ← (lines-block j (rw (at-line ls j l t here).here y))) (ih (state_of l) (before ++ l ∷ []) r)
      go (edge x y some right r) ih =
          let one = lines-edge j (rw (at-line ls j l t here).here y) in
          let rest = ih s (before ++ l ∷ []) r in
          rw (edges-edge s l t y x) (omega (arith, one, rest))

-- edge i of a text that is right, as its lines say
pub edge-said : (ls : List (List ℕ)) → hoa_wrong ls ≡ 0 → (i : ℕ) → i < length (edges_of ls) → EdgeAt ls i (get_or (edges_of ls) i no_edge)
unfolding edge_lines
edge-said ls e i h =
    subst (λ (m : ℕ). EdgeAt ls m (get_or (edges_of ls) i no_edge)) (zero-add i)
    (said ls (modes_of ls) (colours_of ls) 0 0 i [] (drop 6 ls) refl (right-body ls e) (λ z. absurd (omega (arith, z))) h)

-- such a text has an edge for each line of its body that is no `State:` line, but the last
pub edge_count : (ls : List (List ℕ)) → hoa_wrong ls ≡ 0 → length (edges_of ls) ≡ edge_lines ls (length ls - 7)
unfolding edge_lines
edge_count ls e = sym (zero-add (length (edges_of ls))) ∙ counted ls (modes_of ls) (colours_of ls) 0 0 [] (drop 6 ls) refl (right-body ls e)
