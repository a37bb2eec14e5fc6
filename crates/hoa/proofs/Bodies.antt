-- The body, line by line. Assumes nothing.
use mathlib.Core.Path.{◌≡◌, refl, ap, ◌∙◌}
use mathlib.Core.Bool.{Bool, true, false}
use mathlib.Core.List.{List, [], ◌∷◌}
use Prim.Native.Nat.{ℕ, suc, ◌+◌, ◌≤◌, ◌<◌}
use native.Mathlib.Numerals.{add-one}
use native.Mathlib.Omega.{arith}
use lib.ListN.{length, take, drop}
use lib.Seq.{length-take-le}
use borrow.Author.Tests.{lt-ltb, eq-eqb, ne_eqb}
use Rattle.fields.specs.Bytes.{feed}
use denote.Ref.{Bor}
use Rattle.std.specs.Prelude.{Option, Some, None}
use Rattle.std.specs.Option.{MatchOption, is_some}
use Rattle.fields.specs.Fields.{lines_of, line_or_none}
use Rattle.fields.proofs.Wrong.{told_line, told_none}
use Rattle.fields.proofs.Pieces.{split_few}
use Rattle.fields.proofs.Places.{Begins, begins}
use Rattle.hoa.specs.declared.Blocks.{Blocks}
use Rattle.hoa.specs.Text.{may_stand, is_end, body_wrong, head_wrong, hoa_wrong, modes_of, colours_of}
use Rattle.hoa.specs.Blocks.{Knows, no_blocks, blocks_after}
use Rattle.hoa.proofs.BlockLines.{knows-none, knows_more}

-- The body's first j lines may stand, rest are the lines after them, and b is known of their blocks.
pub record Walked (s : List ℕ) (n k j : ℕ) (b : Blocks) (rest : List (List ℕ)) : Type 0 where
  pub size : j + length rest ≡ length (lines_of s)
  pub left : drop j (lines_of s) ≡ rest
  pub blocks : Knows b (take j (lines_of s))
  pub same : body_wrong n k [] (lines_of s) ≡ body_wrong n k (take j (lines_of s)) rest

pub walked-first : (s : List ℕ) (n k : ℕ) (rest : List (List ℕ)) → rest ≡ lines_of s → Walked s n k 0 no_blocks rest
walked-first s n k rest e = rw e (record { size = omega arith; left = refl; blocks = knows-none; same = refl })

module _ (s : List ℕ) (n k j : ℕ) (b : Blocks) (rest : List (List ℕ)) (w : Walked s n k j b rest) where
  pub walked_few : (j ≤ length (lines_of s)) × (j + length rest ≤ length s)
  walked_few = (omega (arith, w.size), omega (arith, w.size, split_few feed s))

  read : length (take j (lines_of s)) ≡ j
  read = length-take-le j (lines_of s) walked_few.0

  -- the text ends early
  pub walked-ends : rest ≡ [] → body_wrong n k [] (lines_of s) ≡ j + 7
  unfolding body_wrong
  walked-ends e = w.same ∙ rw (e, read)

  -- a line, and those after it; end: whether it is the last, stands: whether it may stand
  module _ (line : List ℕ) (more : List (List ℕ)) (here : rest ≡ line ∷ more) where
    module _ (end : Bool) (end_is : end ≡ is_end line) where
      -- the last line, with lines after it and without
      pub walked_more : end ≡ true → 0 < length more → body_wrong n k [] (lines_of s) ≡ j + 8
      unfolding body_wrong
      walked_more z h = w.same ∙ rw (here, ← end_is, z, lt-ltb 0 (length more) h, read)

      pub walked-done : end ≡ true → more ≡ [] → body_wrong n k [] (lines_of s) ≡ 0
      unfolding body_wrong
      walked-done z e = w.same ∙ rw (here, ← end_is, z, e)

      module _ (other : end ≡ false) (stands : Bool) (stands-is : stands ≡ may_stand n k (take j (lines_of s)) line) where
        -- a line that may not stand here
        pub walked-stops : stands ≡ false → body_wrong n k [] (lines_of s) ≡ j + 7
        unfolding body_wrong
        walked-stops z = w.same ∙ rw (here, ← end_is, other, ← stands-is, z, read)

        -- one that may
        goes : stands ≡ true → Begins [] (lines_of s) j line more
            → body_wrong n k (take j (lines_of s)) rest ≡ body_wrong n k (take (suc j) (lines_of s)) more
        unfolding body_wrong
        goes z l = rw (here, ← end_is, other, ← stands-is, z, l.so-far)

        pub walked-goes : stands ≡ true → (r : Blocks) → r ≡ blocks_after b line → Walked s n k (j + 1) r more
        walked-goes z r known =
            let l = begins [] (lines_of s) j line more (w.left ∙ here) in
            rw (add-one j)
            (record {
              size = omega (arith, w.size, ap (λ (ls : List (List ℕ)). length ls) here);
              left = l.next;
              blocks = rw (known, l.so-far) (knows_more b (take j (lines_of s)) line w.blocks);
              same = w.same ∙ goes z l;
            })

-- whether a line is left
pub some-left : (left next : List (List ℕ)) (r : Option (Bor (List ℕ))) → true ≡ is_some r
    → MatchOption r ((left ≡ []) × (next ≡ [])) (λ x. left ≡ x.now ∷ next) → 0 < length left
some-left left next None e h = absurd (cc)
some-left left next (Some x) e h = rw h (omega arith)

pub none-left : (left next : List (List ℕ)) (r : Option (Bor (List ℕ))) → false ≡ is_some r
    → MatchOption r ((left ≡ []) × (next ≡ [])) (λ x. left ≡ x.now ∷ next) → left ≡ []
none-left left next None e h = h.0
none-left left next (Some x) e h = absurd (cc)

-- the whole text: its head is wrong, or its body says
pub text_head : (ls : List (List ℕ)) (h : ℕ) → Some h ≡ line_or_none (head_wrong ls) → Some h ≡ line_or_none (hoa_wrong ls)
unfolding hoa_wrong
text_head ls h e = rw (ne_eqb (head_wrong ls) 0 (told_line (head_wrong ls) h e).1) e

pub text_body : (ls body : List (List ℕ)) (r : Option ℕ) → None ≡ line_or_none (head_wrong ls) → body ≡ drop 6 ls
    → r ≡ line_or_none (body_wrong (modes_of ls) (colours_of ls) [] body) → r ≡ line_or_none (hoa_wrong ls)
unfolding hoa_wrong
text_body ls body r e p q = rw (q, p, eq-eqb (head_wrong ls) 0 (told_none (head_wrong ls) e)) refl
