-- In a text that is right the edges of one source stand together. Document 02, Ask 1: "one block at most for each state". Assumes nothing.
use mathlib.Core.Path.{◌≡◌, sym, ap, ◌∙◌}
use mathlib.Core.List.{List}
use Prim.Native.Nat.{ℕ, zero, suc, ◌-◌, ◌≤◌, ◌<◌}
use native.Mathlib.Decide.{dec_le}
use native.Mathlib.Omega.{arith}
use lib.ListN.{length, get_or}
use Rattle.fields.specs.Fields.{line_of}
use Rattle.hoa.specs.Lines.{state_of}
use Rattle.hoa.specs.Text.{Edge, hoa_wrong, edges_of}
use Rattle.hoa.specs.Edges.{no_edge, edge_lines, EdgeAt}
use Rattle.hoa.proofs.EdgeLines.{conflict}
use Rattle.hoa.proofs.Edges.{edge-said}
use Rattle.hoa.proofs.BlockOnce.{block-once}

-- more lines have no fewer edges
pub edge-lines-rise : (ls : List (List ℕ)) (i j : ℕ) → i ≤ j → edge_lines ls i ≤ edge_lines ls j
unfolding edge_lines
edge-lines-rise ls i zero h = let same : i ≡ 0 = omega arith in rw same (omega arith)
edge-lines-rise ls i (suc j) h =
    elim (dec_le i j) [
      | yes g ↦ omega (arith, edge-lines-rise ls i j g)
      | no g ↦ let same : i ≡ suc j = omega arith in rw same (omega arith)
    ]

module _ (ls : List (List ℕ)) (right : hoa_wrong ls ≡ 0) where
  -- a later edge's line stands later
  lines-rise : (i j : ℕ) (e f : Edge) → i < j → (a : EdgeAt ls i e) (b : EdgeAt ls j f) → a.line < b.line
  lines-rise i j e f h a b =
      elim (dec_le b.line a.line) [
        | yes g ↦ absurd (omega (arith, edge-lines-rise ls (b.line - 6) (a.line - 6) (omega arith), a.before, b.before))
        | no g ↦ omega arith
      ]

  -- edges of one source have one block
  one_block : (i j : ℕ) (e f : Edge) (a : EdgeAt ls i e) (b : EdgeAt ls j f) → e.source ≡ f.source → a.block ≡ b.block
  one_block i j e f a b same =
      let modes : state_of (line_of ls a.block) ≡ state_of (line_of ls b.block) = sym a.source ∙ same ∙ b.source in
      elim (dec_le b.block a.block) [
        | yes g ↦ elim (dec_le a.block b.block) [
          | yes h ↦ omega arith
          | no h ↦ absurd (block-once ls right b.block a.block b.body (omega arith) b.opens a.opens (sym modes))
        ]
        | no g ↦ absurd (block-once ls right a.block b.block a.body (omega arith) a.opens b.opens modes)
      ]

  -- a block that is open at an edge and at a later one is open at each between
  block-between : (i j k : ℕ) (e f g : Edge) (a : EdgeAt ls i e) (b : EdgeAt ls j f) (c : EdgeAt ls k g) → i < j → j < k → a.block ≡ c.block
      → b.block ≡ a.block
  block-between i j k e f g a b c p q same =
      let first = lines-rise i j e f p a b in
      let last = lines-rise j k f g q b c in
      elim (dec_le b.block a.block) [
        | yes h ↦ elim (dec_le a.block b.block) [
          | yes r ↦ omega arith
          | no r ↦ conflict (sym a.opens ∙ b.within a.block (omega arith) (omega (arith, a.later)))
        ]
        | no h ↦ conflict (sym b.opens ∙ c.within b.block (omega arith) (omega (arith, b.later)))
      ]

  pub sources-together : (a b c : ℕ) → a < b → b < c → c < length (edges_of ls)
      → (get_or (edges_of ls) a no_edge).source ≡ (get_or (edges_of ls) c no_edge).source
      → (get_or (edges_of ls) b no_edge).source ≡ (get_or (edges_of ls) a no_edge).source
  sources-together a b c p q h same =
      let x = edge-said ls right a (omega arith) in
      let y = edge-said ls right b (omega arith) in
      let z = edge-said ls right c (omega arith) in
      let e = get_or (edges_of ls) a no_edge in
      let f = get_or (edges_of ls) b no_edge in
      let g = get_or (edges_of ls) c no_edge in
      let block = block-between a b c e f g x y z p q (one_block a c e g x z same) in
      y.source ∙ ap {B = ℕ} (λ (i : ℕ). state_of (line_of ls i)) block ∙ sym x.source
