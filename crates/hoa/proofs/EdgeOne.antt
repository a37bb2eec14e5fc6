-- The lines of a text say of edge i only one thing. Assumes nothing.
use mathlib.Core.Path.{◌≡◌, sym, ap, ◌∙◌}
use mathlib.Core.List.{List}
use Prim.Native.Nat.{ℕ, suc, ◌+◌, ◌-◌, ◌≤◌, ◌<◌}
use native.Mathlib.Decide.{dec_le}
use native.Mathlib.Omega.{arith}
use lib.ListN.{length}
use Rattle.fields.specs.Fields.{line_of}
use Rattle.hoa.specs.Lines.{state_of, target_of}
use Rattle.hoa.specs.Text.{Edge, hoa_wrong, colours_said, edges_of}
use Rattle.hoa.specs.Edges.{edge_lines, EdgeAt}
use Rattle.hoa.proofs.EdgeLines.{conflict}
use Rattle.hoa.proofs.Edges.{edge_count}
use Rattle.hoa.proofs.SourcesTogether.{edge-lines-rise}

same-edge : (e f : Edge) → e.source ≡ f.source → e.target ≡ f.target → e.colours ≡ f.colours → e ≡ f
same-edge e f a b c =
    let same : record { source = e.source; target = e.target; colours = e.colours } ≡ f = rw (a, b, c) in
    same

module _ (ls : List (List ℕ)) (i : ℕ) where
  -- the lines up to an edge's own, with it
  counted : (e : Edge) (a : EdgeAt ls i e) → edge_lines ls (suc (a.line - 6)) ≡ suc i
  unfolding edge_lines
  counted e a =
      let place : 6 + (a.line - 6) ≡ a.line = omega (arith, a.body, a.later) in
      rw (place, a.within a.line a.later (omega arith), a.before) (omega arith)

  no-later : (e f : Edge) (a : EdgeAt ls i e) (b : EdgeAt ls i f) → a.line ≤ b.line
  no-later e f a b =
      elim (dec_le a.line b.line) [
        | yes h ↦ h
        | no h ↦
            let rise = edge-lines-rise ls (suc (b.line - 6)) (a.line - 6) (omega (arith, b.body, b.later)) in
            absurd (omega (arith, rise, counted f b, a.before))
      ]

  -- a `State:` line after an edge's block stands after its line
  block-no-later : (e f : Edge) (a : EdgeAt ls i e) (b : EdgeAt ls i f) → a.line ≡ b.line → a.block ≤ b.block
  block-no-later e f a b same =
      elim (dec_le a.block b.block) [
        | yes h ↦ h
        | no h ↦ conflict (sym a.opens ∙ b.within a.block (omega arith) (omega (arith, a.later)))
      ]

  pub edge-one : (e f : Edge) → EdgeAt ls i e → EdgeAt ls i f → e ≡ f
  edge-one e f a b =
      let line : a.line ≡ b.line = omega (arith, no-later e f a b, no-later f e b a) in
      let block : a.block ≡ b.block = omega (arith, block-no-later e f a b line, block-no-later f e b a (sym line)) in
      same-edge e f
      (a.source ∙ ap {B = ℕ} (λ (x : ℕ). state_of (line_of ls x)) block ∙ sym b.source)
      (a.target ∙ ap {B = ℕ} (λ (x : ℕ). target_of (line_of ls x)) line ∙ sym b.target)
      (a.colours ∙ ap {B = List ℕ} (λ (x : ℕ). colours_said (line_of ls x)) line ∙ sym b.colours)

  -- in a text that is right they say nothing of an edge past the last
  pub edge-there : hoa_wrong ls ≡ 0 → (e : Edge) → EdgeAt ls i e → i < length (edges_of ls)
  edge-there right e a =
      let rise = edge-lines-rise ls (suc (a.line - 6)) (length ls - 7) (omega (arith, a.body, a.later, a.not_last)) in
      omega (arith, rise, counted e a, edge_count ls right)
