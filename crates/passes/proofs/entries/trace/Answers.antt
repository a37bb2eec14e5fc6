-- `entries::trace` meets its contract: the arcs from an entry on are written, from the last to the first. Assumes nothing.
use mathlib.Core.Path.{ap, ◌∙◌}
use Prim.Native.Nat.{ℕ}
use native.Mathlib.Omega.{arith}
use Rattle.passes.specs.declared.entries.EntryWords.{EntryWords}
use Rattle.passes.proofs.Traces.{chain-le, tracing-none, tracing-more, tracing-all, tracing-some}
use Rattle.passes.proofs.entries.trace.Goals as goal

pub loop-at-init : goal.loop-at-init
loop-at-init c = tracing-none _ _ _ _ c.depth-steps.ensures

pub words_of-words-requires : goal.words_of-words-requires
words_of-words-requires c =
    let l = c.loop-at in
    let space = c.requires.0.space in
    omega (arith, space, l.invariant.inside)

pub bounds-plan-at : goal.bounds-plan-at
bounds-plan-at c =
    let l = c.loop-at in
    let few = chain-le c.requires.0 c.depth-steps.ensures (omega arith) in
    omega (arith, few, l.invariant.within, l.invariant.size, c.requires.1)

pub loop-at-preserved : goal.loop-at-preserved
loop-at-preserved c =
    let few = chain-le c.requires.0 c.depth-steps.ensures (omega arith) in
    tracing-more _ _ c.requires.0 (omega (arith, few, c.requires.1)) c.loop-at.invariant (tracing-some c.loop-at.invariant (omega arith))
    (ap {B = ℕ} (λ (x : EntryWords). x.arc) c.words_of-words.ensures)
    (c.from-entry.ensures ∙ ap {B = ℕ} (λ (x : EntryWords). x.parent) c.words_of-words.ensures)

pub returns : goal.returns
returns c =
    tracing-all c.requires.0 c.depth-steps.ensures c.loop-at.invariant (omega arith)
