-- `entries::depth` meets its contract: the chain from j and the steps so far make the chain from i. Assumes nothing.
use mathlib.Core.Path.{◌≡◌, subst, ap, ◌∙◌}
use Prim.Native.Nat.{ℕ, ◌+◌}
use native.Mathlib.Omega.{arith}
use Rattle.passes.specs.declared.entries.EntryWords.{EntryWords}
use Rattle.passes.specs.Queue.{parent_at}
use Rattle.passes.specs.Trace.{Chain, root}
use Rattle.passes.proofs.Traces.{chain_more}
use Rattle.passes.proofs.entries.depth.Goals as goal

pub loop-j-smaller : goal.loop-j-smaller
loop-j-smaller c =
    let f = c.requires.back c.loop-j.j c.loop-j-test.true (omega (arith, c.loop-j.invariant.0)) in
    let e = ap {B = ℕ} (λ (x : EntryWords). x.parent) c.words_of.ensures in
    omega (arith, f, e)

pub loop-j-preserved : goal.loop-j-preserved
loop-j-preserved c =
    let l = c.loop-j in
    let f = c.requires.back l.j c.loop-j-test.true (omega (arith, l.invariant.0)) in
    let parent : c.from-j.result ≡ parent_at c.args.work.now l.j =
    c.from-j.ensures ∙ ap {B = ℕ} (λ (x : EntryWords). x.parent) c.words_of.ensures in (
      omega (arith, f, parent),
      λ k h. subst (λ n. Chain c.args.work.now c.args.i n) (omega arith)
          (l.invariant.1 (k + 1)
          (chain_more c.loop-j-test.true (subst (λ n. Chain c.args.work.now n k) parent h))),
    )

pub returns : goal.returns
returns c =
    let l = c.loop-j in
    let z : 0 ≡ l.j = omega arith in
    subst (λ n. Chain c.args.work.now c.args.i n) (omega arith)
    (l.invariant.1 0 (subst (λ n. Chain c.args.work.now n 0) z root))
