-- `Pass::visit` meets its contract: at every turn the places of the entry's mode below i are tried; an entry whose charge is not the greatest
-- of its node asks nothing. Assumes nothing.
use mathlib.Core.Path.{◌≡◌, sym, ap, ◌∙◌}
use Prim.Native.Nat.{ℕ, ◌+◌, ◌%◌}
use Rattle.std.proofs.lemmas.Option.{IfSome_then}
use native.Mathlib.Omega.{arith}
use Rattle.groups.specs.Grouped.{first_place}
use Rattle.passes.specs.Queue.{node_at}
use Rattle.passes.specs.declared.entries.EntryWords.{EntryWords}
use Rattle.passes.specs.declared.pass.Entry.{Entry}
use Rattle.passes.proofs.Queue.{entry-low, entry-space}
use Rattle.passes.proofs.Passes.{some-there, none-there, tried-closed, tried-less, visited-tried}
use Rattle.passes.proofs.Trying.{tried-next}
use Rattle.passes.proofs.pass.Pass.visit.Goals as goal

pub words_of-words-requires : goal.words_of-words-requires
words_of-words-requires c =
    let running = c.requires.running in
    (entry-space c.args.head running.ready running.queue c.requires.head_lt_tail).0

pub is_greatest-requires : goal.is_greatest-requires
is_greatest-requires c =
    let running = c.requires.running in
    let low = entry-low c.args.head running.queue c.requires.head_lt_tail in
    rw c.words_of-words.ensures (low.0, omega (arith, low.1, running.ready.low))

pub entry_of-entry-requires : goal.entry_of-entry-requires
entry_of-entry-requires c = c.requires.running.ready.some-mode

pub returns-then-is_some : goal.returns-then-is_some
returns-then-is_some c =
    let r = c.entry_of-entry in
    let index : r.result.index ≡ c.args.head = ap {B = ℕ} (λ (h : Entry). h.index) r.ensures in
    record {
      visited =
          visited-tried c.requires.running.ready
          (tried-closed _ (some-there _ (sym c.is_some.ensures ∙ c.if-is_some.true))
          (tried-next r.result.index c.args.head c.loop-i.invariant c.requires.head_lt_tail index c.relax-outcome.ensures.tried));
      entry = IfSome_then c.relax-outcome.result.found c.relax-outcome.ensures.entry (λ k e. e ∙ index);
    }

pub loop-i-preserved : goal.loop-i-preserved
loop-i-preserved c =
    let r = c.entry_of-entry in
    let index : r.result.index ≡ c.args.head = ap {B = ℕ} (λ (h : Entry). h.index) r.ensures in
    rw (none-there _ (sym c.is_some.ensures ∙ c.if-is_some.false)) at
    (tried-next r.result.index c.args.head c.loop-i.invariant c.requires.head_lt_tail index c.relax-outcome.ensures.tried)

pub returns : goal.returns
returns c =
    let s = c.args in
    let mode = node_at s.work.now s.head % s.self.now.task.modes in
    let end : c.first_place-end.result ≡ first_place s.self.now.groups.now.places (mode + 1) =
    c.first_place-end.ensures
    ∙ ap {B = ℕ} (λ m. first_place s.self.now.groups.now.places (m + 1)) (ap {B = ℕ} (λ (h : Entry). h.mode) c.entry_of-entry.ensures)
    ∙ ap {B = ℕ} (λ (x : EntryWords). first_place s.self.now.groups.now.places (x.node % s.self.now.task.modes + 1)) c.words_of-words.ensures in
    record {
      visited =
          visited-tried c.requires.running.ready
          (tried-less (omega (arith, end, c.loop-i-test.false)) c.loop-i.invariant);
      entry = tt;
    }
