-- `reading::fill` meets its contract: the loop keeps `TextsWriting`, and there are no more lines than a place can count. Assumes nothing.
use mathlib.Core.Path.{◌≡◌, ap, ◌∙◌}
use mathlib.Core.Logic.{inl}
use native.Mathlib.Omega.{arith}
use lib.ListN.{length}
use Rattle.fields.specs.Bytes.{feed}
use Rattle.fields.specs.Fields.{lines_of, pieces_left}
use Rattle.fields.proofs.Pieces.{split_few}
use Rattle.std.specs.Iterator.Adapters.{enumerate_source, enumerate_count, zip_first, zip_second}
use Rattle.filling.specs.Filling.{lists_lent}
use Rattle.filling.proofs.Lent.{same-then}
use Rattle.reading.specs.Within.{edge_said}
use Rattle.reading.proofs.Writing.{arcs-next, arcs-end, texts-narrow, texts-more, texts-done}
use Rattle.reading.proofs.fill.Goals as goal

pub loop-i-init-derived : goal.loop-i-init-derived
loop-i-init-derived c =
    let s = c.args.arcs.now in
    let it = c.into_iter-i-iterator.ensures.into_iter_gives in
    let none : enumerate_count c.into_iter-i-iterator.result ≡ 0 = ap enumerate_count it ∙ c.enumerate-i-items.ensures.count in
    let all : pieces_left (zip_second (enumerate_source c.into_iter-i-iterator.result)) ≡ lines_of s =
    ap (λ x. pieces_left (zip_second (enumerate_source x))) it ∙ ap (λ x. pieces_left (zip_second x)) c.enumerate-i-items.ensures.source
    ∙ ap pieces_left c.zip.ensures.second ∙ c.lines.ensures in
    (((tt, tt), tt, inl (omega (arith, none, ap length all, split_few feed s))), tt)

pub arc_of-requires : goal.arc_of-requires
arc_of-requires c =
    let now = enumerate_source c.loop-i.i-iterator in
    let then = enumerate_source c.next.new.self in
    texts-narrow _ _ _ _ _ c.loop-i.invariant.0 _ _
    (arcs-next (zip_first now) (zip_first then) (zip_second now) (zip_second then) (edge_said c.in-Some.edge) c.in-Some.arc.now
    c.in-Some.ensures.steps.0.0 c.in-Some.ensures.steps.0.1)

pub loop-i-preserved : goal.loop-i-preserved
loop-i-preserved c =
    let now = enumerate_source c.loop-i.i-iterator in
    let then = enumerate_source c.next.new.self in
    let (steps, place, count, _) = c.in-Some.ensures.steps in
    let next = arcs-next (zip_first now) (zip_first then) (zip_second now) (zip_second then) (edge_said c.in-Some.edge) c.in-Some.arc.now steps.0 steps.1 in (
      rw count (texts-more _ _ _ _ _ c.loop-i.invariant.0 _ _ next c.arc_of.result (lists_lent c.write.new.self) c.arc_of.ensures
          (rw place at c.write.ensures.arc)),
      same-then c.loop-i.invariant.1 c.write.ensures.same_lists,
    )

pub returns-clause-arcs : goal.returns-clause-arcs
returns-clause-arcs c =
    let now = enumerate_source c.loop-i.i-iterator in
    texts-done _ _ _ _ _ c.loop-i.invariant.0 (arcs-end (zip_first now) (zip_second now) c.in-None.ensures.steps.0)
