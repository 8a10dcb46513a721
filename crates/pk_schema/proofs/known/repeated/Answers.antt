use Rattle.std.proofs.Common.{sym, ◌∙◌, ap, Some}
use Rattle.pk_schema.proofs.KnownLemmas.{known_more, known_stands_twice, new_decides}
use Rattle.pk_schema.proofs.known.repeated.Goals as goal

pub returns-then-not-branch : goal.returns-then-not-branch
returns-then-not-branch g c =
    ap (λ n. Some n) (sym c.as_slice.ensures.bytes)
    ∙ known_stands_twice g.T.Named.name c.args.items.now c.loop-item.item-index _ c.as_slice.result.now c.loop-item.names c.in_ok-insert.field-0 c.loop-item-test.true c.item-item.is
    (c.as_slice.ensures.bytes ∙ c.name-name.ensures) c.in_ok-insert.ensures.added c.if-not-branch.true c.loop-item.invariant.known c.loop-item.invariant.decides

pub loop-item-preserved : goal.loop-item-preserved
loop-item-preserved g c = record {
  decides = new_decides g.T.Named.name c.args.items.now c.loop-item.item-index _ c.as_slice.result.now c.loop-item.names c.in_ok-insert.field-0 c.loop-item-test.true c.item-item.is
      (c.as_slice.ensures.bytes ∙ c.name-name.ensures) c.in_ok-insert.ensures.added c.if-not-branch.false c.loop-item.invariant.known c.loop-item.invariant.decides;
  known = known_more g.T.Named.name c.args.items.now c.loop-item.item-index _ c.as_slice.result c.loop-item.names c.insert.new.self c.loop-item-test.true c.item-item.is
      (c.as_slice.ensures.bytes ∙ c.name-name.ensures) c.in_ok-insert.ensures.updates c.loop-item.invariant.known;
}
