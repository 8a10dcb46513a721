use Rattle.std.proofs.Common.{◌∙◌}
use Rattle.pk_values.proofs.NameSetLemmas.{name_added}
use Rattle.pk_parse.proofs.declared.add_names.Goals as goal

pub loop-column-preserved : goal.loop-column-preserved
loop-column-preserved c =
    name_added c.args.columns.now c.loop-column.column-index c.column-item.result c.as_slice.result c.args.names.now c.loop-column.names c.insert.new.self c.loop-column-test.true (c.as_slice.ensures.bytes ∙ c.column-item.is) c.in_ok-insert.ensures.updates c.loop-column.invariant
