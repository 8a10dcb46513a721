use Rattle.pk_syntax.specs.declared.declaration.ColumnDecl.{ColumnDecl}
use Rattle.pk_schema.proofs.KnownLemmas.{known_more}
use Rattle.pk_schema.proofs.known.column_names.Goals as goal

pub loop-column-preserved : goal.loop-column-preserved
loop-column-preserved c =
    known_more (λ (d : ColumnDecl). d.name) c.args.columns.now c.loop-column.column-index _ c.as_slice.result c.loop-column.names c.insert.new.self c.loop-column-test.true c.column-item.is
    c.as_slice.ensures.bytes c.in_ok-insert.ensures.updates c.loop-column.invariant
