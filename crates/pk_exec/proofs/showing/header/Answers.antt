use Rattle.std.proofs.Common.{◌∙◌, ap, sym}
use Rattle.pk_syntax.specs.declared.declaration.ColumnDecl.{ColumnDecl}
use Rattle.pk_exec.proofs.RowLemmas.{header_more}
use Rattle.pk_exec.proofs.showing.header.Goals as goal

pub loop-column-preserved : goal.loop-column-preserved
loop-column-preserved c =
    header_more c.args.columns.now c.args.shown.now c.loop-column.column-index c.loop-column.names.items c.push.new.self.items c.index-columns-column.result c.in_ok-copy.field-0
    c.loop-column-test.true (c.requires c.loop-column.column-index 0 c.loop-column-test.true) c.index-columns-column.is (c.in_ok-copy.ensures ∙ ap (λ (d : ColumnDecl). d.name) (sym c.index-columns-column.is))
    c.loop-column.invariant c.in_ok-push.ensures.items
