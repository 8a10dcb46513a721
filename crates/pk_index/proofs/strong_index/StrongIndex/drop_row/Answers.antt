use Rattle.std.proofs.Common.{ap, sym, ◌∙◌}
use Rattle.std.specs.Str.{bytes_eq}
use Rattle.pk_values.specs.ColumnSet.{columns}
use Rattle.pk_index.specs.Rows.{values_on, mark_of}
use Rattle.pk_index.proofs.EachLemmas.{takes_same}
use Rattle.pk_index.proofs.StrongLemmas.{files, shows_drop}
use Rattle.pk_index.proofs.strong_index.StrongIndex.drop_row.Goals as goal

pub returns-clause-shows : goal.returns-clause-shows
returns-clause-shows c =
    let index = c.args.self.now in
    let mark = mark_of (values_on (columns index.columns) c.args.row.now) in
    shows_drop index c.take.new.self c.args.id mark
    (takes_same c.args.id (files mark) (bytes_eq c.as_slice.result.now) index.filed c.take.new.self
    (λ bytes. ap (λ front. bytes_eq front bytes) (sym (c.as_slice.ensures ∙ c.push_mark-known.ensures.items))) c.take.ensures)
