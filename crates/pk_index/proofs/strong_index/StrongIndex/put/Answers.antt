use Rattle.std.proofs.Common.{ap, sym, ◌∙◌}
use Rattle.std.specs.Str.{bytes_eq}
use Rattle.pk_values.specs.ColumnSet.{columns}
use Rattle.pk_index.specs.Rows.{values_on, mark_of}
use Rattle.pk_index.proofs.EachLemmas.{at_ok, puts_same}
use Rattle.pk_index.proofs.StrongLemmas.{files, mark_of_key, shows_put}
use Rattle.pk_index.proofs.strong_index.StrongIndex.put.Goals as goal

pub returns-clause-shows : goal.returns-clause-shows
returns-clause-shows c =
    let index = c.args.self.now in
    let mark = mark_of (values_on (columns index.columns) c.args.row.now) in
    at_ok c.put.result _ _
    (λ puts. shows_put index c.put.new.self c.args.id mark (mark_of_key index.columns c.args.row.now c.push_mark-known.ensures.storable)
    (puts_same c.args.id (files mark) (bytes_eq c.as_slice.result.now) index.filed c.put.new.self
    (λ bytes. ap (λ front. bytes_eq front bytes) (sym (c.as_slice.ensures ∙ c.push_mark-known.ensures.items))) puts)) c.put.ensures
