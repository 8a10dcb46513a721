use Rattle.std.proofs.Common.{Some, ap, sym, subst}
use Rattle.std.specs.BTreeMap as tree
use Rattle.std.specs.Ordering.{nat_cmp}
use Rattle.pk_values.specs.ColumnSet.{columns}
use Rattle.pk_index.specs.Rows.{values_on}
use Rattle.pk_index.specs.Filing.{is_filed_behind}
use Rattle.pk_index.proofs.EachLemmas.{puts_same}
use Rattle.pk_index.proofs.PatternLemmas.{files, part_of_key, shows_put}
use Rattle.pk_index.proofs.pattern_index.PatternIndex.put.Goals as goal

pub returns-clause-shows : goal.returns-clause-shows
returns-clause-shows c =
    let index = c.args.self.now in
    let row = c.args.row.now in
    let vs = values_on (columns index.columns) row in
    shows_put index c.insert.new.self c.put_each.new.filed c.args.id vs (part_of_key index.columns row c.in_ok-put_each.ensures.storable)
    (subst (λ v. tree.Updates nat_cmp index.held c.insert.new.self c.args.id (Some v)) c.in_ok-values.ensures c.in_ok-insert.ensures.updates)
    (puts_same c.args.id (files index vs) (is_filed_behind c.new-bytes.result.items index.nullable (columns index.columns) vs) index.filed c.put_each.new.filed
    (λ bytes. ap (λ front. is_filed_behind front index.nullable (columns index.columns) vs bytes) (sym c.new-bytes.ensures.items)) c.in_ok-put_each.ensures.filed)
