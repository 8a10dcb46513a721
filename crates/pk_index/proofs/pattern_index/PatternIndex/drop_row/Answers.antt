use Rattle.std.proofs.Common.{ap, sym}
use Rattle.pk_values.specs.ColumnSet.{columns}
use Rattle.pk_index.specs.Rows.{values_on}
use Rattle.pk_index.specs.Filing.{is_filed_behind}
use Rattle.pk_index.proofs.EachLemmas.{takes_same}
use Rattle.pk_index.proofs.PatternLemmas.{files, shows_drop}
use Rattle.pk_index.proofs.RowLemmas.{all_room}
use Rattle.pk_index.proofs.pattern_index.PatternIndex.drop_row.Goals as goal

pub take_each-requires-clause-room : goal.take_each-requires-clause-room
take_each-requires-clause-room c = all_room _ c.args.self.now.columns c.new-bytes.ensures.items

pub returns-clause-shows : goal.returns-clause-shows
returns-clause-shows c =
    let index = c.args.self.now in
    let vs = values_on (columns index.columns) c.args.row.now in
    shows_drop index c.remove.new.self c.take_each.new.filed c.args.id vs c.remove.ensures.updates
    (takes_same c.args.id (files index vs) (is_filed_behind c.new-bytes.result.items index.nullable (columns index.columns) vs) index.filed c.take_each.new.filed
    (λ bytes. ap (λ front. is_filed_behind front index.nullable (columns index.columns) vs bytes) (sym c.new-bytes.ensures.items)) c.take_each.ensures.filed)
