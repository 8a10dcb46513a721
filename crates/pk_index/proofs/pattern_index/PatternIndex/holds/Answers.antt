use Rattle.std.proofs.Common.{ap, ◌∙◌, ◌++◌}
use Rattle.pk_values.specs.ColumnSet.{columns}
use Rattle.pk_values.specs.Records.{row_record}
use Rattle.pk_index.specs.Rows.{values_on}
use Rattle.pk_index.specs.Filing.{has}
use Rattle.pk_index.proofs.PatternLemmas.{holds_shown}
use Rattle.pk_index.proofs.RowLemmas.{all_room}
use Rattle.pk_index.proofs.pattern_index.PatternIndex.holds.Goals as goal

pub push_row-known-requires-clause-room : goal.push_row-known-requires-clause-room
push_row-known-requires-clause-room c = all_room _ c.args.self.now.columns c.new-bytes.ensures.items

pub returns : goal.returns
returns c =
    let index = c.args.self.now in
    let vs = values_on (columns index.columns) c.args.row.now in
    λ held shows.
    c.has.ensures
    ∙ ap (λ bytes. has index.filed bytes c.args.id)
    (c.as_slice.ensures ∙ c.push_row-known.ensures.items ∙ ap (λ bytes. bytes ++ row_record vs) c.new-bytes.ensures.items)
    ∙ holds_shown index c.args.id c.args.row.now c.push_row-known.ensures.storable held shows
