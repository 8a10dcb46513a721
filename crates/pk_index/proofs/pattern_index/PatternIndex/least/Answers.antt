use Rattle.std.proofs.Common.{ap, subst, ◌∙◌, ◌++◌}
use Rattle.pk_values.specs.ColumnSet.{columns}
use Rattle.pk_index.specs.Rows.{IsLeast}
use Rattle.pk_index.specs.Filing.{has, probe_record}
use Rattle.pk_index.proofs.PatternLemmas.{least_shown}
use Rattle.pk_index.proofs.RowLemmas.{all_room}
use Rattle.pk_index.proofs.pattern_index.PatternIndex.least.Goals as goal

pub push_asked-requires-clause-room : goal.push_asked-requires-clause-room
push_asked-requires-clause-room g c = all_room _ c.args.self.now.columns c.new-bytes.ensures.items

pub returns-clause-least : goal.returns-clause-least
returns-clause-least g c =
    let index = c.args.self.now in
    least_shown index c.args.pattern c.args.probe.now c.args.outside.now c.least.result c.push_asked.ensures.storable c.requires.known
    (subst (λ bytes. IsLeast (has index.filed bytes) c.args.outside.now c.least.result)
    (c.as_slice.ensures ∙ c.push_asked.ensures.items ∙ ap (λ bytes. bytes ++ probe_record c.args.pattern (columns index.columns) c.args.probe.now) c.new-bytes.ensures.items)
    c.least.ensures.least)
