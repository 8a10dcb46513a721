use Rattle.pk_index.proofs.RowLemmas.{all_room}
use Rattle.pk_index.proofs.strong_index.push_mark.Goals as goal

pub push_row-requires-clause-room : goal.push_row-requires-clause-room
push_row-requires-clause-room c = all_room _ c.args.cols c.requires.empty
