use Rattle.pk_guard.proofs.KeyLemmas.{similar_weak}
use Rattle.pk_values.specs.ColumnSet.{columns}
use Rattle.pk_guard.proofs.judging.break_of.Goals as goal

pub fill-requires-clause-similar : goal.fill-requires-clause-similar
fill-requires-clause-similar c = similar_weak c.args.key.now.sort (columns c.args.key.now.columns) c.args.low.now.row c.args.high.now.row c.requires.broken
